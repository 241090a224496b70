-- What a target remembers once it is emptied, and its header after a cut and after a part of it is overwritten.
use Rattle.std.proofs.Common.{◌≡◌, ◌≤◌, ◌<◌, ◌+◌, ◌*◌, ◌-◌, ℕ, zero, suc, true, List, [], ◌∷◌, ◌++◌, length, take, drop, sym, ◌∙◌, ap, subst, arith, length-append, length-drop}
use Rattle.std.specs.Prelude.{slice_index}
use Rattle.std.specs.Coded.{le_prop}
use Rattle.std.proofs.lemmas.List.{length-take, get_or-take}
use borrow.Rule.Slice.PartMut.{mid_of}
use mathlib.Core.Logic.{∥∥₁_elim}
use Rattle.dns_octets.specs.Builder.{Standing, Known, GrowsTo, before}
use Rattle.dns_name.specs.Spelling.{Spelling}
use Rattle.dns_name.specs.Remembered.{StandsIn, IsSound, is_free, patched}
use Rattle.dns_name.proofs.Known.{before_none}
use Rattle.dns_builder.proofs.FreeHeader.{free_within, free_before}

stands-long : (s : Spelling) (known : Known) (octets : List ℕ) (standing : Standing) → StandsIn s known octets standing → 0 < standing.stop
stands-long s known octets standing is = omega (arith, is.stops, ap (length {A = ℕ}) is.spelled.text_is)

-- a target without octets remembers nothing
pub cleared : {s : Spelling} {known : Known} {octets : List ℕ} → ∥ IsSound s known octets ∥₁ → before 0 known ≡ []
cleared {s} {known} {octets} sound =
    before_none 0 known (λ standing is. ∥∥₁_elim sound le_prop (λ sound. stands-long s known octets standing (sound.each standing is)))

-- what has grown is no shorter
pub grown-long : (end : ℕ) {old new : List ℕ} {known more : Known} → GrowsTo old known new more → end ≤ length old → end ≤ length new
grown-long end {old} {new} grown within = omega (arith, ap (length {A = ℕ}) grown.octets, length-append old grown.tail)

-- after a cut the header is still free
pub free_cut : (len end : ℕ) (known cut : Known) → cut ≡ before len known → is_free 0 end known ≡ true → is_free 0 end cut ≡ true
free_cut len end known cut is free = subst (λ (k : Known). is_free 0 end k ≡ true) (sym is) (free_before 0 end len known free)

pub free_same : (end : ℕ) (known same : Known) → same ≡ known → is_free 0 end known ≡ true → is_free 0 end same ≡ true
free_same end known same is free = subst (λ (k : Known). is_free 0 end k ≡ true) (sym is) free

-- the counts from one on are free
pub free_counts : (count : ℕ) (known : Known) → count < 4 → is_free 0 12 known ≡ true
    → is_free (4 + 2 * count) (4 + 2 * count + length (mid_of {X = ℕ} (2 * count) (8 - 2 * count) (0 ∷ 0 ∷ 0 ∷ 0 ∷ 0 ∷ 0 ∷ 0 ∷ 0 ∷ []))) known ≡ true
free_counts zero known few free = free_within 0 12 4 12 known free (omega arith) (omega arith)
free_counts (suc zero) known few free = free_within 0 12 6 12 known free (omega arith) (omega arith)
free_counts (suc (suc zero)) known few free = free_within 0 12 8 12 known free (omega arith) (omega arith)
free_counts (suc (suc (suc zero))) known few free = free_within 0 12 10 12 known free (omega arith) (omega arith)
free_counts (suc (suc (suc (suc more)))) known few free = absurd (omega arith)

-- octets cut at a length are at least as long
pub take-long : (end len : ℕ) (octets cut : List ℕ) → cut ≡ take len octets → end ≤ len → end ≤ length octets → end ≤ length cut
take-long end len octets cut is long whole = omega (arith, ap (length {A = ℕ}) is, length-take len octets)

-- octets are no shorter after some of them are overwritten
pub patched-long : (place : ℕ) (octets over new : List ℕ) → new ≡ patched octets place over → place ≤ length octets → length octets ≤ length new
patched-long place octets over new is within =
    omega (
      arith,
      ap (length {A = ℕ}) is,
      length-append (take place octets) (over ++ drop (place + length over) octets),
      length-append over (drop (place + length over) octets),
      length-take place octets,
      length-drop (place + length over) octets,
    )

-- so are octets with more after them
pub append-long : (octets more new : List ℕ) → new ≡ octets ++ more → length more ≤ length new
append-long octets more new is = omega (arith, ap (length {A = ℕ}) is, length-append octets more)

-- the first starts keep their places
pub behind-take : (end count : ℕ) (starts cut : List ℕ) → cut ≡ take count starts
    → ((number : ℕ) → number < length starts → end ≤ slice_index starts number)
    → (number : ℕ) → number < length cut → end ≤ slice_index cut number
behind-take end count starts cut is behind number within =
    let few : number < count = omega (arith, ap (length {A = ℕ}) is, length-take count starts) in
    let some : number < length starts = omega (arith, ap (length {A = ℕ}) is, length-take count starts) in
    let same : slice_index cut number ≡ slice_index starts number =
    ap (λ (l : List ℕ). slice_index l number) is ∙ get_or-take count starts number 0 few in
    omega (arith, same, behind number some)
