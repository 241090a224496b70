-- Suffixes are read at their places.
use Rattle.std.proofs.Common.{◌≡◌, ◌≤◌, ◌+◌, ℕ, Bool, true, false, List, [], ◌∷◌, ◌++◌, length, take, map, refl, sym, ◌∙◌, ap, arith, length-append}
use Rattle.std.specs.Prelude.{filter, nat_le, ◌↔◌, IsTrue}
use Rattle.std.specs.Char.{to_ascii_lowercase}
use Rattle.std.specs.Coded.{Coded-set, coded_bool, le_prop}
use Rattle.std.proofs.lemmas.List.{map-append, length-map}
use mathlib.Core.Logic.{∥∥₁_elim}
use Rattle.dns_octets.specs.Builder.{Standing, Known, before}
use Rattle.dns_label.specs.Name.{IsName, wire, low}
use Rattle.dns_label.specs.Spelled.{DecodesName}
use Rattle.dns_wire.proofs.Case.{same_bool}
use Rattle.dns_name.specs.Spelling.{static_spelling, is_same}
use Rattle.dns_name.specs.Remembered.{IsKnown, IsSound}
use Rattle.dns_name.proofs.Folding.{same_from, folded-form}
use Rattle.dns_compression_laws.proofs.Remembered.{there}
use Rattle.dns_compression_laws.proofs.SameNames.{same_names, folded-wire}
use Rattle.dns_compress.specs.declared.spot.Spot.{Spot}
use Rattle.dns_compress.specs.Spots.{read_at, read_all, spot_of, spots_of, read_known, spots_back}
use Rattle.dns_compress.proofs.Sound.{sound_before}

spots_before : (len : ℕ) (octets : List ℕ) (spots : List Spot)
    → spots_of (before len (read_all octets spots)) ≡ filter (λ spot. nat_le spot.stop len) spots
spots_before len octets [] = refl
spots_before len octets (spot ∷ spots) = by_test (nat_le spot.stop len) refl (spots_before len octets spots)
  where
    by_test : (test : Bool) → nat_le spot.stop len ≡ test
        → spots_of (before len (read_all octets spots)) ≡ filter (λ spot. nat_le spot.stop len) spots
        → spots_of (before len (read_all octets (spot ∷ spots))) ≡ filter (λ spot. nat_le spot.stop len) (spot ∷ spots)
    by_test true is on = rw is (ap (λ (l : List Spot). spot ∷ l) on)
    by_test false is on = rw is on

pub read_before : (len : ℕ) (octets : List ℕ) (spots kept : List Spot) → kept ≡ filter (λ spot. nat_le spot.stop len) spots
    → ∥ IsSound static_spelling (read_all octets spots) octets ∥₁ → read_all (take len octets) kept ≡ before len (read_all octets spots)
read_before len octets spots kept is sound =
    ap (read_all (take len octets)) (is ∙ sym (spots_before len octets spots))
    ∙ read_known (before len (read_all octets spots)) (take len octets) (sound_before len (take len octets) refl sound)

-- more of them
pub read_more : (octets : List ℕ) (spots new : List Spot) (added : Known) → new ≡ spots ++ spots_of added
    → ∥ IsSound static_spelling (read_all octets spots ++ added) octets ∥₁ → read_all octets new ≡ read_all octets spots ++ added
read_more octets spots new added is sound =
    ap (read_all octets) (is ∙ ap (λ (l : List Spot). l ++ spots_of added) (sym (spots_back octets spots))
    ∙ sym (map-append spot_of (read_all octets spots) added))
    ∙ read_known (read_all octets spots ++ added) octets sound

pub few_spots : {octets : List ℕ} (spots : List Spot) (added : Known) → ∥ IsSound static_spelling (read_all octets spots ++ added) octets ∥₁
    → length spots + length added ≤ 24
few_spots {octets} spots added sound =
    ∥∥₁_elim sound le_prop (λ sound.
    omega (arith, sound.few, length-append (read_all octets spots) added, length-map spots (read_at octets)))

-- a name is compared with the suffix at the place
pub same_there : (known : Known) (octets : List ℕ) (standing : Standing) (name : List (List ℕ)) (result : Bool) → ∥ IsSound static_spelling known octets ∥₁
    → IsKnown standing known → IsName name
    → ((read : List (List ℕ)) (next : ℕ) → DecodesName octets standing.place read next → IsTrue result ↔ (low read ≡ low name))
    → is_same static_spelling standing.suffix (wire name) ≡ result
same_there known octets standing name result sound is is_name told =
    ∥∥₁_elim sound (Coded-set coded_bool _ _) (λ sound.
    let found = there static_spelling known octets sound standing is in
    let tells = told found.name standing.stop found.reads in
    same_bool (is_same static_spelling standing.suffix (wire name)) result
    (λ same. tells.1 (sym (same_names static_spelling standing.suffix found.name name found.suffix_is found.reads.is_name.labels is_name.labels same)))
    (λ yes. same_from static_spelling standing.suffix (wire name)
    (ap (map to_ascii_lowercase) found.suffix_is ∙ folded-form static_spelling found.name
    ∙ folded-wire static_spelling found.name found.reads.is_name.labels
    ∙ ap wire (tells.0 yes) ∙ sym (folded-wire static_spelling name is_name.labels))))
