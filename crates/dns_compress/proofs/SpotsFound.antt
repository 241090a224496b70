-- A suffix is searched for among those that are read at their places.
use Rattle.std.proofs.Common.{◌≡◌, ◌≤◌, ◌<◌, ◌+◌, ℕ, zero, suc, Bool, true, false, Some, None, List, [], ◌∷◌, length, drop, get_or, refl, sym, ◌∙◌, ap, subst, arith}
use Rattle.std.proofs.Math.Seq.{drop-cons}
use Rattle.std.proofs.lemmas.List.{drop_all}
use Rattle.dns_octets.specs.Builder.{Known}
use Rattle.std.proofs.lemmas.List.{length-drop}
use Rattle.dns_label.specs.Spelled.{DecodesName, EncodesName}
use Rattle.dns_label.specs.Spelled.EncodesName.{root, label as labelled, pointer}
use Rattle.dns_label.proofs.Spelling.{labels_at-reads}
use Rattle.dns_name.specs.Spelling.{static_spelling, is_same, place_in}
use Rattle.dns_name.specs.Remembered.{IsKnown}
use Rattle.dns_name.specs.Remembered.IsKnown.{first, later}
use Rattle.dns_compress.specs.declared.spot.Spot.{Spot}
use Rattle.dns_compress.specs.Tables.{added}
use Rattle.dns_compress.specs.Spots.{read_at, read_all, spots_of}

pub spot_known : (octets : List ℕ) (spots : List Spot) (i : ℕ) (spot other : Spot) → i < length spots → spot ≡ get_or spots i other
    → IsKnown (read_at octets spot) (read_all octets spots)
spot_known octets [] i spot other within is = absurd (omega arith)
spot_known octets (one ∷ spots) zero spot other within is =
    subst (λ (s : Spot). IsKnown (read_at octets s) (read_all octets (one ∷ spots))) (sym is) first
spot_known octets (one ∷ spots) (suc i) spot other within is = later (spot_known octets spots i spot other (omega arith) is)

module _ (octets : List ℕ) (spots : List Spot) (suffix : List ℕ) (i : ℕ) (so_far : place_in static_spelling (read_all octets (drop i spots)) suffix ≡ place_in static_spelling (read_all octets spots) suffix) where
  module _ (spot other : Spot) (within : i < length spots) (is : spot ≡ get_or spots i other) where
    here : read_all octets (drop i spots) ≡ read_at octets spot ∷ read_all octets (drop (suc i) spots)
    here =
        ap (read_all octets) (drop-cons spots i other within)
        ∙ ap (λ (s : Spot). read_at octets s ∷ read_all octets (drop (suc i) spots)) (sym is)

    found_by : (test : Bool) → is_same static_spelling (read_at octets spot).suffix suffix ≡ test → test ≡ true
        → Some spot.place ≡ place_in static_spelling (read_at octets spot ∷ read_all octets (drop (suc i) spots)) suffix
    found_by true same holds = rw same refl
    found_by false same holds = absurd (let e : false ≡ true = holds in cc)

    pub found_here : (test : Bool) → is_same static_spelling (read_at octets spot).suffix suffix ≡ test → test ≡ true
        → Some spot.place ≡ place_in static_spelling (read_all octets spots) suffix
    found_here test same holds =
        found_by test same holds ∙ ap (λ (l : Known). place_in static_spelling l suffix) (sym here) ∙ so_far

    passed_by : (test : Bool) → is_same static_spelling (read_at octets spot).suffix suffix ≡ test → test ≡ false
        → place_in static_spelling (read_all octets (drop (suc i) spots)) suffix
        ≡ place_in static_spelling (read_at octets spot ∷ read_all octets (drop (suc i) spots)) suffix
    passed_by true same fails = absurd (let e : true ≡ false = fails in cc)
    passed_by false same fails = rw same refl

    pub passed : (test : Bool) (next : ℕ) → next ≡ i + 1 → is_same static_spelling (read_at octets spot).suffix suffix ≡ test → test ≡ false
        → place_in static_spelling (read_all octets (drop next spots)) suffix ≡ place_in static_spelling (read_all octets spots) suffix
    passed test next nexts same fails =
        let e : next ≡ suc i = omega arith in
        ap (λ n. place_in static_spelling (read_all octets (drop n spots)) suffix) e
        ∙ passed_by test same fails ∙ ap (λ (l : Known). place_in static_spelling l suffix) (sym here) ∙ so_far

  pub found_nowhere : length spots ≤ i → None ≡ place_in static_spelling (read_all octets spots) suffix
  found_nowhere past = ap (λ (l : List Spot). place_in static_spelling (read_all octets l) suffix) (sym (drop_all i spots past)) ∙ so_far

-- one label more
module _ (count more place next stop : ℕ) (name : List (List ℕ)) (label : List ℕ) (parent : List (List ℕ)) (is : name ≡ label ∷ parent)
    (mores : more ≡ suc count) (nexts : next ≡ place + 1 + length label) where
  pub spots-label : spots_of (added static_spelling more place stop name)
      ≡ record { place = place; stop = stop } ∷ spots_of (added static_spelling count next stop parent)
  spots-label =
      ap (λ n. spots_of (added static_spelling more place stop n)) is
      ∙ ap (λ n. spots_of (added static_spelling n place stop (label ∷ parent))) mores
      ∙ ap (λ n. record { place = place; stop = stop } ∷ spots_of (added static_spelling count n stop parent)) (sym nexts)

  pub length-label : length (added static_spelling more place stop name) ≡ suc (length (added static_spelling count next stop parent))
  length-label =
      ap (λ n. length (added static_spelling more place stop n)) is
      ∙ ap (λ n. length (added static_spelling n place stop (label ∷ parent))) mores
      ∙ ap (λ n. suc (length (added static_spelling count n stop parent))) (sym nexts)

-- a place at which a name is read is within the octets
within_by : (octets : List ℕ) (pointers place : ℕ) (name : List (List ℕ)) (next : ℕ) → EncodesName octets pointers place name next → place ≤ length octets
within_by octets pointers place name next (root rest at) = omega (arith, ap (length {A = ℕ}) at, length-drop place octets)
within_by octets pointers place name next (labelled rest at is on) = omega (arith, ap (length {A = ℕ}) at, length-drop place octets)
within_by octets pointers place name next (pointer high low after rest at both back on) =
    omega (arith, ap (length {A = ℕ}) at, length-drop place octets)

pub reads_within : {octets : List ℕ} {place next : ℕ} {name : List (List ℕ)} → DecodesName octets place name next → place ≤ length octets
reads_within {octets} {place} {next} {name} reads = within_by octets 255 place name next reads.spelled

-- one name is read there
module _ {octets message : List ℕ} {place at : ℕ} (same : message ≡ octets) (here : at ≡ place) where
  pub reads_at : {name : List (List ℕ)} {next : ℕ} → DecodesName octets place name next → DecodesName message at name next
  reads_at {name} {next} reads = subst (λ l. DecodesName l at name next) (sym same) (subst (λ n. DecodesName octets n name next) (sym here) reads)

  pub read_one : {name other : List (List ℕ)} {next end : ℕ} → DecodesName message at name next → DecodesName octets place other end → name ≡ other
  read_one reads read = sym (labels_at-reads reads) ∙ labels_at-reads (reads_at read)
