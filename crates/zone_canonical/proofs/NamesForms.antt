-- Data that ends with names: its canonical form is its octets with those of the names in lower case.
use Rattle.std.proofs.Common.{◌≡◌, ◌≤◌, ◌+◌, ℕ, zero, suc, Bool, true, false, List, [], ◌∷◌, ◌++◌, length, take, drop, map, refl, sym, ap, ◌∙◌, subst, arith}
use Rattle.std.specs.Prelude.{Some, None}
use Rattle.std.specs.Char.{to_ascii_lowercase}
use Rattle.std.specs.Int.{to_be_bytes, w16}
use Rattle.std.specs.List.{AllByRecursion}
use Rattle.std.proofs.lemmas.List.{map-append}
use Rattle.dns_label.specs.Name.{low, wire}
use Rattle.dns_wire.proofs.Case.{low_wire}
use Rattle.dns_rdata.specs.Fields.{Kind, Number16, Compressible, Uncompressed, Field, number16, compressible, uncompressed, kind_of, kinds_of, IsField, octets, canonical_octets}
use Rattle.dns_rdata.specs.OctetsForm.{IsCanonicalData, typed, unknown}
use Rattle.zone_canonical.specs.DataForm.{EndsInNames, data_form}
use Rattle.zone_canonical.proofs.DataForms.{data_formed}

-- whether fields of these kinds are numbers in so many octets, and names behind them
abbrev pub are_low_from : ℕ → List Kind → Bool
are_low_from zero [] = true
are_low_from zero (Compressible ∷ kinds) = are_low_from zero kinds
are_low_from zero (Uncompressed ∷ kinds) = are_low_from zero kinds
are_low_from (suc (suc place)) (Number16 ∷ kinds) = are_low_from place kinds
are_low_from place kinds = false

-- the form has this place
abbrev IsLowFrom : ℕ → List ℕ → List ℕ → Type 0
IsLowFrom place data' form = (place ≤ length data') × (form ≡ take place data' ++ map to_ascii_lowercase (drop place data'))

low_names : (name : List (List ℕ)) (behind form : List ℕ) → IsField (compressible name) → IsLowFrom 0 behind form
    → IsLowFrom 0 (wire name ++ behind) (wire (low name) ++ form)
low_names name behind form is low = (
  omega arith,
  (λ i. sym (low_wire name is.labels) i ++ low.1 i) ∙ sym (map-append to_ascii_lowercase (wire name) behind),
)

low_row : (place : ℕ) (row : List Field) → AllByRecursion IsField row → are_low_from place (map kind_of row) ≡ true
    → IsLowFrom place (octets row) (canonical_octets row)
low_row zero [] each low = (omega arith, refl)
low_row zero (compressible name ∷ row) each low = low_names name (octets row) (canonical_octets row) each.0 (low_row zero row each.1 low)
low_row zero (uncompressed name ∷ row) each low = low_names name (octets row) (canonical_octets row) each.0 (low_row zero row each.1 low)
low_row (suc (suc place)) (number16 n ∷ row) each low =
    let rest = low_row place row each.1 low in
    (omega (arith, rest.0), ap (λ l. to_be_bytes w16 n ++ l) rest.1)
low_row place row each low = absurd (let e : false ≡ true = low in cc)

unlike : (rtype : ℕ) (kinds : List Kind) → kinds_of rtype ≡ Some kinds → kinds_of rtype ≡ None → ⊥
unlike rtype kinds is none = let e : Some kinds ≡ None = sym is ∙ none in cc

-- by the kinds of a known type
pub ends_in_names : (rtype known place : ℕ) (kinds : List Kind) → rtype ≡ known → kinds_of known ≡ Some kinds → are_low_from place kinds ≡ true
    → EndsInNames rtype place
ends_in_names rtype known place kinds same is low data' of = of_form (data_formed rtype data' of)
  where
    kinds_is : kinds_of rtype ≡ Some kinds
    kinds_is = ap kinds_of same ∙ is

    of_form : IsCanonicalData rtype data' (data_form rtype data') → IsLowFrom place data' (data_form rtype data')
    of_form (typed row is_row are form_is) =
        let both : Some (map kind_of row) ≡ Some kinds = sym is_row.kinds ∙ kinds_is in
        let one : map kind_of row ≡ kinds = cc in
        let found = low_row place row is_row.each (ap (are_low_from place) one ∙ low) in
        subst (λ l. IsLowFrom place l (data_form rtype data')) (sym are) (subst (IsLowFrom place (octets row)) (sym form_is) found)
    of_form (unknown none form_is) = absurd (unlike rtype kinds kinds_is none)
