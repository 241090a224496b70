-- Octets of data have the canonical form of its fields.
use Rattle.std.proofs.Common.{◌≡◌, ℕ, Bool, true, false, List, [], ◌∷◌, ◌++◌, length, take, drop, map, refl, sym, ap, ◌∙◌, subst, append-nil}
use Rattle.std.specs.Prelude.{Option, Some, None, ◌==◌, ◌&&◌, not}
use Rattle.std.specs.Prelude.{if◌then◌else◌}
use Rattle.std.specs.List.{AllByRecursion, list_all}
use Rattle.std.proofs.lemmas.Bool.{and_parts}
use Rattle.std.proofs.Math.Seq.{take-append_seam, drop-append_seam}
use Rattle.std.proofs.lemmas.List.{take-append-drop}
use Rattle.std.specs.Char.{to_ascii_lowercase}
use Rattle.dns_rdata.specs.Fields as fields
use Rattle.dns_rdata.specs.Fields.{Kind, Field, kind_of, kinds_in, kinds_of, table, IsField, IsRow, IsData, field_octets, octets, lowered, canonical_octets}
use Rattle.dns_rdata.specs.OctetsForm.{IsCanonicalData, typed, unknown, form_of_kind, is_last, is_name, len_in}
use Rattle.dns_canonical_form.proofs.OctetsForms.{field_long, last_long, lowered_form}
use Rattle.zone_canonical.specs.DataForm.{data_form, fields_form, form_by}

-- whether no field of these kinds but the last has all octets that are left
abbrev is_ended : List Kind → Bool
is_ended [] = true
is_ended (kind ∷ []) = true
is_ended (kind ∷ (next ∷ kinds)) = not (is_last kind) && is_ended (next ∷ kinds)

not_last : (last : Bool) → not last ≡ true → last ≡ false
not_last true is = sym is
not_last false is = refl

-- the form of the octets of a field, and of what is behind it
first_form : (field : Field) (behind : List ℕ) (kinds : List Kind) → IsField field
    → len_in (kind_of field) (field_octets field ++ behind) ≡ length (field_octets field)
    → fields_form (kind_of field ∷ kinds) (field_octets field ++ behind) ≡ field_octets (lowered field) ++ fields_form kinds behind
first_form field behind kinds is long =
    (λ i. form_of_kind (kind_of field) (take (long i) (field_octets field ++ behind)) ++ fields_form kinds (drop (long i) (field_octets field ++ behind)))
    ∙ (λ i. form_of_kind (kind_of field) (take-append_seam (field_octets field) behind i) ++ fields_form kinds (drop-append_seam (field_octets field) behind i))
    ∙ ap (λ l. l ++ fields_form kinds behind) (sym (lowered_form field is))

row_form : (row : List Field) → AllByRecursion IsField row → is_ended (map kind_of row) ≡ true → fields_form (map kind_of row) (octets row) ≡ canonical_octets row
row_form [] each ended = refl
row_form (field ∷ []) each ended =
    elim (is_last (kind_of field)) as (λ b. is_last (kind_of field) ≡ b → fields_form (kind_of field ∷ []) (field_octets field ++ []) ≡ field_octets (lowered field) ++ []) [
      | true ↦ λ last. first_form field [] [] each.0
          (last_long (kind_of field) (field_octets field ++ []) last ∙ ap (length {A = ℕ}) (append-nil (field_octets field)))
      | false ↦ λ ends. first_form field [] [] each.0 (field_long field [] each.0 ends)
    ] refl
row_form (field ∷ (next ∷ row)) each ended =
    let both = and_parts (not (is_last (kind_of field))) (is_ended (map kind_of (next ∷ row))) ended in
    first_form field (octets (next ∷ row)) (map kind_of (next ∷ row)) each.0
    (field_long field (octets (next ∷ row)) each.0 (not_last (is_last (kind_of field)) both.0))
    ∙ ap (λ l. field_octets (lowered field) ++ l) (row_form (next ∷ row) each.1 both.1)

in_table : (rows : List (ℕ × List Kind)) → list_all (λ (row : ℕ × List Kind). is_ended row.1) rows ≡ true → (rtype : ℕ) (kinds : List Kind)
    → kinds_in rows rtype ≡ Some kinds → is_ended kinds ≡ true
in_table [] each rtype kinds is = absurd (let e : None ≡ Some kinds = is in cc)
in_table (row ∷ rows) each rtype kinds is =
    let both = and_parts (is_ended row.1) (list_all (λ (row : ℕ × List Kind). is_ended row.1) rows) each in
    elim (rtype == row.0) as (λ v. (if v then Some row.1 else kinds_in rows rtype) ≡ Some kinds → is_ended kinds ≡ true) [
      | true ↦ λ (e : Some row.1 ≡ Some kinds). subst (λ k. is_ended k ≡ true) (let same : row.1 ≡ kinds = cc in same) both.0
      | false ↦ λ e. in_table rows both.1 rtype kinds e
    ] is

-- data has this form
pub data_formed : (rtype : ℕ) (data' : List ℕ) → IsData rtype data' → IsCanonicalData rtype data' (data_form rtype data')
unfolding data_form
data_formed rtype data' (fields.typed row is are) =
    typed row is are
    ((λ i. form_by (is.kinds i) (are i)) ∙ row_form row is.each (in_table table refl rtype (map kind_of row) is.kinds))
data_formed rtype data' (fields.unknown none short) = unknown none (ap (λ kinds. form_by kinds data') none)

-- whether no field of these kinds is a name
abbrev pub is_plain : Option (List Kind) → Bool
is_plain None = true
is_plain (Some kinds) = list_all (λ kind. not (is_name kind)) kinds

plain_fields : (kinds : List Kind) (data' : List ℕ) → list_all (λ kind. not (is_name kind)) kinds ≡ true → fields_form kinds data' ≡ data'
plain_fields [] data' plain = refl
plain_fields (kind ∷ kinds) data' plain =
    let both = and_parts (not (is_name kind)) (list_all (λ kind. not (is_name kind)) kinds) plain in
    let first = take (len_in kind data') data' in
    let rest = drop (len_in kind data') data' in
    let same : form_of_kind kind first ≡ first = ap (λ b. if b then map to_ascii_lowercase first else first) (not_last (is_name kind) both.0) in
    ap (λ l. l ++ fields_form kinds rest) same ∙ ap (λ l. first ++ l) (plain_fields kinds rest both.1) ∙ take-append-drop (len_in kind data') data'

plain_by : (kinds : Option (List Kind)) (data' : List ℕ) → is_plain kinds ≡ true → form_by kinds data' ≡ data'
plain_by None data' plain = refl
plain_by (Some kinds) data' plain = plain_fields kinds data' plain

-- data with no names is in canonical form
pub plain_data : (rtype known : ℕ) → rtype ≡ known → is_plain (kinds_of known) ≡ true → (data' : List ℕ) → data_form rtype data' ≡ data'
unfolding data_form
plain_data rtype known same plain data' = ap (λ n. form_by (kinds_of n) data') same ∙ plain_by (kinds_of known) data' plain
