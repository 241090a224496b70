-- Rows of names, numbers of four octets and addresses: octets are at most one row of such kinds, and such rows are
-- equal or not, up to case.
use Rattle.std.proofs.Common.{◌≡◌, ℕ, List, [], ◌∷◌, ◌++◌, map, refl, sym, ap, ◌∙◌, subst, inl, inr}
use Rattle.std.specs.Prelude.{⊤}
use Rattle.std.specs.Int.{to_be_bytes, w32}
use Rattle.std.specs.List.{AllByRecursion}
use Rattle.std.proofs.lemmas.Bool.{cases_eq}
use Rattle.dns_label.specs.Name.{low}
use Rattle.dns_rdata.specs.Fields.{Kind, Field, IsField, kind_of, field_octets, octets, lowered}
use Rattle.dns_rdata.specs.Fields.Kind.{Ipv4, Compressible, Number32}
use Rattle.dns_rdata.specs.Fields.Field.{number32, ipv4, compressible}
use Rattle.dns_octets.proofs.Fronts.{same_fronts, same_number32}
use Rattle.zone_records.proofs.Decided.{Decided, decided_names, decided_octets}
use Rattle.dns_wire.proofs.NameFronts.{wire_fronts}

-- the kinds of this file
abbrev pub IsPlainKind : Kind → Type 0
IsPlainKind Compressible = ⊤
IsPlainKind Number32 = ⊤
IsPlainKind Ipv4 = ⊤
IsPlainKind kind = ⊥

-- a field of such a kind
data FieldView : Field → Type 0 where
  name_view : (name : List (List ℕ)) → FieldView (compressible name)
  number_view : (n : ℕ) → FieldView (number32 n)
  address_view : (text : List ℕ) → FieldView (ipv4 text)

view : (field : Field) → IsPlainKind (kind_of field) → FieldView field
view (compressible name) plain = name_view name
view (number32 n) plain = number_view n
view (ipv4 text) plain = address_view text
view field plain = absurd plain

-- two fields of one kind at the start of octets
views_one : {f g : Field} (more rest : List ℕ) → FieldView f → FieldView g → kind_of f ≡ kind_of g → IsField f → IsField g
    → field_octets f ++ more ≡ field_octets g ++ rest → (f ≡ g) × (more ≡ rest)
views_one more rest (name_view name) (name_view other) kinds is is' e =
    let one = wire_fronts name other more rest is.labels is'.labels e in (ap compressible one.0, one.1)
views_one more rest (name_view name) (number_view n) kinds is is' e = absurd cc
views_one more rest (name_view name) (address_view text) kinds is is' e = absurd cc
views_one more rest (number_view m) (name_view name) kinds is is' e = absurd cc
views_one more rest (number_view m) (number_view n) kinds is is' e =
    let one = same_fronts (to_be_bytes w32 m) (to_be_bytes w32 n) more rest refl e in
    (ap number32 (same_number32 m n is is' one.0), one.1)
views_one more rest (number_view m) (address_view text) kinds is is' e = absurd cc
views_one more rest (address_view text) (name_view name) kinds is is' e = absurd cc
views_one more rest (address_view text) (number_view n) kinds is is' e = absurd cc
views_one more rest (address_view text) (address_view other) kinds is is' e =
    let one = same_fronts text other more rest (is ∙ sym is') e in (ap ipv4 one.0, one.1)

-- a row of such kinds
abbrev pub ArePlain : List Field → Type 0
ArePlain row = AllByRecursion (λ field. IsPlainKind (kind_of field)) row

pub are_plain : (row : List Field) (kinds : List Kind) → map kind_of row ≡ kinds → AllByRecursion IsPlainKind kinds → ArePlain row
are_plain [] kinds is plain = tt
are_plain (field ∷ row) [] is plain = absurd cc
are_plain (field ∷ row) (kind ∷ kinds) is plain =
    let first : kind ≡ kind_of field = cc in
    let rest : map kind_of row ≡ kinds = cc in
    let P : Kind → Type 0 = λ kind. IsPlainKind kind in
    (subst P first plain.0, are_plain row kinds rest plain.1)

-- octets are one row of the kinds
pub row_one : (row other : List Field) → ArePlain row → ArePlain other → map kind_of row ≡ map kind_of other
    → AllByRecursion IsField row → AllByRecursion IsField other → octets row ≡ octets other → row ≡ other
row_one [] [] plain plain' kinds each each' e = refl
row_one [] (g ∷ other) plain plain' kinds each each' e = absurd cc
row_one (f ∷ row) [] plain plain' kinds each each' e = absurd cc
row_one (f ∷ row) (g ∷ other) plain plain' kinds each each' e =
    let first : kind_of f ≡ kind_of g = cc in
    let behind : map kind_of row ≡ map kind_of other = cc in
    let fields = views_one (octets row) (octets other) (view f plain.0) (view g plain'.0) first each.0 each'.0 e in
    let rest = row_one row other plain.1 plain'.1 behind each.1 each'.1 fields.1 in
    cc (fields.0, rest)

-- rows up to ASCII case
views_decided : {f g : Field} → FieldView f → FieldView g → Decided (lowered f ≡ lowered g)
views_decided (name_view name) (name_view other) = elim (decided_names (low name) (low other)) [
  | inl same ↦ inl (ap compressible same)
  | inr apart ↦ inr (λ e. apart (cc (e)))
]
views_decided (name_view name) (number_view n) = inr (λ e. cc)
views_decided (name_view name) (address_view text) = inr (λ e. cc)
views_decided (number_view m) (name_view name) = inr (λ e. cc)
views_decided (number_view m) (number_view n) = elim (cases_eq m n) [
  | inl same ↦ inl (ap number32 same)
  | inr apart ↦ inr (λ e. apart (cc (e)))
]
views_decided (number_view m) (address_view text) = inr (λ e. cc)
views_decided (address_view text) (name_view name) = inr (λ e. cc)
views_decided (address_view text) (number_view n) = inr (λ e. cc)
views_decided (address_view text) (address_view other) = elim (decided_octets text other) [
  | inl same ↦ inl (ap ipv4 same)
  | inr apart ↦ inr (λ e. apart (cc (e)))
]

lowered_more : (f g : Field) (row other : List Field) → Decided (lowered f ≡ lowered g) → Decided (map lowered row ≡ map lowered other)
    → Decided (map lowered (f ∷ row) ≡ map lowered (g ∷ other))
lowered_more f g row other (inl same) (inl rest) = inl (cc (same, rest))
lowered_more f g row other (inl same) (inr apart) = inr (λ e. apart (cc (e)))
lowered_more f g row other (inr apart) rest = inr (λ e. apart (cc (e)))

pub lowered_decided : (row other : List Field) → ArePlain row → ArePlain other → Decided (map lowered row ≡ map lowered other)
lowered_decided [] [] plain plain' = inl refl
lowered_decided [] (g ∷ other) plain plain' = inr (λ e. cc)
lowered_decided (f ∷ row) [] plain plain' = inr (λ e. cc)
lowered_decided (f ∷ row) (g ∷ other) plain plain' =
    lowered_more f g row other (views_decided (view f plain.0) (view g plain'.0)) (lowered_decided row other plain.1 plain'.1)
