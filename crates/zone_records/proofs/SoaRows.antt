-- Rows of the type SOA: two names and five numbers of four octets each (RFC 1035 3.3.13).
use Rattle.std.proofs.Common.{◌≡◌, ℕ, ◌<◌, ◌^◌, List, [], ◌∷◌, length, map, Some, refl, sym, ◌∙◌, arith}
use Rattle.std.specs.List.{AllByRecursion}
use Rattle.dns_label.specs.Name.{IsName}
use Rattle.dns_rdata.specs.Fields.{Kind, Field, IsField, IsRow, kind_of}
use Rattle.dns_rdata.specs.Fields.Kind.{Compressible, Number32}
use Rattle.dns_rdata.specs.Fields.Field.{number8, number16, number32, ipv4, ipv6, compressible, uncompressed, string, strings, tag, rest_text, rest16, rest64}
use Rattle.zone_records.specs.Zone.{soa_type}

-- a field of the kind of names, and one of numbers
record NameField (field : Field) : Type 0 where
  name : List (List ℕ)
  is : field ≡ compressible name
  is_name : IsName name

record NumberField (field : Field) : Type 0 where
  number : ℕ
  is : field ≡ number32 number
  small : number < 2 ^ 32

name_field : (field : Field) → kind_of field ≡ Compressible → IsField field → NameField field
name_field (number8 n) kind is = absurd cc
name_field (number16 n) kind is = absurd cc
name_field (number32 n) kind is = absurd cc
name_field (ipv4 text) kind is = absurd cc
name_field (ipv6 text) kind is = absurd cc
name_field (compressible name) kind is = record { name = name; is = refl; is_name = is }
name_field (uncompressed name) kind is = absurd cc
name_field (string text) kind is = absurd cc
name_field (strings each) kind is = absurd cc
name_field (tag text) kind is = absurd cc
name_field (rest_text text) kind is = absurd cc
name_field (rest16 text) kind is = absurd cc
name_field (rest64 text) kind is = absurd cc

number_field : (field : Field) → kind_of field ≡ Number32 → IsField field → NumberField field
number_field (number8 n) kind is = absurd cc
number_field (number16 n) kind is = absurd cc
number_field (number32 n) kind is = record { number = n; is = refl; small = is }
number_field (ipv4 text) kind is = absurd cc
number_field (ipv6 text) kind is = absurd cc
number_field (compressible name) kind is = absurd cc
number_field (uncompressed name) kind is = absurd cc
number_field (string text) kind is = absurd cc
number_field (strings each) kind is = absurd cc
number_field (tag text) kind is = absurd cc
number_field (rest_text text) kind is = absurd cc
number_field (rest16 text) kind is = absurd cc
number_field (rest64 text) kind is = absurd cc

-- the row of two names and five numbers
abbrev pub soa_row : List (List ℕ) → List (List ℕ) → List ℕ → List Field
soa_row mname rname numbers = compressible mname ∷ compressible rname ∷ map number32 numbers

-- numbers that fit in four octets
abbrev pub AreSmall : List ℕ → Type 0
AreSmall numbers = AllByRecursion (λ n. n < 2 ^ 32) numbers

pub record IsSoaRow (row : List Field) : Type 0 where
  pub mname : List (List ℕ)
  pub rname : List (List ℕ)
  pub numbers : List ℕ
  pub mname_is : IsName mname
  pub rname_is : IsName rname
  pub five : length numbers ≡ 5
  pub small : AreSmall numbers
  pub row_is : row ≡ soa_row mname rname numbers

-- fields that are all numbers
number_fields : (row : List Field) (kinds : List Kind) → map kind_of row ≡ kinds → AllByRecursion (λ kind. kind ≡ Number32) kinds
    → AllByRecursion IsField row → (numbers : List ℕ) × AreSmall numbers × (row ≡ map number32 numbers) × (length numbers ≡ length kinds)
number_fields [] [] same all each = ([], tt, refl, refl)
number_fields [] (kind ∷ kinds) same all each = cc
number_fields (field ∷ row) [] same all each = cc
number_fields (field ∷ row) (kind ∷ kinds) same all each =
    let here : kind_of field ≡ kind = cc in
    let behind : map kind_of row ≡ kinds = cc in
    let first = number_field field (here ∙ all.0) each.0 in
    let others = number_fields row kinds behind all.1 each.1 in
    let is = first.is in
    let are = others.2 in
    (first.number ∷ others.0, (first.small, others.1), cc, omega (arith, others.3))

soa_fields : (row : List Field)
    → map kind_of row ≡ Compressible ∷ Compressible ∷ Number32 ∷ Number32 ∷ Number32 ∷ Number32 ∷ Number32 ∷ []
    → AllByRecursion IsField row → IsSoaRow row
soa_fields [] kinds each = absurd cc
soa_fields (field ∷ []) kinds each = absurd cc
soa_fields (field ∷ (second ∷ row)) kinds each =
    let first_kind : kind_of field ≡ Compressible = cc in
    let second_kind : kind_of second ≡ Compressible = cc in
    let behind : map kind_of row ≡ Number32 ∷ Number32 ∷ Number32 ∷ Number32 ∷ Number32 ∷ [] = cc in
    let one = name_field field first_kind each.0 in
    let two = name_field second second_kind each.1.0 in
    let others = number_fields row _ behind (refl, (refl, (refl, (refl, (refl, tt))))) each.1.1 in
    let is = one.is in
    let is' = two.is in
    let are = others.2 in
    record {
      mname = one.name;
      rname = two.name;
      numbers = others.0;
      mname_is = one.is_name;
      rname_is = two.is_name;
      five = others.3;
      small = others.1;
      row_is = cc;
    }

pub soa_row_of : (row : List Field) → IsRow soa_type row → IsSoaRow row
soa_row_of row is =
    let kinds : Some (map kind_of row) ≡ Some (Compressible ∷ Compressible ∷ Number32 ∷ Number32 ∷ Number32 ∷ Number32 ∷ Number32 ∷ []) = sym is.kinds in
    let same : map kind_of row ≡ Compressible ∷ Compressible ∷ Number32 ∷ Number32 ∷ Number32 ∷ Number32 ∷ Number32 ∷ [] = cc in
    soa_fields row same is.each
