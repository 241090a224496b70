-- The octets of a row are read as it, and as no other.
use Rattle.std.proofs.Common.{◌≡◌, ◌+◌, ◌≤◌, ◌==◌, ℕ, Bool, true, false, List, [], ◌∷◌, ◌++◌, length, drop, map, refl, sym, ◌∙◌, ap, subst, arith, length-append, append_assoc, append-nil, rules}
use Rattle.std.specs.Prelude.{Option, Some, None, if◌then◌else◌, ⊤}
use Rattle.std.specs.List.{AllByRecursion}
use Rattle.std.proofs.Math.Seq.{drop-append_seam}
use Rattle.dns_label.specs.Name.{IsName, wire}
use Rattle.dns_label.specs.Spelled.{DecodesName}
use Rattle.dns_label.proofs.Spelling.{spelled-written}
use Rattle.dns_name.specs.Page.Parts.{End, Octets}
use Rattle.dns_name.specs.SpelledParts.{SpellsParts, nothing, octets}
use Rattle.dns_fields.specs.Fields as fields
use Rattle.dns_fields.specs.Fields.{Kind, Number8, Number16, Number32, Ipv4, Ipv6, Compressible, Uncompressed, String, Strings, Tag, RestText, Rest16, Rest64}
use Rattle.dns_scan.specs.CharStr.{string_wire}
use Rattle.dns_fields.specs.Fields.{Field, number8, number16, number32, ipv4, ipv6, compressible, uncompressed, string, strings, tag, rest_text, rest16, rest64, kind_of, table, kinds_in, kinds_of, field_octets, IsField, IsRow, IsData, typed, unknown}
use Rattle.dns_fields.specs.Reading.{ReadsField, ReadsFields, ReadsRow, AreSoleFields}
use Rattle.dns_fields.proofs.ReadFields.{fixed_sole, number8_fixed, number16_fixed, number32_fixed, ipv4_fixed, ipv6_fixed, compressible_sole, uncompressed_sole, name_opened, name_read}
use Rattle.dns_fields.proofs.ReadParts.{row_read, split_row, nothing_read, sole_row, sole_nothing}
use Rattle.dns_fields.proofs.ReadStrings.{all_one, string_sole, tag_sole, rest_text_sole, rest16_sole, rest64_sole}
use Rattle.dns_fields.proofs.ReadEach.{strings_sole}

module _ (front rest : List ℕ) where
  octets_stand : (text : List ℕ) → SpellsParts (front ++ (text ++ rest)) (length front) (Octets text End) (length front + length text)
  octets_stand text =
      octets rest (drop-append_seam front (text ++ rest))
      (nothing (omega (arith, length-append front (text ++ rest), length-append text rest)))

  name_stands : (name : List (List ℕ)) → IsName name → DecodesName (front ++ (wire name ++ rest)) (length front) name (length front + length (wire name))
  name_stands name is_name = record {
    spelled = spelled-written (front ++ (wire name ++ rest)) 255 (length front) name rest (drop-append_seam front (wire name ++ rest)) is_name.labels;
    is_name = is_name;
  }

  name_within : (text : List ℕ) → length front + length text ≤ length (front ++ (text ++ rest))
  name_within text = omega (arith, length-append front (text ++ rest), length-append text rest)

  -- a field's octets are read as it
  field_stands : (field : Field) → IsField field
      → ReadsField (front ++ (field_octets field ++ rest)) (length front) field (length front + length (field_octets field))
  field_stands (number8 n) is = record { is_field = is; spelled = octets_stand (field_octets (number8 n)) }
  field_stands (number16 n) is = record { is_field = is; spelled = octets_stand (field_octets (number16 n)) }
  field_stands (number32 n) is = record { is_field = is; spelled = octets_stand (field_octets (number32 n)) }
  field_stands (ipv4 text) is = record { is_field = is; spelled = octets_stand text }
  field_stands (ipv6 text) is = record { is_field = is; spelled = octets_stand text }
  field_stands (compressible name) is = record { is_field = is; spelled = name_read (name_stands name is) (name_within (wire name)) }
  field_stands (uncompressed name) is = record { is_field = is; spelled = name_read (name_stands name is) (name_within (wire name)) }
  field_stands (string text) is = record { is_field = is; spelled = octets_stand (string_wire text) }
  field_stands (strings each) is = record { is_field = is; spelled = octets_stand (field_octets (strings each)) }
  field_stands (tag text) is = record { is_field = is; spelled = octets_stand (string_wire text) }
  field_stands (rest_text text) is = record { is_field = is; spelled = octets_stand text }
  field_stands (rest16 text) is = record { is_field = is; spelled = octets_stand text }
  field_stands (rest64 text) is = record { is_field = is; spelled = octets_stand text }

-- what holds of the octets after a field, with the field before them, holds there
behind : (P : List ℕ → ℕ → Type 0) (front first rest : List ℕ) → P ((front ++ first) ++ rest) (length (front ++ first))
    → P (front ++ (first ++ rest)) (length front + length first)
behind P front first rest there =
    subst (λ l. P l (length front + length first)) (append_assoc front first rest)
    (subst (λ n. P ((front ++ first) ++ rest) n) (length-append front first) there)

-- a row's octets are read as it
row_stands : (front : List ℕ) (row : List Field) → AllByRecursion IsField row → ReadsFields (front ++ fields.octets row) (length front) row
row_stands front [] each = nothing_read (sym (ap (length {A = ℕ}) (append-nil front)))
row_stands front (field ∷ row) each =
    row_read (field_stands front (fields.octets row) field each.0)
    (behind (λ message place. ReadsFields message place row) front (field_octets field) (fields.octets row)
    (row_stands (front ++ field_octets field) row each.1))

-- Kinds that take all that is left are last.
abbrev pub EndWell : List Kind → Type 0
EndWell [] = ⊤
EndWell (Strings ∷ (its ∷ kinds)) = ⊥
EndWell (RestText ∷ (its ∷ kinds)) = ⊥
EndWell (Rest16 ∷ (its ∷ kinds)) = ⊥
EndWell (Rest64 ∷ (its ∷ kinds)) = ⊥
EndWell (its ∷ kinds) = EndWell kinds

abbrev pub Fit : Option (List Kind) → Type 0
Fit None = ⊤
Fit (Some kinds) = EndWell kinds

either : (b : Bool) (x y : Option (List Kind)) → Fit x → Fit y → Fit (if b then x else y)
either true x y this that = this
either false x y this that = that

fits_in : (rows : List (ℕ × List Kind)) → AllByRecursion (λ (row : ℕ × List Kind). EndWell row.1) rows → (rtype : ℕ)
    → Fit (kinds_in rows rtype)
fits_in [] well rtype = tt
fits_in (row ∷ rows) well rtype = either (rtype == row.0) _ _ well.0 (fits_in rows well.1 rtype)

-- they are so in the table
pub fits : (rtype : ℕ) → Fit (kinds_of rtype)
fits = fits_in table (search rules)

-- text up to the end of a message is all that is left of it
all_left : {message text : List ℕ} {place : ℕ} → SpellsParts message place (Octets text End) (length message) → text ≡ drop place message
all_left {message} {text} {place} spelled = all_one message (drop place message) text place refl spelled

-- Fields of a message, pointers in names followed, are the only ones of their kinds if only the last may take all that is left.
pub sole_fields : (message : List ℕ) (row : List Field) (place : ℕ) → EndWell (map kind_of row) → ReadsFields message place row
    → AreSoleFields message place row
sole_fields message [] place well reads = sole_nothing
sole_fields message (strings each ∷ []) place well reads = strings_sole message each place (all_left reads.spelled)
sole_fields message (rest_text text ∷ []) place well reads = rest_text_sole message text place (all_left reads.spelled)
sole_fields message (rest16 text ∷ []) place well reads = rest16_sole message text place (all_left reads.spelled)
sole_fields message (rest64 text ∷ []) place well reads = rest64_sole message text place (all_left reads.spelled)
sole_fields message (strings each ∷ (field ∷ row)) place well reads = absurd well
sole_fields message (rest_text text ∷ (field ∷ row)) place well reads = absurd well
sole_fields message (rest16 text ∷ (field ∷ row)) place well reads = absurd well
sole_fields message (rest64 text ∷ (field ∷ row)) place well reads = absurd well
sole_fields message (number8 n ∷ row) place well reads =
    let both = split_row reads in
    sole_row (fixed_sole number8_fixed refl both.first) (sole_fields message row both.middle well both.others)
sole_fields message (number16 n ∷ row) place well reads =
    let both = split_row reads in
    sole_row (fixed_sole number16_fixed refl both.first) (sole_fields message row both.middle well both.others)
sole_fields message (number32 n ∷ row) place well reads =
    let both = split_row reads in
    sole_row (fixed_sole number32_fixed refl both.first) (sole_fields message row both.middle well both.others)
sole_fields message (ipv4 text ∷ row) place well reads =
    let both = split_row reads in
    sole_row (fixed_sole ipv4_fixed refl both.first) (sole_fields message row both.middle well both.others)
sole_fields message (ipv6 text ∷ row) place well reads =
    let both = split_row reads in
    sole_row (fixed_sole ipv6_fixed refl both.first) (sole_fields message row both.middle well both.others)
sole_fields message (compressible name ∷ row) place well reads =
    let both = split_row reads in
    sole_row (compressible_sole (name_opened both.first.spelled)) (sole_fields message row both.middle well both.others)
sole_fields message (uncompressed name ∷ row) place well reads =
    let both = split_row reads in
    sole_row (uncompressed_sole (name_opened both.first.spelled)) (sole_fields message row both.middle well both.others)
sole_fields message (string text ∷ row) place well reads =
    let both = split_row reads in
    sole_row (string_sole both.first.spelled) (sole_fields message row both.middle well both.others)
sole_fields message (tag text ∷ row) place well reads =
    let both = split_row reads in
    sole_row (tag_sole both.first.spelled) (sole_fields message row both.middle well both.others)

-- Data of a type is at a place of a message as one row.
pub row_read_once : (rtype : ℕ) (message : List ℕ) (place : ℕ) (row other : List Field) → ReadsRow rtype message place row
    → ReadsRow rtype message place other → row ≡ other
row_read_once rtype message place row other reads also =
    let kinds : Some (map kind_of row) ≡ Some (map kind_of other) = sym reads.is_row.kinds ∙ also.is_row.kinds in
    let same : map kind_of row ≡ map kind_of other = cc in
    (sole_fields message other place (subst Fit also.is_row.kinds (fits rtype)) (record { each = also.is_row.each; spelled = also.spelled })).sole row same
    (record { each = reads.is_row.each; spelled = reads.spelled })

pub row_parses : (rtype : ℕ) (front : List ℕ) (row : List Field) → IsRow rtype row → ReadsRow rtype (front ++ fields.octets row) (length front) row
row_parses rtype front row is = record { is_row = is; spelled = (row_stands front row is.each).spelled }

pub row_parses_only : (rtype : ℕ) (front : List ℕ) (row other : List Field) → IsRow rtype row
    → ReadsRow rtype (front ++ fields.octets row) (length front) other → other ≡ row
row_parses_only rtype front row other is reads =
    row_read_once rtype (front ++ fields.octets row) (length front) other row reads (row_parses rtype front row is)

pub data_parses : (rtype : ℕ) (front data' : List ℕ) (kinds : List Kind) → kinds_of rtype ≡ Some kinds → IsData rtype data'
    → (row : List Field) × ReadsRow rtype (front ++ data') (length front) row × (fields.octets row ≡ data')
data_parses rtype front data' kinds has (typed row is same) =
    (row, subst (λ d. ReadsRow rtype (front ++ d) (length front) row) (sym same) (row_parses rtype front row is), sym same)
data_parses rtype front data' kinds has (unknown none short) = absurd (let both : None ≡ Some kinds = sym none ∙ has in cc)

-- rows of a type that take the same octets are one
pub same_octets : (rtype : ℕ) (row other : List Field) → IsRow rtype row → IsRow rtype other → fields.octets row ≡ fields.octets other
    → other ≡ row
same_octets rtype row other is is' same =
    row_parses_only rtype [] row other is (subst (λ l. ReadsRow rtype l 0 other) (sym same) (row_parses rtype [] other is'))
