-- Text can spell all data but that of a CAA record (257) whose tag is empty.
use Rattle.std.proofs.Common.{◌≡◌, ◌≢◌, ℕ, Bool, true, false, List, [], ◌∷◌, length, map, Option, Some, None, refl, ap, sym, ◌∙◌, subst, arith, inl, inr}
use Rattle.std.specs.Prelude.{◌==◌, ◌&&◌, ◌||◌, if◌then◌else◌, slice_index}
use Rattle.std.specs.List.{AllByRecursion}
use Rattle.std.proofs.lemmas.Bool.{cases_eq}
use Rattle.std.proofs.lemmas.Bool.Decides.{Decides-eqb}
use Rattle.dns_rdata.specs.Fields.{Kind, Field, kind_of, kinds_in, kinds_of, table, octets, IsRow, IsData}
use Rattle.dns_rdata.specs.Fields.Kind.{Number8, Tag, RestText}
use Rattle.dns_rdata.specs.Fields.Field.{number8, tag, rest_text}
use Rattle.dns_rdata.specs.Fields.IsData.{typed, unknown}
use Rattle.dns_rdata.specs.DataOctets.{IsSpellable}

abbrev NoTag : List Kind → Type 0
NoTag kinds = AllByRecursion (λ kind. kind ≡ Tag → ⊥) kinds

-- the same as a test
abbrev lacks_tag : List Kind → Bool
lacks_tag [] = true
lacks_tag (Tag ∷ kinds) = false
lacks_tag (kind ∷ kinds) = lacks_tag kinds

no_tag : (kinds : List Kind) → lacks_tag kinds ≡ true → NoTag kinds
no_tag [] lacks = tt
no_tag (Tag ∷ kinds) lacks = absurd cc
no_tag (kind ∷ kinds) lacks = (λ e. cc, no_tag kinds lacks)

-- the rows of a table other than that of CAA have none
abbrev others_lack_tag : List (ℕ × List Kind) → Bool
others_lack_tag [] = true
others_lack_tag (row ∷ rows) = ((row.0 == 257) || lacks_tag row.1) && others_lack_tag rows

both_hold : (a b : Bool) → (a && b) ≡ true → (a ≡ true) × (b ≡ true)
both_hold true b both = (refl, both)
both_hold false b both = absurd cc

second_holds : (number : ℕ) (b : Bool) → number ≢ 257 → ((number == 257) || b) ≡ true → b ≡ true
second_holds number b apart = by_test (number == 257) refl
  where
    by_test : (test : Bool) → (number == 257) ≡ test → (test || b) ≡ true → b ≡ true
    by_test true same either = absurd (apart ((Decides-eqb number 257).0 same))
    by_test false same either = either

at_row : (is_here : Bool) (here kinds : List Kind) (others : Option (List Kind)) → (is_here ≡ true → NoTag here)
    → (others ≡ Some kinds → NoTag kinds) → (if is_here then Some here else others) ≡ Some kinds → NoTag kinds
at_row true here kinds others first rest is =
    let same : here ≡ kinds = cc in
    let P : List Kind → Type 0 = λ kinds. NoTag kinds in subst P same (first refl)
at_row false here kinds others first rest is = rest is

in_table : (rows : List (ℕ × List Kind)) (rtype : ℕ) (kinds : List Kind) → rtype ≢ 257 → others_lack_tag rows ≡ true
    → kinds_in rows rtype ≡ Some kinds → NoTag kinds
in_table [] rtype kinds apart lack is = absurd cc
in_table (row ∷ rows) rtype kinds apart lack is =
    let both = both_hold ((row.0 == 257) || lacks_tag row.1) (others_lack_tag rows) lack in
    let first : (rtype == row.0) ≡ true → NoTag row.1 =
    λ e. no_tag row.1 (second_holds row.0 (lacks_tag row.1) (λ caa. apart ((Decides-eqb rtype row.0).0 e ∙ caa)) both.0) in
    at_row (rtype == row.0) row.1 kinds (kinds_in rows rtype) first (in_table rows rtype kinds apart both.1) is

no_tags : (kinds : List Kind) (row : List Field) → kinds ≡ map kind_of row → NoTag kinds → AllByRecursion (λ field. field ≡ tag [] → ⊥) row
no_tags kinds [] same each = tt
no_tags [] (field ∷ row) same each = absurd cc
no_tags (kind ∷ kinds) (field ∷ row) same each =
    let first : kind ≡ kind_of field = cc in
    (λ is. each.0 (first ∙ ap kind_of is), no_tags kinds row (cc) each.1)

pub spellable_unless_caa : (rtype : ℕ) (data' : List ℕ) → rtype ≢ 257 → IsSpellable rtype data'
spellable_unless_caa rtype data' apart =
    λ row is_row octets_are. no_tags (map kind_of row) row refl (in_table table rtype (map kind_of row) apart refl is_row.kinds)

-- the row of a CAA record
record CaaRow (row : List Field) : Type 0 where
  flags : ℕ
  name : List ℕ
  value : List ℕ
  is : row ≡ number8 flags ∷ tag name ∷ rest_text value ∷ []

flagged : (field : Field) → Number8 ≡ kind_of field → (n : ℕ) × (field ≡ number8 n)
flagged (number8 n) kind = (n, refl)
flagged field kind = absurd cc

tagged : (field : Field) → Tag ≡ kind_of field → (name : List ℕ) × (field ≡ tag name)
tagged (tag name) kind = (name, refl)
tagged field kind = absurd cc

valued : (field : Field) → RestText ≡ kind_of field → (value : List ℕ) × (field ≡ rest_text value)
valued (rest_text value) kind = (value, refl)
valued field kind = absurd cc

caa_row : (row : List Field) → Number8 ∷ Tag ∷ RestText ∷ [] ≡ map kind_of row → CaaRow row
caa_row [] kinds = absurd cc
caa_row (a ∷ []) kinds = absurd cc
caa_row (a ∷ b ∷ []) kinds = absurd cc
caa_row (a ∷ b ∷ c ∷ []) kinds =
    let flags = flagged a (cc) in
    let name = tagged b (cc) in
    let value = valued c (cc) in
    record { flags = flags.0; name = name.0; value = value.0; is = cc (flags.1, name.1, value.1) }
caa_row (a ∷ b ∷ c ∷ d ∷ row) kinds = absurd cc

shape_of : (rtype : ℕ) (row : List Field) → rtype ≡ 257 → IsRow rtype row → CaaRow row
shape_of rtype row caa is_row =
    let kinds : ◌≡◌ {A = Option (List Kind)} (Some (Number8 ∷ Tag ∷ RestText ∷ [])) (Some (map kind_of row)) = sym (ap kinds_of caa) ∙ is_row.kinds in
    caa_row row cc

-- its second octet is the length of the tag
second_octet : (row : List Field) (shape : CaaRow row) (data' : List ℕ) → data' ≡ octets row → slice_index data' 1 ≡ length shape.name
second_octet row shape data' is = ap (λ l. slice_index l 1) (is ∙ ap octets shape.is)

none_of : (text : List ℕ) → length text ≡ 0 → text ≡ []
none_of [] none = refl
none_of (c ∷ text) none = absurd (omega arith)

pub spellable_tag : (rtype : ℕ) (data' : List ℕ) → IsData rtype data' → IsSpellable rtype data' → rtype ≡ 257 → slice_index data' 1 ≢ 0
spellable_tag rtype data' (typed row is_row is) spellable caa =
    let shape = shape_of rtype row caa is_row in
    let P : List Field → Type 0 = λ row. AllByRecursion (λ field. field ≡ tag [] → ⊥) row in
    let each = subst P shape.is (spellable row is_row is) in
    λ none. each.1.0 (ap tag (none_of shape.name (sym (second_octet row shape data' is) ∙ none)))
spellable_tag rtype data' (unknown none short) spellable caa =
    let bad : kinds_of 257 ≡ None = sym (ap kinds_of caa) ∙ none in absurd cc

some_tag : (rtype : ℕ) (data' : List ℕ) (row : List Field) (shape : CaaRow row) → data' ≡ octets row → slice_index data' 1 ≢ 0
    → AllByRecursion (λ field. field ≡ tag [] → ⊥) row
some_tag rtype data' row shape is some =
    let P : List Field → Type 0 = λ row. AllByRecursion (λ field. field ≡ tag [] → ⊥) row in
    let not_empty : tag shape.name ≡ tag [] → ⊥ =
    λ e. let none : shape.name ≡ [] = cc in some (second_octet row shape data' is ∙ ap (length {A = ℕ}) none) in
    subst P (sym shape.is) (λ e. cc, (not_empty, (λ e. cc, tt)))

pub tag_spellable : (rtype : ℕ) (data' : List ℕ) → (rtype ≡ 257 → slice_index data' 1 ≢ 0) → IsSpellable rtype data'
tag_spellable rtype data' some =
    elim (cases_eq rtype 257) [
      | inl caa ↦ λ row is_row is. some_tag rtype data' row (shape_of rtype row caa is_row) is (some caa)
      | inr apart ↦ spellable_unless_caa rtype data' apart
    ]
