-- Data that is checked.
use Rattle.std.proofs.Common.{◌≡◌, ◌≢◌, ◌<◌, ◌↔◌, ℕ, Bool, true, false, not, List, [], ◌∷◌, length, drop, get_or, refl, sym, ap, ◌∙◌, subst, arith, nat_eq, nat_lt, slice_index, IsTrue}
use Rattle.std.proofs.lemmas.Bool.Decides.{nat_tests}
use lib.Pointwise.{pointwise, bytes_decides}
use Rattle.dns_name.specs.Page.{Page, write}
use Rattle.dns_name.specs.RecordData.{page_of}
use Rattle.dns_name.specs.Spelling.{plain}
use Rattle.dns_name.specs.Unknown.{UnknownData}
use Rattle.dns_rdata.specs.Fields as fields
use Rattle.dns_rdata.specs.Fields.{IsData}
use Rattle.dns_rdata.specs.Data.{Data, ReadsData, parts_of, typed, unknown_data}
use Rattle.dns_rdata.specs.DataOctets.{IsSpellable, data_octets}
use Rattle.dns_message.proofs.Spellable.{spellable_tag, spellable_unless_caa, tag_spellable}
use Rattle.zone_records.proofs.ReadData.{data_typed_at}
use Rattle.zone_records.proofs.WrittenData.{data_written}

-- what is parsed, and composed unchanged, is data of the type
data_found : (rtype : ℕ) (message : List ℕ) (place : ℕ) (found : Data) → ReadsData message place rtype found → IsData rtype (data_octets found)
data_found rtype message place (typed number row) reads = fields.typed row reads.1.is_row refl
data_found rtype message place (unknown_data unknown) reads = fields.unknown reads.0 (omega (arith, reads.1.short))

pub data_tested : (rtype : ℕ) (data' message written : List ℕ) (place : ℕ) (found : Data) (told : Bool) → ReadsData message place rtype found
    → message ≡ data' → place ≡ 0 → page_of written [] ≡ write plain (page_of [] []) (parts_of found) → told ≡ pointwise nat_eq written data'
    → IsTrue told ↔ IsData rtype data'
data_tested rtype data' message written place found told reads same at whole test =
    let is : written ≡ data_octets found = ap (λ (p : Page). p.octets) (whole ∙ data_written [] found) in
    let decides = bytes_decides written data' in (
      (λ holds. subst (IsData rtype) (sym is ∙ decides.0 (sym test ∙ holds)) (data_found rtype message place found reads)),
      (λ given. test ∙ decides.1 (is ∙ (data_typed_at rtype data' message place found given same at reads).octets_are)),
    )

-- unknown data is read if the type has no fields, and then any octets are data of the type
pub unknown_tested : (rtype : ℕ) (data' message : List ℕ) (place : ℕ) (found : Data) (unknown : UnknownData) → ReadsData message place rtype found
    → found ≡ unknown_data unknown → message ≡ data' → place ≡ 0 → IsTrue true ↔ IsData rtype data'
unknown_tested rtype data' message place found unknown reads found_is same at =
    let here : ReadsData message place rtype (unknown_data unknown) = subst (ReadsData message place rtype) found_is reads in
    let whole : unknown.octets ≡ data' = here.1.octets ∙ ap (λ n. drop n message) at ∙ same in
    ((λ _. fields.unknown here.0 (omega (arith, here.1.short, ap length whole))), (λ _. refl))

-- data of another type than CAA's
pub other_spellable : (rtype : ℕ) (data' : List ℕ) → rtype ≢ 257 → IsTrue true ↔ IsSpellable rtype data'
other_spellable rtype data' other = ((λ _. spellable_unless_caa rtype data' other), (λ _. refl))

-- CAA data, by the length of its tag
pub tag_tested : (rtype : ℕ) (data' : List ℕ) (len : ℕ) (told : Bool) → IsData rtype data' → rtype ≡ 257 → len ≡ slice_index data' 1
    → told ≡ not (nat_eq len 0) → IsTrue told ↔ IsSpellable rtype data'
tag_tested rtype data' len told is caa at test =
    let some : IsTrue told → len ≢ 0 = λ holds zero'. absurd (grind (arith, nat_tests, holds, test, zero')) in (
      (λ holds. tag_spellable rtype data' (λ _ none. some holds (at ∙ none))),
      (λ spelled. let other = spellable_tag rtype data' is spelled caa in let differ : len ≢ 0 = λ none. other (sym at ∙ none) in grind (arith, nat_tests, differ, test)),
    )

no_tag : (data' : List ℕ) → length data' < 2 → slice_index data' 1 ≡ 0
no_tag [] short = refl
no_tag (a ∷ []) short = refl
no_tag (a ∷ (b ∷ rest)) short = absurd (omega (arith, short))

pub missing_tag : (rtype : ℕ) (data' : List ℕ) → IsData rtype data' → rtype ≡ 257 → length data' < 2 → IsTrue false ↔ IsSpellable rtype data'
missing_tag rtype data' is caa short =
    ((λ holds. absurd cc), (λ spelled. absurd (spellable_tag rtype data' is spelled caa (no_tag data' short))))

-- the second octet
pub second_found : (data' : List ℕ) (octet default : ℕ) → true ≡ nat_lt 1 (length data') → octet ≡ get_or data' 1 default
    → octet ≡ slice_index data' 1
second_found [] octet default long found = absurd cc
second_found (a ∷ []) octet default long found = absurd cc
second_found (a ∷ (b ∷ rest)) octet default long found = found

pub second_missing : (data' : List ℕ) → false ≡ nat_lt 1 (length data') → length data' < 2
second_missing data' short = grind (arith, nat_tests, short)
