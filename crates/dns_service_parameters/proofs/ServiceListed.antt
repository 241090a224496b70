-- Lists of keys in text.
use Rattle.std.proofs.Common.{◌≡◌, ◌≢◌, ◌<◌, ◌≤◌, ◌^◌, ℕ, List, [], ◌∷◌, ◌++◌, length, map, refl, sym, ◌∙◌, ap, subst, arith, inl, inr}
use Rattle.std.proofs.lemmas.Bool.{cases_Bool}
use Rattle.std.proofs.lemmas.List.{nil_from_length}
use Rattle.std.proofs.lemmas.List.Sorted.{length_permutation}
use Rattle.std.specs.Int.{to_be_bytes, w16}
use Rattle.std.specs.List.{AllByRecursion, AllZip, flat_map}
use Rattle.std.specs.List.Sorted.{IsNonDecreasingBy, IsPermutation}
use Rattle.dns_service_parameters.specs.declared.form.Form.TheVariants.{Keys}
use Rattle.dns_service_parameters.specs.declared.keys.KeyWord.{KeyWord}
use Rattle.dns_service_parameters.specs.Service.{IsValue, Value, keys, strings, nothing, number, ipv4s, ipv6s, encoded, plain, form_of}
use Rattle.dns_service_parameters.specs.ServiceParts.{AscendFrom}
use Rattle.dns_service_parameters.specs.ServiceRead.{AppendsValue, IsKeyWord, SpellsKeys, SpellsNoValue}
use Rattle.dns_service_parameters.specs.ServiceText.{SpellsKey, SpellsValue}
use Rattle.dns_service_parameters.proofs.ServiceAddresses.{bare_item}
use Rattle.dns_service_parameters.proofs.ServiceItems.{each_one}
use Rattle.dns_service_parameters.proofs.ServiceLists.{IsBareItem, SpellsSome}
use Rattle.dns_service_parameters.proofs.ServiceNames.{key_one}
use Rattle.dns_service_parameters.proofs.ServiceOne.{some_listed}
use Rattle.dns_service_parameters.proofs.ServiceOrder.{Rises, each_permutation, rises_ascend, rises_sorted, same_order}
use Rattle.dns_service_parameters.proofs.ServiceParts.{ascend_above, ascend_from, ascend_to}
use Rattle.dns_service_parameters.proofs.ServiceShown.{name_low, spelled_bare}

pub key_item : (word : List ℕ) (key : ℕ) → SpellsKey word key → IsBareItem word
key_item word key is = bare_item word (spelled_bare word key is)

pub spells_word : (word : List ℕ) (key : KeyWord) → IsKeyWord word key → SpellsKey word key.key
spells_word word key is = elim (cases_Bool key.named) [ inl test ↦ inl (is.named test) | inr test ↦ inr (is.numbered test) ]

pub listed_keys : (text : List ℕ) (each : List ℕ) → SpellsSome SpellsKey key_item text each → SpellsKeys text each
listed_keys text each reads = record { spells = reads.spells; some = reads.some }

pub keys_listed : (text : List ℕ) (each : List ℕ) → SpellsKeys text each → SpellsSome SpellsKey key_item text each
keys_listed text each is = record { spells = is.spells; some = is.some }

-- keys are numbers of 16 bits
pub small_key : (word : List ℕ) (key : ℕ) → SpellsKey word key → key < 2 ^ 16
small_key word key (inl is) = let low = name_low key word is in omega (arith, low)
small_key word key (inr is) = is.1

small_keys : (items : List (List ℕ)) (each : List ℕ) → AllZip SpellsKey items each → AllByRecursion (λ key. key < 2 ^ 16) each
small_keys items [] is = tt
small_keys [] (key ∷ each) is = absurd is
small_keys (item ∷ items) (key ∷ each) is = (small_key item key is.0, small_keys items each is.1)

-- keys in order
module _ {text : List ℕ} (listed sorted : List ℕ) (spells : SpellsKeys text listed) (moved : IsPermutation listed sorted) where
  above : (each : List ℕ) → AllByRecursion (λ key. 1 ≤ key) each → AllByRecursion (λ key. key < 2 ^ 16) each
      → AllByRecursion (λ key. (0 < key) × (key < 2 ^ 16)) each
  above [] low small = tt
  above (key ∷ each) low small = let first = low.0 in ((omega arith, small.0), above each low.1 small.1)

  some_sorted : sorted ≢ []
  some_sorted none = spells.some (nil_from_length listed (sym (length_permutation listed sorted moved) ∙ ap (length {A = ℕ}) none))

  pub keys_appended : {old new : List ℕ} → AscendFrom 1 sorted → new ≡ old ++ flat_map (to_be_bytes w16) sorted → AppendsValue Keys text old new
  keys_appended ascend behind =
      let small = each_permutation (λ key. key < 2 ^ 16) listed sorted moved (small_keys spells.spells.0 listed spells.spells.2) in
      record {
        value = keys sorted;
        formed = refl;
        fits = (some_sorted, above sorted (ascend_above 1 sorted ascend) small, ascend_to 1 sorted ascend);
        spells = (listed, spells.spells, moved);
        behind = behind;
      }

  as_they_are : (each : List ℕ) → map (λ key. key) each ≡ each
  as_they_are [] = refl
  as_they_are (key ∷ each) = ap (λ (l : List ℕ). key ∷ l) (as_they_are each)

  low : (each : List ℕ) → AllByRecursion (λ key. (0 < key) × (key < 2 ^ 16)) each → AllByRecursion (λ key. 1 ≤ key) each
  low [] all = tt
  low (key ∷ each) all = let first = all.0.0 in (omega arith, low each all.1)

  not_ascending : IsNonDecreasingBy (λ key. key) sorted → (AscendFrom 1 sorted → ⊥) → (value : Value) → form_of value ≡ Keys → IsValue value
      → SpellsValue text value → ⊥
  not_ascending up none (keys each) formed fits is =
      let same : listed ≡ is.0 = each_one SpellsKey key_one text listed is.0 spells.some (some_listed is.0 each is.2 fits.0) spells.spells is.1 in
      let other = subst (λ (l : List ℕ). IsPermutation l each) (sym same) is.2 in
      let rises = subst Rises (as_they_are sorted) (rises_sorted (λ key. key) sorted up) in
      let one = same_order listed each sorted other moved (rises_ascend each fits.2) rises in
      none (subst (AscendFrom 1) one (ascend_from 1 each (low each fits.1) fits.2))
  not_ascending up none (strings each) formed fits is = absurd (cc)
  not_ascending up none nothing formed fits is = absurd (cc)
  not_ascending up none (number n) formed fits is = absurd (cc)
  not_ascending up none (ipv4s each) formed fits is = absurd (cc)
  not_ascending up none (ipv6s each) formed fits is = absurd (cc)
  not_ascending up none (encoded octets) formed fits is = absurd (cc)
  not_ascending up none (plain octets) formed fits is = absurd (cc)

  pub no_ascending : IsNonDecreasingBy (λ key. key) sorted → (AscendFrom 1 sorted → ⊥) → SpellsNoValue Keys text
  no_ascending up none = not_ascending up none

pub no_keys : {text : List ℕ} → ((each : List ℕ) → SpellsKeys text each → ⊥) → SpellsNoValue Keys text
no_keys none (keys each) formed fits is = none is.0 (record { spells = is.1; some = some_listed is.0 each is.2 fits.0 })
no_keys none (strings each) formed fits is = absurd (cc)
no_keys none nothing formed fits is = absurd (cc)
no_keys none (number n) formed fits is = absurd (cc)
no_keys none (ipv4s each) formed fits is = absurd (cc)
no_keys none (ipv6s each) formed fits is = absurd (cc)
no_keys none (encoded octets) formed fits is = absurd (cc)
no_keys none (plain octets) formed fits is = absurd (cc)
