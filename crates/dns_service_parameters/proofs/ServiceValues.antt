-- The values of service parameters in octets.
use Rattle.std.proofs.Common.{◌≡◌, ◌≢◌, ◌+◌, ◌<◌, ◌≤◌, ◌^◌, ℕ, suc, List, [], ◌∷◌, ◌++◌, length, get_or, take, drop, refl, sym, ◌∙◌, ap, subst, arith, length-append, length-take}
use Rattle.std.proofs.lemmas.List.{take-append-drop}
use Rattle.std.specs.Prelude.{⊤}
use Rattle.std.specs.Int.{from_be_bytes, to_be_bytes, w16}
use Rattle.std.specs.List.{AllByRecursion, flat_map}
use Rattle.dns_scan.specs.CharStr.{string_wire}
use Rattle.dns_service_parameters.specs.declared.form.Form.TheVariants.{Keys, Strings, Nothing, Number, Encoded, Plain}
use Rattle.dns_service_parameters.specs.Service.{IsValue, Value, keys, strings, nothing, number, ipv4s, ipv6s, encoded, plain, form_of, value_octets}
use Rattle.dns_service_parameters.specs.ServiceParts.{AscendFrom, HoldsValue}
use Rattle.dns_service_parameters.proofs.ServiceParts.{ascend_above, ascend_from, ascend_to, number_octets, number_one, same_front}

-- keys that ascend from there
pub record HoldsKeys (least : ℕ) (octets : List ℕ) : Type 0 where
  pub each : List ℕ
  pub small : AllByRecursion (λ key. key < 2 ^ 16) each
  pub ascend : AscendFrom least each
  pub written : flat_map (to_be_bytes w16) each ≡ octets

pub keys_end : {least : ℕ} {octets : List ℕ} → octets ≡ [] → HoldsKeys least octets
keys_end none = record { each = []; small = tt; ascend = tt; written = sym none }

pub keys_more : {least key : ℕ} {octets behind : List ℕ} → key < 2 ^ 16 → octets ≡ to_be_bytes w16 key ++ behind → least ≤ key
    → HoldsKeys (key + 1) behind → HoldsKeys least octets
keys_more {key = key} small is above holds = record {
  each = key ∷ holds.each;
  small = (small, holds.small);
  ascend = (above, holds.ascend);
  written = ap (λ (l : List ℕ). to_be_bytes w16 key ++ l) holds.written ∙ sym is;
}

pub keys_less : {least key : ℕ} {octets behind : List ℕ} → key < 2 ^ 16 → octets ≡ to_be_bytes w16 key ++ behind → HoldsKeys least octets
    → (least ≤ key) × HoldsKeys (key + 1) behind
keys_less {least} {key} {octets} {behind} small is holds = first holds.each holds.small holds.ascend (holds.written ∙ is)
  where
    first : (each : List ℕ) → AllByRecursion (λ other. other < 2 ^ 16) each → AscendFrom least each
        → flat_map (to_be_bytes w16) each ≡ to_be_bytes w16 key ++ behind → (least ≤ key) × HoldsKeys (key + 1) behind
    first [] few ascend same = absurd (cc)
    first (other ∷ each) few ascend same =
        let one = number_one other key (flat_map (to_be_bytes w16) each) behind few.0 small same in (
          subst (λ (n : ℕ). least ≤ n) one.0 ascend.0,
          record {
            each = each;
            small = few.1;
            ascend = subst (λ (n : ℕ). AscendFrom (n + 1) each) one.0 ascend.1;
            written = one.1;
          },
        )

pub keys_short : {least : ℕ} {octets : List ℕ} → length octets < 2 → HoldsKeys least octets → octets ≡ []
keys_short {octets = octets} few holds = first holds.each holds.written
  where
    first : (each : List ℕ) → flat_map (to_be_bytes w16) each ≡ octets → octets ≡ []
    first [] same = sym same
    first (key ∷ each) same =
        let size : suc (suc (length (flat_map (to_be_bytes w16) each))) ≡ length octets = ap (length {A = ℕ}) same in absurd (omega (arith, size))

above_one : (each : List ℕ) → AllByRecursion (λ key. 1 ≤ key) each → AllByRecursion (λ key. key < 2 ^ 16) each
    → AllByRecursion (λ key. (0 < key) × (key < 2 ^ 16)) each
above_one [] above small = tt
above_one (key ∷ each) above small = let first = above.0 in ((omega arith, small.0), above_one each above.1 small.1)

from_one : (each : List ℕ) → AllByRecursion (λ key. (0 < key) × (key < 2 ^ 16)) each
    → AllByRecursion (λ key. 1 ≤ key) each × AllByRecursion (λ key. key < 2 ^ 16) each
from_one [] all = (tt, tt)
from_one (key ∷ each) all =
    let others = from_one each all.1 in let first = all.0.0 in ((omega arith, others.0), (all.0.1, others.1))

pub keys_value : {octets : List ℕ} → HoldsKeys 1 octets → octets ≢ [] → HoldsValue Keys octets
keys_value {octets} holds some = record {
  value = keys holds.each;
  formed = refl;
  fits = (
    λ none. some (sym holds.written ∙ ap (flat_map (to_be_bytes w16)) none),
    above_one holds.each (ascend_above 1 holds.each holds.ascend) holds.small,
    ascend_to 1 holds.each holds.ascend,
  );
  written = holds.written;
}

pub value_keys : {octets : List ℕ} → HoldsValue Keys octets → HoldsKeys 1 octets × (octets ≢ [])
value_keys {octets} holds = by holds.value holds.formed holds.fits holds.written
  where
    by : (value : Value) → form_of value ≡ Keys → IsValue value → value_octets value ≡ octets → HoldsKeys 1 octets × (octets ≢ [])
    by (keys each) formed fits written =
        let all = from_one each fits.1 in (
          record { each = each; small = all.1; ascend = ascend_from 1 each all.0 fits.2; written = written },
          λ none. some each fits.0 (written ∙ none),
        )
      where
        some : (all : List ℕ) → all ≢ [] → flat_map (to_be_bytes w16) all ≡ [] → ⊥
        some [] not same = not refl
        some (key ∷ all) not same = absurd (cc)
    by (strings each) formed fits written = absurd (cc)
    by nothing formed fits written = absurd (cc)
    by (number n) formed fits written = absurd (cc)
    by (ipv4s each) formed fits written = absurd (cc)
    by (ipv6s each) formed fits written = absurd (cc)
    by (encoded others) formed fits written = absurd (cc)
    by (plain others) formed fits written = absurd (cc)

-- strings
abbrev pub IsSome : List ℕ → Type 0
IsSome string = (0 < length string) × (length string ≤ 255)

pub record HoldsStrings (octets : List ℕ) : Type 0 where
  pub each : List (List ℕ)
  pub some : AllByRecursion IsSome each
  pub written : flat_map string_wire each ≡ octets

pub strings_end : {octets : List ℕ} → octets ≡ [] → HoldsStrings octets
strings_end none = record { each = []; some = tt; written = sym none }

pub strings_more : {len : ℕ} {octets behind : List ℕ} (string : List ℕ) → octets ≡ len ∷ string ++ behind → length string ≡ len → 0 < len → len ≤ 255
    → HoldsStrings behind → HoldsStrings octets
strings_more {len} {octets} {behind} string is size above few holds = record {
  each = string ∷ holds.each;
  some = ((omega (arith, size), omega (arith, size)), holds.some);
  written = ap (λ (l : List ℕ). string_wire string ++ l) holds.written ∙ ap (λ (n : ℕ). n ∷ string ++ behind) size ∙ sym is;
}

pub strings_less : {len : ℕ} {octets behind : List ℕ} → octets ≡ len ∷ behind → HoldsStrings octets
    → (0 < len) × (len ≤ length behind) × HoldsStrings (drop len behind)
strings_less {len} {octets} {behind} is holds = first holds.each holds.some (holds.written ∙ is)
  where
    first : (each : List (List ℕ)) → AllByRecursion IsSome each → flat_map string_wire each ≡ len ∷ behind
        → (0 < len) × (len ≤ length behind) × HoldsStrings (drop len behind)
    first [] some same = absurd (cc)
    first (string ∷ each) some same =
        let size : length string ≡ len = cc in
        let rest : string ++ flat_map string_wire each ≡ behind = cc in
        let whole : take len behind ++ drop len behind ≡ behind = take-append-drop len behind in
        let total = ap (length {A = ℕ}) rest ∙ refl in
        let sum = length-append string (flat_map string_wire each) in
        let enough : len ≤ length behind = omega (arith, total, sum, size) in
        let cut = same_front string (take len behind) (flat_map string_wire each) (drop len behind)
        (omega (arith, size, length-take len behind, enough)) (rest ∙ sym whole) in
        let above : 0 < length string = some.0.0 in
        (omega (arith, above, size), enough, record { each = each; some = some.1; written = cut.1 })

pub strings_value : {octets : List ℕ} → HoldsStrings octets → octets ≢ [] → HoldsValue Strings octets
strings_value {octets} holds some = record {
  value = strings holds.each;
  formed = refl;
  fits = (λ none. some (sym holds.written ∙ ap (flat_map string_wire) none), holds.some);
  written = holds.written;
}

pub value_strings : {octets : List ℕ} → HoldsValue Strings octets → HoldsStrings octets × (octets ≢ [])
value_strings {octets} holds = by holds.value holds.formed holds.fits holds.written
  where
    by : (value : Value) → form_of value ≡ Strings → IsValue value → value_octets value ≡ octets → HoldsStrings octets × (octets ≢ [])
    by (strings each) formed fits written =
        (record { each = each; some = fits.1; written = written }, λ none. some each fits.0 (written ∙ none))
      where
        some : (all : List (List ℕ)) → all ≢ [] → flat_map string_wire all ≡ [] → ⊥
        some [] not same = not refl
        some (string ∷ all) not same = absurd (cc)
    by (keys each) formed fits written = absurd (cc)
    by nothing formed fits written = absurd (cc)
    by (number n) formed fits written = absurd (cc)
    by (ipv4s each) formed fits written = absurd (cc)
    by (ipv6s each) formed fits written = absurd (cc)
    by (encoded others) formed fits written = absurd (cc)
    by (plain others) formed fits written = absurd (cc)

-- the other forms
abbrev pub Simple : Value → List ℕ → Type 0
Simple nothing octets = octets ≡ []
Simple (number n) octets = length octets ≡ 2
Simple (encoded others) octets = octets ≢ []
Simple (keys each) octets = ⊤
Simple (strings each) octets = ⊤
Simple (ipv4s each) octets = ⊤
Simple (ipv6s each) octets = ⊤
Simple (plain others) octets = ⊤

pub value_simple : {octets : List ℕ} (value : Value) → IsValue value → value_octets value ≡ octets → Simple value octets
value_simple nothing fits written = sym written
value_simple (number n) fits written = sym (ap (length {A = ℕ}) written)
value_simple (encoded others) fits written = λ none. fits (written ∙ none)
value_simple (keys each) fits written = tt
value_simple (strings each) fits written = tt
value_simple (ipv4s each) fits written = tt
value_simple (ipv6s each) fits written = tt
value_simple (plain others) fits written = tt

pub value_nothing : {octets : List ℕ} → HoldsValue Nothing octets → octets ≡ []
value_nothing {octets} holds = by holds.value holds.formed (value_simple holds.value holds.fits holds.written)
  where
    by : (value : Value) → form_of value ≡ Nothing → Simple value octets → octets ≡ []
    by nothing formed simple = simple
    by (keys each) formed simple = absurd (cc)
    by (strings each) formed simple = absurd (cc)
    by (number n) formed simple = absurd (cc)
    by (ipv4s each) formed simple = absurd (cc)
    by (ipv6s each) formed simple = absurd (cc)
    by (encoded others) formed simple = absurd (cc)
    by (plain others) formed simple = absurd (cc)

pub value_number : {octets : List ℕ} → HoldsValue Number octets → length octets ≡ 2
value_number {octets} holds = by holds.value holds.formed (value_simple holds.value holds.fits holds.written)
  where
    by : (value : Value) → form_of value ≡ Number → Simple value octets → length octets ≡ 2
    by (number n) formed simple = simple
    by nothing formed simple = absurd (cc)
    by (keys each) formed simple = absurd (cc)
    by (strings each) formed simple = absurd (cc)
    by (ipv4s each) formed simple = absurd (cc)
    by (ipv6s each) formed simple = absurd (cc)
    by (encoded others) formed simple = absurd (cc)
    by (plain others) formed simple = absurd (cc)

pub value_encoded : {octets : List ℕ} → HoldsValue Encoded octets → octets ≢ []
value_encoded {octets} holds = by holds.value holds.formed (value_simple holds.value holds.fits holds.written)
  where
    by : (value : Value) → form_of value ≡ Encoded → Simple value octets → octets ≢ []
    by (encoded others) formed simple = simple
    by nothing formed simple = absurd (cc)
    by (number n) formed simple = absurd (cc)
    by (keys each) formed simple = absurd (cc)
    by (strings each) formed simple = absurd (cc)
    by (ipv4s each) formed simple = absurd (cc)
    by (ipv6s each) formed simple = absurd (cc)
    by (plain others) formed simple = absurd (cc)

pub nothing_value : {octets : List ℕ} → octets ≡ [] → HoldsValue Nothing octets
nothing_value none = record { value = nothing; formed = refl; fits = tt; written = sym none }

pub encoded_value : {octets : List ℕ} → octets ≢ [] → HoldsValue Encoded octets
encoded_value {octets} some = record { value = encoded octets; formed = refl; fits = some; written = refl }

pub plain_value : {octets : List ℕ} → HoldsValue Plain octets
plain_value {octets} = record { value = plain octets; formed = refl; fits = tt; written = refl }

pub number_value : {octets : List ℕ} → length octets ≡ 2 → ((i : ℕ) → get_or octets i 0 < 256) → HoldsValue Number octets
number_value {octets} size small = by octets size small
  where
    by : (all : List ℕ) → length all ≡ 2 → ((i : ℕ) → get_or all i 0 < 256) → HoldsValue Number all
    by [] size small = absurd (omega arith)
    by (high ∷ []) size small = absurd (omega arith)
    by (high ∷ low ∷ []) size small =
        let is = number_octets high low (from_be_bytes w16 (high ∷ low ∷ [])) (small 0) (small 1) refl in
        record { value = number (from_be_bytes w16 (high ∷ low ∷ [])); formed = refl; fits = is.0; written = is.1 }
    by (high ∷ low ∷ more ∷ others) size small = absurd (omega arith)
