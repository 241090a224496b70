-- Service parameters read one by one.
use Rattle.std.proofs.Common.{◌≡◌, ◌+◌, ◌*◌, ◌/◌, ◌%◌, ◌<◌, ◌≤◌, ◌^◌, ℕ, List, [], ◌∷◌, ◌++◌, length, refl, sym, ◌∙◌, ap, subst, arith}
use Rattle.std.specs.Int.{from_be_bytes, to_be_bytes, w16}
use Rattle.std.specs.List.{AllByRecursion}
use Rattle.dns_service_parameters.specs.Service.{Ascend, IsParameter, Parameter, form_at, keys_of, octets_of, parameter_octets, value_octets}
use Rattle.dns_service_parameters.specs.ServiceParts.{AscendFrom, HoldsOrdered, HoldsValue, StartsWithNone, StartsWithPart}

-- numbers of 16 bits
pub number_octets : (high low n : ℕ) → high < 256 → low < 256 → n ≡ from_be_bytes w16 (high ∷ low ∷ [])
    → (n < 2 ^ 16) × (to_be_bytes w16 n ≡ high ∷ low ∷ [])
number_octets high low n few less is =
    let value : n ≡ high * 256 + low = omega (arith, is) in
    let first : n / 256 % 256 ≡ high = omega arith in
    let second : n % 256 ≡ low = omega arith in
    (omega arith, λ i. first i ∷ second i ∷ [])

pub number_one : (n m : ℕ) (xs ys : List ℕ) → n < 2 ^ 16 → m < 2 ^ 16 → to_be_bytes w16 n ++ xs ≡ to_be_bytes w16 m ++ ys
    → (n ≡ m) × (xs ≡ ys)
number_one n m xs ys few less same =
    let first : n / 256 % 256 ≡ m / 256 % 256 = cc in
    let second : n % 256 ≡ m % 256 = cc in
    (omega arith, cc)

-- two lists that begin with as many
pub same_front : (xs us ys vs : List ℕ) → length xs ≡ length us → xs ++ ys ≡ us ++ vs → (xs ≡ us) × (ys ≡ vs)
same_front [] [] ys vs size same = (refl, same)
same_front [] (u ∷ us) ys vs size same = absurd (omega arith)
same_front (x ∷ xs) [] ys vs size same = absurd (omega arith)
same_front (x ∷ xs) (u ∷ us) ys vs size same =
    let tail = same_front xs us ys vs (omega arith) (cc) in
    let one : x ≡ u = cc in
    (λ i. one i ∷ tail.0 i, tail.1)

-- one part at most
pub part_one : {octets : List ℕ} {key other : ℕ} {value another rest behind : List ℕ} → StartsWithPart octets key value rest
    → StartsWithPart octets other another behind → (key ≡ other) × (value ≡ another) × (rest ≡ behind)
part_one {octets} {key} {other} {value} {another} {rest} {behind} part also =
    let first = number_one key other _ _ part.small also.small (sym part.written ∙ also.written) in
    let second = number_one (length value) (length another) _ _ part.short also.short first.1 in
    let third = same_front value another rest behind second.0 second.1 in
    (first.0, third.0, third.1)

-- a parameter is a part
pub part_of : (parameter : Parameter) (rest : List ℕ) → IsParameter parameter
    → StartsWithPart (parameter_octets parameter ++ rest) parameter.key (value_octets parameter.value) rest
part_of parameter rest is = record { small = is.small; short = is.short; written = refl }

-- the first parameter, whose octets a part is
pub record Split (parameters : List Parameter) (key : ℕ) (value behind : List ℕ) : Type 0 where
  pub first : Parameter
  pub others : List Parameter
  pub is : parameters ≡ first ∷ others
  pub key_is : first.key ≡ key
  pub value_is : value_octets first.value ≡ value
  pub behind_is : behind ≡ octets_of others
  pub fits : IsParameter first
  pub each : AllByRecursion IsParameter others

pub split_off : {octets : List ℕ} {key : ℕ} {value behind : List ℕ} (parameters : List Parameter) → AllByRecursion IsParameter parameters
    → octets ≡ octets_of parameters → StartsWithPart octets key value behind → Split parameters key value behind
split_off [] each written part =
    let none : [] ≡ _ ∷ _ = sym written ∙ part.written in absurd (cc)
split_off {octets} {key} {value} {behind} (parameter ∷ others) each written part =
    let whole : octets ≡ parameter_octets parameter ++ octets_of others = written in
    let its : StartsWithPart octets parameter.key (value_octets parameter.value) (octets_of others) =
    subst (λ (l : List ℕ). StartsWithPart l parameter.key (value_octets parameter.value) (octets_of others)) (sym whole)
    (part_of parameter (octets_of others) each.0) in
    let one = part_one its part in
    record {
      first = parameter;
      others = others;
      is = refl;
      key_is = one.0;
      value_is = one.1;
      behind_is = sym one.2;
      fits = each.0;
      each = each.1;
    }

pub no_part : {octets : List ℕ} (parameters : List Parameter) → AllByRecursion IsParameter parameters → octets ≡ octets_of parameters
    → StartsWithNone octets → parameters ≡ []
no_part [] each written none = refl
no_part {octets} (parameter ∷ others) each written none =
    absurd (none parameter.key (value_octets parameter.value) (octets_of others)
    (subst (λ (l : List ℕ). StartsWithPart l parameter.key (value_octets parameter.value) (octets_of others)) (sym written)
    (part_of parameter (octets_of others) each.0)))

-- a value that is held, at a key
parameter_at : (key : ℕ) (value : List ℕ) → key < 2 ^ 16 → length value < 2 ^ 16 → (holds : HoldsValue (form_at key) value)
    → IsParameter (record { key = key; value = holds.value })
parameter_at key value small short holds = record {
  small = small;
  formed = holds.formed;
  fits = holds.fits;
  short = subst (λ (l : List ℕ). length l < 2 ^ 16) (sym holds.written) short;
}

-- parameters in order
pub ordered_more : {least key : ℕ} {octets value behind : List ℕ} → StartsWithPart octets key value behind → least ≤ key
    → HoldsValue (form_at key) value → HoldsOrdered (key + 1) behind → HoldsOrdered least octets
ordered_more {least} {key} {octets} {value} {behind} part above holds ordered =
    let front : parameter_octets (record { key = key; value = holds.value }) ≡ to_be_bytes w16 key ++ to_be_bytes w16 (length value) ++ value =
    ap (λ (l : List ℕ). to_be_bytes w16 key ++ to_be_bytes w16 (length l) ++ l) holds.written in
    record {
      parameters = record { key = key; value = holds.value } ∷ ordered.parameters;
      each = (parameter_at key value part.small part.short holds, ordered.each);
      ascend = (above, ordered.ascend);
      written = part.written ∙ ap (λ (l : List ℕ). to_be_bytes w16 key ++ to_be_bytes w16 (length value) ++ value ++ l) ordered.written
          ∙ ap (λ (l : List ℕ). l ++ octets_of ordered.parameters) (sym front);
    }

pub ordered_less : {least key : ℕ} {octets value behind : List ℕ} → StartsWithPart octets key value behind → HoldsOrdered least octets
    → (least ≤ key) × HoldsValue (form_at key) value × HoldsOrdered (key + 1) behind
ordered_less {least} {key} {octets} {value} {behind} part ordered =
    let split = split_off ordered.parameters ordered.each ordered.written part in
    let ascend = subst (λ (l : List Parameter). AscendFrom least (keys_of l)) split.is ordered.ascend in (
      subst (λ (n : ℕ). least ≤ n) split.key_is ascend.0,
      record {
        value = split.first.value;
        formed = split.fits.formed ∙ ap form_at split.key_is;
        fits = split.fits.fits;
        written = split.value_is;
      },
      record {
        parameters = split.others;
        each = split.each;
        ascend = subst (λ (n : ℕ). AscendFrom (n + 1) (keys_of split.others)) split.key_is ascend.1;
        written = split.behind_is;
      },
    )

pub ordered_end : {least : ℕ} {octets : List ℕ} → octets ≡ [] → HoldsOrdered least octets
ordered_end none = record { parameters = []; each = tt; ascend = tt; written = none }

pub ordered_none : {least : ℕ} {octets : List ℕ} → StartsWithNone octets → HoldsOrdered least octets → octets ≡ []
ordered_none none ordered =
    ordered.written ∙ ap octets_of (no_part ordered.parameters ordered.each ordered.written none)

-- how numbers ascend
pub ascend_above : (least : ℕ) (ns : List ℕ) → AscendFrom least ns → AllByRecursion (λ n. least ≤ n) ns
ascend_above least [] ascend = tt
ascend_above least (n ∷ ns) ascend = (ascend.0, weaker (n + 1) ns (ascend_above (n + 1) ns ascend.1))
  where
    weaker : (more : ℕ) (ms : List ℕ) → AllByRecursion (λ m. n + 1 ≤ m) ms → AllByRecursion (λ m. least ≤ m) ms
    weaker more [] all = tt
    weaker more (m ∷ ms) all =
        let first = all.0 in let low = ascend.0 in (omega arith, weaker more ms all.1)

pub all_above : (least : ℕ) (ns : List ℕ) → AllByRecursion (λ n. least + 1 ≤ n) ns → AllByRecursion (λ n. least < n) ns
all_above least [] all = tt
all_above least (n ∷ ns) all = let first = all.0 in (omega arith, all_above least ns all.1)

pub all_from : (least : ℕ) (ns : List ℕ) → AllByRecursion (λ n. least < n) ns → AllByRecursion (λ n. least + 1 ≤ n) ns
all_from least [] all = tt
all_from least (n ∷ ns) all = let first = all.0 in (omega arith, all_from least ns all.1)

pub ascend_to : (least : ℕ) (ns : List ℕ) → AscendFrom least ns → Ascend ns
ascend_to least [] ascend = tt
ascend_to least (n ∷ ns) ascend = (all_above n ns (ascend_above (n + 1) ns ascend.1), ascend_to (n + 1) ns ascend.1)

pub ascend_from : (least : ℕ) (ns : List ℕ) → AllByRecursion (λ n. least ≤ n) ns → Ascend ns → AscendFrom least ns
ascend_from least [] all ascend = tt
ascend_from least (n ∷ ns) all ascend = (all.0, ascend_from (n + 1) ns (all_from n ns ascend.0) ascend.1)

pub from_none : (ns : List ℕ) → AllByRecursion (λ n. 0 ≤ n) ns
from_none [] = tt
from_none (n ∷ ns) = (omega arith, from_none ns)
