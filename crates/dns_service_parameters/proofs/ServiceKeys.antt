-- Which keys are among those of parameters, and whether all mandatory ones are.
use Rattle.std.proofs.Common.{◌≡◌, ◌≢◌, ◌+◌, ◌<◌, ◌≤◌, ◌==◌, ◌||◌, ◌↔◌, ◌⊎◌, inl, inr, ◌^◌, ℕ, suc, Bool, true, false, List, [], ◌∷◌, ◌++◌, length, refl, sym, ◌∙◌, ap, subst, arith}
use Rattle.std.proofs.lemmas.Bool.Decides.{nat_tests}
use Rattle.std.specs.Int.{to_be_bytes, w16}
use Rattle.std.specs.List.{AllByRecursion, flat_map, list_any}
use Rattle.dns_service_parameters.specs.declared.form.Form.TheVariants.{Keys}
use Rattle.dns_service_parameters.specs.Service.{Ascend, HoldsParameters, IsAmong, IsParameter, IsValue, Parameter, Value, keys, strings, nothing, number, ipv4s, ipv6s, encoded, plain, form_at, form_of, keys_of, listed_in, octets_of, value_octets}
use Rattle.dns_service_parameters.specs.ServiceParts.{AscendFrom, HasMandatory, HoldsOrdered, StartsWithNone, StartsWithPart}
use Rattle.dns_service_parameters.proofs.ServiceParts.{Split, all_above, ascend_above, ascend_from, ascend_to, from_none, no_part, number_one, split_off}

-- a key and those of the others
pub among_here : (key other : ℕ) (ks : List ℕ) → key ≡ other → IsAmong key (other ∷ ks)
among_here key other ks same =
    let here : (other == key) ≡ true = grind (arith, nat_tests) in ap (λ (b : Bool). b || list_any (λ o. o == key) ks) here

pub among_behind : (key other : ℕ) (ks : List ℕ) → key ≢ other → list_any (λ o. o == key) (other ∷ ks) ≡ list_any (λ o. o == key) ks
among_behind key other ks not =
    let here : (other == key) ≡ false = grind (arith, nat_tests) in ap (λ (b : Bool). b || list_any (λ o. o == key) ks) here

pub among_more : (key other : ℕ) (ks : List ℕ) → IsAmong key ks → IsAmong key (other ∷ ks)
among_more key other ks among = by (other == key)
  where
    by : (b : Bool) → (b || list_any (λ o. o == key) ks) ≡ true
    by true = refl
    by false = among

-- no key is among those above it
pub not_among : (key : ℕ) (ks : List ℕ) → AllByRecursion (λ n. key < n) ks → IsAmong key ks → ⊥
not_among key [] above among = absurd (cc)
not_among key (n ∷ ks) above among =
    let first = above.0 in
    let other : key ≢ n = λ same. omega arith in
    not_among key ks above.1 (sym (among_behind key n ks other) ∙ among)

-- a test for a key, as far as the parameters are read
pub record KeyLeft (octets rest : List ℕ) (wanted : ℕ) (parameters : List Parameter) : Type 0 where
  pub others : List Parameter
  pub each : AllByRecursion IsParameter others
  pub written : rest ≡ octets_of others
  pub same : list_any (λ o. o == wanted) (keys_of parameters) ≡ list_any (λ o. o == wanted) (keys_of others)

pub key_here : {octets : List ℕ} {wanted : ℕ} (parameters : List Parameter) → AllByRecursion IsParameter parameters → octets ≡ octets_of parameters
    → KeyLeft octets octets wanted parameters
key_here parameters each written = record { others = parameters; each = each; written = written; same = refl }

pub key_found : {octets rest value behind : List ℕ} {wanted key : ℕ} {parameters : List Parameter} → KeyLeft octets rest wanted parameters
    → StartsWithPart rest key value behind → key ≡ wanted → IsAmong wanted (keys_of parameters)
key_found {wanted = wanted} left part same =
    let split = split_off left.others left.each left.written part in
    left.same ∙ ap (λ (l : List Parameter). list_any (λ o. o == wanted) (keys_of l)) split.is
    ∙ among_here wanted split.first.key (keys_of split.others) (sym (split.key_is ∙ same))

pub key_behind : {octets rest value behind : List ℕ} {wanted key : ℕ} {parameters : List Parameter} → KeyLeft octets rest wanted parameters
    → StartsWithPart rest key value behind → key ≢ wanted → KeyLeft octets behind wanted parameters
key_behind {wanted = wanted} left part not =
    let split = split_off left.others left.each left.written part in record {
      others = split.others;
      each = split.each;
      written = split.behind_is;
      same = left.same ∙ ap (λ (l : List Parameter). list_any (λ o. o == wanted) (keys_of l)) split.is
          ∙ among_behind wanted split.first.key (keys_of split.others) (λ same. not (sym split.key_is ∙ sym same));
    }

pub key_none : {octets rest : List ℕ} {wanted : ℕ} {parameters : List Parameter} → KeyLeft octets rest wanted parameters → StartsWithNone rest
    → IsAmong wanted (keys_of parameters) → ⊥
key_none {wanted = wanted} left none among =
    let ends : left.others ≡ [] = no_part left.others left.each left.written none in
    let not : list_any (λ o. o == wanted) (keys_of left.others) ≡ false = ap (λ (l : List Parameter). list_any (λ o. o == wanted) (keys_of l)) ends in
    let yes = sym left.same ∙ among in absurd (cc)

-- only `mandatory` lists keys
keys_only : (key : ℕ) → form_at key ≡ Keys → key ≡ 0
unfolding form_at
keys_only key is = grind (arith, nat_tests)

pub lists_none : (parameter : Parameter) → IsParameter parameter → 0 < parameter.key → listed_in parameter.value ≡ []
lists_none parameter is above = by parameter.value (is.formed)
  where
    by : (value : Value) → form_of value ≡ form_at parameter.key → listed_in value ≡ []
    by (keys each) formed = let zero = keys_only parameter.key (sym formed) in absurd (omega (arith, zero, above))
    by (strings each) formed = refl
    by nothing formed = refl
    by (number n) formed = refl
    by (ipv4s each) formed = refl
    by (ipv6s each) formed = refl
    by (encoded octets) formed = refl
    by (plain octets) formed = refl

-- each of these is among the keys
abbrev pub AllAmong : List ℕ → List ℕ → Type 0
AllAmong wanted ks = AllByRecursion (λ key. IsAmong key ks) wanted

pub all_more : (wanted : List ℕ) (key : ℕ) (ks : List ℕ) → AllAmong wanted ks → AllAmong wanted (key ∷ ks)
all_more [] key ks all = tt
all_more (w ∷ wanted) key ks all = (among_more w key ks all.0, all_more wanted key ks all.1)

-- keys above one are among the others
all_behind : (wanted : List ℕ) (key : ℕ) (ks : List ℕ) → AllByRecursion (λ w. key < w) wanted → AllAmong wanted (key ∷ ks) → AllAmong wanted ks
all_behind [] key ks above all = tt
all_behind (w ∷ wanted) key ks above all =
    let first = above.0 in
    let other : w ≢ key = λ same. omega arith in
    (sym (among_behind w key ks other) ∙ all.0, all_behind wanted key ks above.1 all.1)

among_above : (key w : ℕ) (ks : List ℕ) → AllByRecursion (λ k. key < k) ks → IsAmong w ks → key < w
among_above key w [] above among = absurd (cc)
among_above key w (k ∷ ks) above among = by (among_above key w ks above.1) (k == w) refl
  where
    by : (IsAmong w ks → key < w) → (b : Bool) → (k == w) ≡ b → key < w
    by on true is = let same : k ≡ w = grind (arith, nat_tests) in let first = above.0 in omega (arith, same)
    by on false is = on (sym (ap (λ (b : Bool). b || list_any (λ o. o == w) ks) is) ∙ among)

higher : (low high : ℕ) (ns : List ℕ) → low < high → AllByRecursion (λ n. high < n) ns → AllByRecursion (λ n. low < n) ns
higher low high [] less all = tt
higher low high (n ∷ ns) less all = let first = all.0 in (omega arith, higher low high ns less all.1)

pub first_wanted : (w : ℕ) (wanted ks : List ℕ) → Ascend (w ∷ wanted) → AllAmong (w ∷ wanted) (w ∷ ks) ↔ AllAmong wanted ks
first_wanted w wanted ks ascend = (
  λ all. all_behind wanted w ks ascend.0 all.1,
  λ all. (among_here w w ks refl, all_more wanted w ks all),
)

pub other_wanted : (w key : ℕ) (wanted ks : List ℕ) → Ascend (w ∷ wanted) → AllByRecursion (λ k. key < k) ks → w ≢ key
    → AllAmong (w ∷ wanted) (key ∷ ks) ↔ AllAmong (w ∷ wanted) ks
other_wanted w key wanted ks ascend above not = (
  λ all.
      let here : IsAmong w ks = sym (among_behind w key ks not) ∙ all.0 in
      let less = among_above key w ks above here in
      (here, all_behind wanted key ks (higher key w wanted less ascend.0) all.1),
  λ all. all_more (w ∷ wanted) key ks all,
)

-- the mandatory keys that are still to be found, as far as the parameters are read
pub record WantedLeft (rest wanted : List ℕ) (parameters : List Parameter) : Type 0 where
  pub others : List Parameter
  pub each : AllByRecursion IsParameter others
  pub ascend : Ascend (keys_of others)
  pub written : rest ≡ octets_of others
  pub keys_left : List ℕ
  pub small : AllByRecursion (λ key. key < 2 ^ 16) keys_left
  pub upwards : Ascend keys_left
  pub spelled : flat_map (to_be_bytes w16) keys_left ≡ wanted
  pub same : HasMandatory parameters ↔ AllAmong keys_left (keys_of others)

-- parameters behind the first list nothing
lists_nothing : (ks : List ℕ) (parameters : List Parameter) → AllByRecursion IsParameter parameters
    → AllByRecursion (λ key. 0 < key) (keys_of parameters) → AllByRecursion (λ parameter. AllAmong (listed_in parameter.value) ks) parameters
lists_nothing ks [] each above = tt
lists_nothing ks (parameter ∷ parameters) each above = (
  subst (λ (l : List ℕ). AllAmong l ks) (sym (lists_none parameter each.0 above.0)) tt,
  lists_nothing ks parameters each.1 above.1,
)

pub none_listed : {octets value behind : List ℕ} {key : ℕ} (parameters : List Parameter) → AllByRecursion IsParameter parameters
    → AscendFrom 0 (keys_of parameters) → octets ≡ octets_of parameters → StartsWithPart octets key value behind → key ≢ 0
    → HasMandatory parameters
none_listed {key = key} [] each ascend written part not = tt
none_listed {key = key} (parameter ∷ others) each ascend written part not =
    let split = split_off (parameter ∷ others) each written part in
    let same : parameter ≡ split.first = cc in
    let is : parameter.key ≡ key = ap (λ (p : Parameter). p.key) same ∙ split.key_is in
    let above : 0 < parameter.key = omega (arith, is, not) in
    lists_nothing (keys_of (parameter ∷ others)) (parameter ∷ others) each
    (above, higher 0 parameter.key (keys_of others) above (all_above parameter.key (keys_of others) (ascend_above (parameter.key + 1) (keys_of others) ascend.1)))

pub nothing_listed : {octets : List ℕ} (parameters : List Parameter) → AllByRecursion IsParameter parameters → octets ≡ octets_of parameters
    → StartsWithNone octets → HasMandatory parameters
nothing_listed parameters each written none =
    subst HasMandatory (sym (no_part parameters each written none)) tt

-- the list of the first parameter
record FirstListed (parameter : Parameter) (wanted : List ℕ) : Type 0 where
  each : List ℕ
  is : listed_in parameter.value ≡ each
  small : AllByRecursion (λ key. key < 2 ^ 16) each
  upwards : Ascend each
  spelled : flat_map (to_be_bytes w16) each ≡ wanted

small_only : (each : List ℕ) → AllByRecursion (λ key. (0 < key) × (key < 2 ^ 16)) each → AllByRecursion (λ key. key < 2 ^ 16) each
small_only [] all = tt
small_only (key ∷ each) all = (all.0.1, small_only each all.1)

zero_keys : form_at 0 ≡ Keys
unfolding form_at
zero_keys = refl

first_listed : (parameter : Parameter) (wanted : List ℕ) → IsParameter parameter → parameter.key ≡ 0 → value_octets parameter.value ≡ wanted
    → FirstListed parameter wanted
first_listed parameter wanted is none written = by parameter.value refl is.fits (is.formed ∙ ap form_at none ∙ zero_keys) written
  where
    by : (value : Value) → parameter.value ≡ value → IsValue value → form_of value ≡ Keys → value_octets value ≡ wanted → FirstListed parameter wanted
    by (keys each) same fits formed spelled = record {
      each = each;
      is = ap listed_in same;
      small = small_only each fits.1;
      upwards = fits.2;
      spelled = spelled;
    }
    by (strings each) same fits formed spelled = absurd (cc)
    by nothing same fits formed spelled = absurd (cc)
    by (number n) same fits formed spelled = absurd (cc)
    by (ipv4s each) same fits formed spelled = absurd (cc)
    by (ipv6s each) same fits formed spelled = absurd (cc)
    by (encoded octets) same fits formed spelled = absurd (cc)
    by (plain octets) same fits formed spelled = absurd (cc)

pub wanted_here : {octets value behind : List ℕ} {key : ℕ} (parameters : List Parameter) → AllByRecursion IsParameter parameters
    → AscendFrom 0 (keys_of parameters) → octets ≡ octets_of parameters → StartsWithPart octets key value behind → key ≡ 0
    → WantedLeft octets value parameters
wanted_here [] each ascend written part first = let none : [] ≡ _ ∷ _ = sym written ∙ part.written in absurd (cc)
wanted_here {value = value} {key = key} (parameter ∷ others) each ascend written part begin =
    let split = split_off (parameter ∷ others) each written part in
    let same : parameter ≡ split.first = cc in
    let is : parameter.key ≡ 0 = ap (λ (p : Parameter). p.key) same ∙ split.key_is ∙ begin in
    let its : value_octets parameter.value ≡ value = ap (λ (p : Parameter). value_octets p.value) same ∙ split.value_is in
    let first = first_listed parameter value each.0 is its in
    let ks : List ℕ = keys_of (parameter ∷ others) in
    let above : AllByRecursion (λ k. 0 < k) (keys_of others) =
    all_above 0 (keys_of others) (subst (λ (n : ℕ). AllByRecursion (λ k. n + 1 ≤ k) (keys_of others)) is (ascend_above (parameter.key + 1) (keys_of others) ascend.1)) in
    let behind : AllByRecursion (λ p. AllAmong (listed_in p.value) ks) others = lists_nothing ks others each.1 above in
    record {
      others = parameter ∷ others;
      each = each;
      ascend = ascend_to 0 ks ascend;
      written = written;
      keys_left = first.each;
      small = first.small;
      upwards = first.upwards;
      spelled = first.spelled;
      same = (
        λ all. subst (λ (l : List ℕ). AllAmong l ks) first.is all.0,
        λ all. (subst (λ (l : List ℕ). AllAmong l ks) (sym first.is) all, behind),
      );
    }

-- the first number of some
first_number : {key : ℕ} {wanted behind : List ℕ} (ks : List ℕ) → AllByRecursion (λ k. k < 2 ^ 16) ks → key < 2 ^ 16
    → flat_map (to_be_bytes w16) ks ≡ wanted → wanted ≡ to_be_bytes w16 key ++ behind
    → (others : List ℕ) × (ks ≡ key ∷ others) × (flat_map (to_be_bytes w16) others ≡ behind)
first_number [] small fits spelled is = let none : [] ≡ _ ∷ _ = spelled ∙ is in absurd (cc)
first_number {key} {wanted} {behind} (k ∷ ks) small fits spelled is =
    let one = number_one k key (flat_map (to_be_bytes w16) ks) behind small.0 fits (spelled ∙ is) in
    (ks, (λ i. one.0 i ∷ ks), one.1)

pub no_number : (ks : List ℕ) (wanted : List ℕ) → flat_map (to_be_bytes w16) ks ≡ wanted → length wanted < 2 → ks ≡ []
no_number [] wanted spelled few = refl
no_number (k ∷ ks) wanted spelled few =
    let size : suc (suc (length (flat_map (to_be_bytes w16) ks))) ≡ length wanted = ap (length {A = ℕ}) spelled in absurd (omega (arith, size))

module _ {rest wanted value behind : List ℕ} {key : ℕ} {parameters : List Parameter} (left : WantedLeft rest wanted parameters)
    (part : StartsWithPart rest key value behind) where
  split : Split left.others key value behind
  split = split_off left.others left.each left.written part

  ascends : Ascend (key ∷ keys_of split.others)
  ascends = subst Ascend (ap keys_of split.is ∙ ap (λ (n : ℕ). n ∷ keys_of split.others) split.key_is) left.ascend

  on : (keys_left : List ℕ) {others : List ℕ} → AllByRecursion (λ k. k < 2 ^ 16) keys_left → Ascend keys_left
      → flat_map (to_be_bytes w16) keys_left ≡ others → AllAmong left.keys_left (key ∷ keys_of split.others) ↔ AllAmong keys_left (keys_of split.others)
      → WantedLeft behind others parameters
  on keys_left small upwards spelled step =
      let its : keys_of left.others ≡ key ∷ keys_of split.others = ap keys_of split.is ∙ ap (λ (n : ℕ). n ∷ keys_of split.others) split.key_is in record {
        others = split.others;
        each = split.each;
        ascend = ascends.1;
        written = split.behind_is;
        keys_left = keys_left;
        small = small;
        upwards = upwards;
        spelled = spelled;
        same = (
          λ all. step.0 (subst (λ (l : List ℕ). AllAmong left.keys_left l) its (left.same.0 all)),
          λ all. left.same.1 (subst (λ (l : List ℕ). AllAmong left.keys_left l) (sym its) (step.1 all)),
        );
      }

  -- the next mandatory key is this one
  pub wanted_found : (others : List ℕ) → wanted ≡ to_be_bytes w16 key ++ others → WantedLeft behind others parameters
  wanted_found others is =
      let begins = first_number left.keys_left left.small part.small left.spelled is in
      let whole : left.keys_left ≡ key ∷ begins.0 = begins.1 in
      let up = subst Ascend whole left.upwards in
      let small = subst (λ (l : List ℕ). AllByRecursion (λ k. k < 2 ^ 16) l) whole left.small in
      let step = first_wanted key begins.0 (keys_of split.others) up in
      on begins.0 small.1 up.1 begins.2 (
        λ all. step.0 (subst (λ (l : List ℕ). AllAmong l (key ∷ keys_of split.others)) whole all),
        λ all. subst (λ (l : List ℕ). AllAmong l (key ∷ keys_of split.others)) (sym whole) (step.1 all),
      )

  -- or it is not
  pub wanted_other : ((others : List ℕ) → wanted ≡ to_be_bytes w16 key ++ others → ⊥) → WantedLeft behind wanted parameters
  wanted_other not = on left.keys_left left.small left.upwards left.spelled (by left.keys_left left.upwards left.spelled)
    where
      by : (ks : List ℕ) → Ascend ks → flat_map (to_be_bytes w16) ks ≡ wanted
          → AllAmong ks (key ∷ keys_of split.others) ↔ AllAmong ks (keys_of split.others)
      by [] up spelled = (λ all. tt, λ all. tt)
      by (k ∷ ks) up spelled =
          let other : k ≢ key = λ same.
          not (flat_map (to_be_bytes w16) ks) (sym spelled ∙ ap (λ (n : ℕ). to_be_bytes w16 n ++ flat_map (to_be_bytes w16) ks) same) in
          other_wanted k key ks (keys_of split.others) up ascends.0 other

pub wanted_step : {rest wanted others value behind : List ℕ} {key : ℕ} {parameters : List Parameter} → WantedLeft rest wanted parameters
    → StartsWithPart rest key value behind
    → (wanted ≡ to_be_bytes w16 key ++ others) ⊎ ((others ≡ wanted) × ((more : List ℕ) → wanted ≡ to_be_bytes w16 key ++ more → ⊥))
    → WantedLeft behind others parameters
wanted_step {others = others} left part (inl is) = wanted_found left part others is
wanted_step {behind = behind} {parameters = parameters} left part (inr kept) =
    subst (λ (l : List ℕ). WantedLeft behind l parameters) (sym kept.0) (wanted_other left part kept.1)

-- at the end
pub wanted_end : {rest wanted : List ℕ} {parameters : List Parameter} → WantedLeft rest wanted parameters → StartsWithNone rest
    → HasMandatory parameters ↔ (wanted ≡ [])
wanted_end {rest} {wanted} left none =
    let ends : left.others ≡ [] = no_part left.others left.each left.written none in
    let nowhere : AllAmong left.keys_left (keys_of left.others) → AllAmong left.keys_left [] =
    λ all. subst (λ (l : List Parameter). AllAmong left.keys_left (keys_of l)) ends all in (
      λ all. sym left.spelled ∙ ap (flat_map (to_be_bytes w16)) (empty left.keys_left (nowhere (left.same.0 all))),
      λ is.
          let void : left.keys_left ≡ [] = no_number left.keys_left wanted left.spelled (subst (λ (l : List ℕ). length l < 2) (sym is) (omega arith)) in
          left.same.1 (subst (λ (l : List ℕ). AllAmong l (keys_of left.others)) (sym void) tt),
    )
  where
    empty : (ks : List ℕ) → AllAmong ks [] → ks ≡ []
    empty [] all = refl
    empty (k ∷ ks) all = let not = all.0 in absurd (cc)

-- parameters, and what is asked of them one after another
abbrev pub ordered_of : {octets : List ℕ} → HoldsParameters octets → HoldsOrdered 0 octets
ordered_of holds = record {
  parameters = holds.parameters;
  each = holds.are.each;
  ascend = ascend_from 0 (keys_of holds.parameters) (from_none (keys_of holds.parameters)) holds.are.ascend;
  written = holds.written;
}

pub parameters_of : {octets : List ℕ} (ordered : HoldsOrdered 0 octets) → HasMandatory ordered.parameters
    → (IsAmong 2 (keys_of ordered.parameters) → IsAmong 1 (keys_of ordered.parameters)) → HoldsParameters octets
parameters_of ordered mandatory alpn = record {
  parameters = ordered.parameters;
  are = record {
    each = ordered.each;
    ascend = ascend_to 0 (keys_of ordered.parameters) ordered.ascend;
    mandatory = mandatory;
    alpn = alpn;
  };
  written = ordered.written;
}
