use Rattle.std.proofs.Common.{◌≡◌, ◌≤◌, ◌<◌, ◌+◌, ◌++◌, ◌∙◌, ℕ, List, [], ◌∷◌, get_or, length, take, append_assoc, append-nil, ap, sym, subst, arith, rules, inl, inr}
use Rattle.std.proofs.lemmas.Bool.{cases_lt}
use Rattle.std.proofs.lemmas.List.{get_or_default, take_more}
use Rattle.std.proofs.lemmas.Grind.{common_steps, flat_map-append}
use Rattle.std.specs.Int.{to_be_bytes, w16}
use Rattle.std.specs.List.{flat_map}
use Rattle.dns_service_parameters.specs.ServiceRead.{written_octets}
use Rattle.dns_service_parameters.specs.declared.scan.Written.{Written}
use Rattle.dns_service_parameters.proofs.scan.append_parameters.Goals as goal

pub returns-in_default-clause-err : goal.returns-in_default-clause-err
returns-in_default-clause-err g c = λ short.
    let large : 65536 ≤ length c.parameter-item.result.value.items = grind (arith, common_steps) in
    (c.loop-parameter.parameter-index, c.parameter-item.result, omega arith, search rules, large)

short_more : (parameters : List Written) (i : ℕ) (parameter : Written) → i < length parameters → parameter ≡ get_or parameters i parameter
    → length parameter.value.items < 65536 → ((k : ℕ) (d : Written) → k < i → length (get_or parameters k d).value.items < 65536)
    → (k : ℕ) (d : Written) → k < i + 1 → length (get_or parameters k d).value.items < 65536
short_more parameters i parameter within is short before k d less = elim (cases_lt k i) [
  | inl lower ↦ before k d lower
  | inr last ↦
      let here : k ≡ i = omega arith in
      let same : parameter ≡ get_or parameters k d = is ∙ get_or_default parameters i parameter d within ∙ ap (λ n. get_or parameters n d) (sym here) in
      subst (λ (w : Written). length w.value.items < 65536) same short
]

appended_more : (old before first second third : List ℕ) (parameters : List Written) (i : ℕ) (parameter : Written) → i < length parameters
    → parameter ≡ get_or parameters i parameter → before ≡ old ++ flat_map written_octets (take i parameters) → first ≡ before ++ to_be_bytes w16 parameter.key
    → second ≡ first ++ to_be_bytes w16 (length parameter.value.items) → third ≡ second ++ parameter.value.items
    → third ≡ old ++ flat_map written_octets (take (i + 1) parameters)
appended_more old before first second third parameters i parameter within is start one two three =
    let key : List ℕ = to_be_bytes w16 parameter.key in
    let len : List ℕ = to_be_bytes w16 (length parameter.value.items) in
    let front : List ℕ = flat_map written_octets (take i parameters) in
    let all : third ≡ ((before ++ key) ++ len) ++ parameter.value.items =
    three ∙ ap (λ (l : List ℕ). l ++ parameter.value.items) (two ∙ ap (λ (l : List ℕ). l ++ len) one) in
    let joined : third ≡ before ++ written_octets parameter =
    all ∙ ap (λ (l : List ℕ). l ++ parameter.value.items) (append_assoc before key len) ∙ append_assoc before (key ++ len) parameter.value.items in
    let taken : take (i + 1) parameters ≡ take i parameters ++ parameter ∷ [] =
    take_more parameters i parameter within ∙ ap (λ (w : Written). take i parameters ++ w ∷ []) (sym is) in
    let whole : flat_map written_octets (take (i + 1) parameters) ≡ front ++ written_octets parameter =
    ap (flat_map written_octets) taken ∙ flat_map-append written_octets (take i parameters) (parameter ∷ [])
    ∙ ap (λ (l : List ℕ). front ++ l) (append-nil (written_octets parameter)) in
    joined ∙ ap (λ (l : List ℕ). l ++ written_octets parameter) start ∙ append_assoc old front (written_octets parameter) ∙ ap (λ (l : List ℕ). old ++ l) (sym whole)

pub loop-parameter-preserved : goal.loop-parameter-preserved
loop-parameter-preserved g c =
    let parameters : List Written = c.args.parameters.now in
    let parameter : Written = c.parameter-item.result in
    let within : c.loop-parameter.parameter-index < length parameters = search rules in
    let size : c.len.result ≡ length parameter.value.items = omega (arith, c.len.ensures, c.parameter-item.result.value.ok.0) in
    let few : c.len.result < 65536 = grind (arith, common_steps) in
    let len : c.in-Ok.len ≡ length parameter.value.items = grind (arith, common_steps) in
    record {
      appended =
          appended_more c.args.octets.now.items c.loop-parameter.octets.items c.append_octets.new.octets.items c.append_octets-in-loop-parameter.new.octets.items
          c.append_octets-in-loop-parameter-2.new.octets.items parameters c.loop-parameter.parameter-index parameter within c.parameter-item.is
          c.loop-parameter.invariant.appended
          (c.in_ok-append_octets.ensures.ok ∙ ap (λ (l : List ℕ). c.loop-parameter.octets.items ++ l) c.to_be_bytes.ensures)
          (c.in_ok-append_octets-2.ensures.ok
          ∙ ap (λ (l : List ℕ). c.append_octets.new.octets.items ++ l) (c.to_be_bytes-in-loop-parameter.ensures ∙ ap (to_be_bytes w16) len))
          (c.in_ok-append_octets-3.ensures.ok ∙ ap (λ (l : List ℕ). c.append_octets-in-loop-parameter.new.octets.items ++ l) c.deref.ensures.value);
      short = short_more parameters c.loop-parameter.parameter-index parameter within c.parameter-item.is (omega (arith, size, few)) c.loop-parameter.invariant.short;
    }
