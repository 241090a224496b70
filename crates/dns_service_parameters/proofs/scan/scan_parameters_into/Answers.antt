use Rattle.std.proofs.Common.{◌≡◌, ◌<◌, ◌≤◌, ◌-◌, ◌^◌, ◌++◌, ◌∙◌, ℕ, List, drop, take, length, ap, sym, subst, arith, rules, true, drop_at}
use Rattle.std.proofs.lemmas.List.{take_rest}
use Rattle.std.proofs.lemmas.List.Sorted.{IsNonDecreasingBy-from_sort_by_key}
use Rattle.std.proofs.lemmas.Result.{err_from_is_err_and}
use Rattle.std.specs.List.{All, Any, flat_map}
use Rattle.dns_service_parameters.specs.declared.scan.Written.{Written}
use Rattle.dns_service_parameters.specs.Service.{HoldsParameters}
use Rattle.dns_service_parameters.specs.ServiceRead.{written_octets}
use Rattle.dns_service_parameters.proofs.ServiceInOrder.{long_value, no_parameters, parameters_appended}
use Rattle.dns_service_parameters.proofs.scan.scan_parameters_into.Goals as goal

pub returns-in_err-parameters-clause-err : goal.returns-in_err-parameters-clause-err
returns-in_err-parameters-clause-err g c =
    let p = err_from_is_err_and c.from_residual.result c.from_residual.ensures.1 in rw (p.1, p.2) (λ short. c.in_err-parameters.ensures.err short)

pub returns-in_err-append_parameters-clause-err : goal.returns-in_err-append_parameters-clause-err
returns-in_err-append_parameters-clause-err g c =
    let p = err_from_is_err_and c.from_residual-in_err-append_parameters.result c.from_residual-in_err-append_parameters.ensures.1 in
    let sorted : List Written = c.sort_unstable_by_key.new.self.items in
    let up = IsNonDecreasingBy-from_sort_by_key (λ (w : Written). w.key) sorted c.sort_unstable_by_key.ensures.sorted (λ a r q k. search rules) in
    rw (p.1, p.2) (λ short.
    long_value sorted c.in_ok-parameters.ensures.ok.0 c.sort_unstable_by_key.ensures.permutation up
    (subst (Any (λ (w : Written). 2 ^ 16 ≤ length w.value.items)) c.deref.ensures.value (c.in_err-append_parameters.ensures.err short)))

-- what is behind the old octets
behind_them : (all new old more : List ℕ) (n : ℕ) → all ≡ new → new ≡ old ++ more → n ≡ length old → take (length all - n) (drop n all) ≡ more
behind_them all new old more n same whole size =
    take_rest all n ∙ ap (drop n) (same ∙ whole) ∙ drop_at old more n (sym size)

pub returns-then-are_parameters-clause-ok : goal.returns-then-are_parameters-clause-ok
returns-then-are_parameters-clause-ok g c =
    let sorted : List Written = c.sort_unstable_by_key.new.self.items in
    let given : c.deref.result.now ≡ sorted = c.deref.ensures.value in
    let octets : List ℕ = c.args.octets.now.items in
    let written : List ℕ = flat_map written_octets sorted in
    let new : c.append_parameters.new.octets.items ≡ octets ++ written =
    c.in_ok-append_parameters.ensures.ok ∙ ap (λ (l : List Written). octets ++ flat_map written_octets l) given in
    let size : c.len-before.result ≡ length octets = omega (arith, c.len-before.ensures, c.args.octets.now.ok.0) in
    let part = behind_them c.deref-2.result.now c.append_parameters.new.octets.items octets written c.len-before.result c.deref-2.ensures.value new size in
    parameters_appended sorted c.in_ok-parameters.ensures.ok.0 c.sort_unstable_by_key.ensures.permutation
    (subst (All (λ (w : Written). length w.value.items < 2 ^ 16)) given c.in_ok-append_parameters.ensures.short)
    (subst HoldsParameters part (c.are_parameters.ensures.0 c.if-are_parameters.true)) c.in_ok-parameters.ensures.ok.1 new

pub returns-clause-err : goal.returns-clause-err
returns-clause-err g c = λ short.
    let sorted : List Written = c.sort_unstable_by_key.new.self.items in
    let given : c.deref.result.now ≡ sorted = c.deref.ensures.value in
    let octets : List ℕ = c.args.octets.now.items in
    let written : List ℕ = flat_map written_octets sorted in
    let new : c.append_parameters.new.octets.items ≡ octets ++ written =
    c.in_ok-append_parameters.ensures.ok ∙ ap (λ (l : List Written). octets ++ flat_map written_octets l) given in
    let size : c.len-before.result ≡ length octets = omega (arith, c.len-before.ensures, c.args.octets.now.ok.0) in
    let part = behind_them c.deref-2.result.now c.append_parameters.new.octets.items octets written c.len-before.result c.deref-2.ensures.value new size in
    let up = IsNonDecreasingBy-from_sort_by_key (λ (w : Written). w.key) sorted c.sort_unstable_by_key.ensures.sorted (λ a r q k. search rules) in
    no_parameters sorted c.in_ok-parameters.ensures.ok.0 c.sort_unstable_by_key.ensures.permutation up
    (λ holds. let test : c.are_parameters.result ≡ true = c.are_parameters.ensures.1 (subst HoldsParameters (sym part) holds) in absurd (cc))
