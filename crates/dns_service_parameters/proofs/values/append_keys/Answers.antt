use Rattle.std.proofs.Common.{◌≡◌, ◌++◌, ◌∙◌, ℕ, List, ap, sym, subst}
use Rattle.std.proofs.lemmas.List.Sorted.{IsNonDecreasingBy-from_sort}
use Rattle.std.proofs.lemmas.Result.{IfErr-weaker, err_from_is_err_and, on_ok_weaker}
use Rattle.std.specs.Int.{to_be_bytes, w16}
use Rattle.std.specs.List.{flat_map}
use Rattle.dns_service_parameters.specs.ServiceParts.{AscendFrom}
use Rattle.dns_service_parameters.proofs.ServiceListed.{keys_appended, no_ascending, no_keys}
use Rattle.dns_service_parameters.proofs.values.append_keys.Goals as goal

pub returns-in_err-keys-clause-err : goal.returns-in_err-keys-clause-err
returns-in_err-keys-clause-err g c =
    let p = err_from_is_err_and c.from_residual.result c.from_residual.ensures.1 in
    rw (p.1, p.2) (λ short. no_keys (c.in_err-keys.ensures.err short))

pub returns-clause-ok : goal.returns-clause-ok
returns-clause-ok g c =
    let same : c.deref.result.now ≡ c.sort_unstable.new.self.items = c.deref.ensures.value in
    on_ok_weaker _ (λ (both : AscendFrom 1 c.deref.result.now × (c.append_ascending.new.value.items ≡ c.args.value.now.items ++ flat_map (to_be_bytes w16) c.deref.result.now)).
    keys_appended c.in_ok-keys.keys.items c.sort_unstable.new.self.items c.in_ok-keys.ensures.ok c.sort_unstable.ensures.permutation
    (subst (AscendFrom 1) same both.0)
    (both.1 ∙ ap (λ (l : List ℕ). c.args.value.now.items ++ flat_map (to_be_bytes w16) l) same)) c.append_ascending.ensures.ok

pub returns-clause-err : goal.returns-clause-err
returns-clause-err g c =
    let same : c.deref.result.now ≡ c.sort_unstable.new.self.items = c.deref.ensures.value in
    IfErr-weaker c.append_ascending.result _ _
    (λ error none short.
    no_ascending c.in_ok-keys.keys.items c.sort_unstable.new.self.items c.in_ok-keys.ensures.ok c.sort_unstable.ensures.permutation
    (IsNonDecreasingBy-from_sort (λ key. key) c.sort_unstable.new.self.items c.sort_unstable.ensures.sorted)
    (λ ascends. none short (subst (AscendFrom 1) (sym same) ascends))) c.append_ascending.ensures.err
