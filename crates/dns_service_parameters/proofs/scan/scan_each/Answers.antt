use Rattle.std.proofs.Common.{◌≡◌, ◌++◌, ◌∷◌, ◌∙◌, [], List, sym, subst, rules, refl}
use Rattle.std.proofs.lemmas.Result.{err_from_is_err_and}
use Rattle.dns_scan.specs.Token.{Token}
use Rattle.dns_scan.proofs.SymbolsRead.{nil_by, same_names_here, same_names_join}
use Rattle.dns_service_parameters.specs.declared.scan.Written.{Written}
use Rattle.dns_service_parameters.proofs.ServiceInOrder.{Scanned, scanned_all, scanned_begun, scanned_more, scanned_none}
use Rattle.dns_service_parameters.proofs.scan.scan_each.Goals as goal

pub loop-alloc-init : goal.loop-alloc-init
loop-alloc-init g c =
    let tokens = g.S.Scanner.tokens c.args.scanner.now in
    let none : c.new-parameters.result.items ≡ [] = search rules in
    record {
      scanned = subst (λ (l : List Written). Scanned tokens tokens l) (sym none) (scanned_begun tokens);
      names = same_names_here (g.S.Scanner.names c.args.scanner.now);
    }

pub returns-in_err-parameter-clause-err : goal.returns-in_err-parameter-clause-err
returns-in_err-parameter-clause-err g c =
    let p = err_from_is_err_and c.from_residual.result c.from_residual.ensures.1 in
    let before = g.S.Scanner.tokens c.args.scanner.now in
    let so_far = subst (λ (l : List Token). Scanned before l c.loop-alloc.parameters.items) (sym c.continues.ensures.stays) c.loop-alloc.invariant.scanned in
    let some = λ (none : g.S.Scanner.tokens c.continues.new.self ≡ []). c.loop-alloc-test.ensures.some.0 refl (sym c.continues.ensures.stays ∙ none) in
    rw (p.1, p.2) (λ short. scanned_none so_far some (c.in_err-parameter.ensures.err short))

pub loop-alloc-preserved : goal.loop-alloc-preserved
loop-alloc-preserved g c =
    let before = g.S.Scanner.tokens c.args.scanner.now in
    let next = g.S.Scanner.tokens c.scan_parameter.new.scanner in
    let so_far = subst (λ (l : List Token). Scanned before l c.loop-alloc.parameters.items) (sym c.continues.ensures.stays) c.loop-alloc.invariant.scanned in
    let items : c.push.new.self.items ≡ c.loop-alloc.parameters.items ++ c.in_ok-parameter.parameter ∷ [] = search rules in
    record {
      scanned = subst (λ (l : List Written). Scanned before next l) (sym items) (scanned_more so_far c.in_ok-parameter.ensures.ok);
      names = same_names_join _ _ _ (same_names_join _ _ _ c.loop-alloc.invariant.names c.continues.ensures.names) c.scan_parameter.ensures.names;
    }

pub returns-clause-ok : goal.returns-clause-ok
returns-clause-ok g c =
    let before = g.S.Scanner.tokens c.args.scanner.now in
    let so_far = subst (λ (l : List Token). Scanned before l c.loop-alloc.parameters.items) (sym c.continues.ensures.stays) c.loop-alloc.invariant.scanned in
    let none : g.S.Scanner.tokens c.loop-alloc.scanner ≡ [] =
    nil_by _ (λ some. let true_so = c.continues.ensures.some.1 some in search rules) in
    let left = c.continues.ensures.stays ∙ none in
    (scanned_all so_far left, left)
