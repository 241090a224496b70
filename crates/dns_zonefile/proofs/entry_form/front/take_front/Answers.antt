use Rattle.std.proofs.Common.{sym, ap, ◌∙◌, arith, drop, List, ℕ}
use Rattle.std.proofs.lemmas.List.{take_rest}
use Rattle.dns_zonefile.proofs.RecordFronts.{front_begins, front_set, front_under}
use Rattle.dns_zonefile.proofs.entry_form.front.take_front.Goals as goal

pub owner_in-owner-requires : goal.owner_in-owner-requires
owner_in-owner-requires c = (
  _,
  front_begins _ c.len-len.result (omega arith)
      (take_rest c.deref.result.now c.len-len.result ∙ ap (λ (l : List ℕ). drop c.len-len.result l) c.deref.ensures.value) c.in-Ok.ensures.ok,
)

pub returns-in-Ok-clause-ok : goal.returns-in-Ok-clause-ok
returns-in-Ok-clause-ok c =
    let named = c.owner_in-owner.ensures _ (front_begins _ c.len-len.result (omega arith)
    (take_rest c.deref.result.now c.len-len.result ∙ ap (λ (l : List ℕ). drop c.len-len.result l) c.deref.ensures.value) c.in-Ok.ensures.ok) in
    front_set c.args.count (c.of_row-scanner.ensures.origin ∙ c.as_ref-origin.ensures.value) c.of_row-scanner.ensures.tokens c.in-Ok.ensures.ok named c.take_over.ensures

pub returns-in-Err-clause-err : goal.returns-in-Err-clause-err
returns-in-Err-clause-err c = λ real owner after is.
    c.in-Err.ensures.err real owner after
    (front_under c.args.count (sym (c.of_row-scanner.ensures.origin ∙ c.as_ref-origin.ensures.value)) (sym c.of_row-scanner.ensures.tokens) is)
