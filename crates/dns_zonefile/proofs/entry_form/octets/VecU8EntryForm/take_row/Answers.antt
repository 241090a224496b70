use Rattle.std.proofs.Common.{refl, sym, ap, ◌∙◌, arith, drop, List, ℕ}
use Rattle.std.proofs.lemmas.List.{take_rest}
use Rattle.dns_zonefile.specs.Seen.{row_of}
use Rattle.dns_zonefile.proofs.ComposedRows.{record_begins, record_handed}
use Rattle.dns_zonefile.proofs.Forms.{if_ok_each, says_under}
use Rattle.dns_zonefile.proofs.entry_form.octets.VecU8EntryForm.take_row.Goals as goal

pub returns-then-begins_directive-clause-ok : goal.returns-then-begins_directive-clause-ok
returns-then-begins_directive-clause-ok c =
    let begins = c.begins_directive.ensures.yes c.if-begins_directive.true in
    rw begins.0 (if_ok_each c.take_directive.result _ _ (λ given is. (is.0, is.1, is.2 _)) c.take_directive.ensures.ok)

pub returns-then-begins_directive-clause-err : goal.returns-then-begins_directive-clause-err
returns-then-begins_directive-clause-err c =
    let begins = c.begins_directive.ensures.yes c.if-begins_directive.true in
    rw begins.0 c.take_directive.ensures.err

pub append_record-requires : goal.append_record-requires
append_record-requires c = c.begins_directive.ensures.no c.if-begins_directive.false

pub take_over_first-requires : goal.take_over_first-requires
take_over_first-requires c = (
  _,
  record_begins _ c.len-len.result (omega arith)
      (take_rest c.deref.result.now c.len-len.result ∙ ap (λ (l : List ℕ). drop c.len-len.result l) c.deref.ensures.value) c.in-Ok.ensures.ok,
)

pub returns-in-Ok-clause-ok : goal.returns-in-Ok-clause-ok
returns-in-Ok-clause-ok c =
    record_handed (c.of_row-scanner.ensures.origin ∙ c.as_ref-origin.ensures.value) (ap (row_of c.args.blank_led) c.of_row-scanner.ensures.tokens)
    c.in-Ok.ensures.ok refl
    (c.take_over_first.ensures _ (record_begins _ c.len-len.result (omega arith)
    (take_rest c.deref.result.now c.len-len.result ∙ ap (λ (l : List ℕ). drop c.len-len.result l) c.deref.ensures.value)
    c.in-Ok.ensures.ok))

pub returns-in-Err-clause-err : goal.returns-in-Err-clause-err
returns-in-Err-clause-err c = λ real entry after is.
    c.in-Err.ensures.err real is.statement entry after
    (says_under (sym (c.of_row-scanner.ensures.origin ∙ c.as_ref-origin.ensures.value)) (ap (row_of c.args.blank_led) (sym c.of_row-scanner.ensures.tokens)) is.says)
    is.enters
