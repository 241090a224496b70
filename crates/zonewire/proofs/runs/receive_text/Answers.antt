use Rattle.std.proofs.Common.{◌∙◌, ◌≡◌, ap, sym, subst}
use Rattle.std.specs.Prelude.{Err, IfErr}
use Rattle.std.proofs.lemmas.Result.{err_from_is_err_and}
use Rattle.zonewire.specs.Output.{IsReceived, IsNotReceived, IsReceiveJobFault, asking_for}
use Rattle.zonewire.proofs.Received.{receive-fault}
use Rattle.zonewire.proofs.runs.receive_text.Goals as goal

pub returns-in_err-zone-clause-err : goal.returns-in_err-zone-clause-err
returns-in_err-zone-clause-err c =
    let (fault, is, of) = err_from_is_err_and c.from_residual-in_err-zone.result c.from_residual-in_err-zone.ensures.1 in
    let input = c.args.input.items in
    let asking : c.as_slice-2.result.now ≡ asking_for c.args.class c.args.id c.args.apex.now =
    c.as_slice-2.ensures.value ∙ c.in_ok-query.ensures ∙ ap (asking_for c.args.class c.args.id) c.for_ref.ensures in
    let refused : IsNotReceived c.as_slice-2.result.now input c.in_err-zone.field-0.0 =
    subst (λ octets. IsNotReceived c.as_slice-2.result.now octets c.in_err-zone.field-0.0) c.as_slice.ensures.value c.in_err-zone.ensures.err in
    subst (λ r. IfErr r (IsReceiveJobFault c.args.class c.args.id c.args.apex.now input)) (sym (is ∙ ap Err of))
    (receive-fault c.args.class c.args.id c.args.apex.now _ input c.in_err-zone.field-0.0 asking refused)

pub returns-clause-ok : goal.returns-clause-ok
returns-clause-ok c =
    let asking : c.as_slice-2.result.now ≡ asking_for c.args.class c.args.id c.args.apex.now =
    c.as_slice-2.ensures.value ∙ c.in_ok-query.ensures ∙ ap (asking_for c.args.class c.args.id) c.for_ref.ensures in
    let whole = subst (λ octets. IsReceived c.as_slice-2.result.now octets c.in_ok-zone.zone.records) c.as_slice.ensures.value c.in_ok-zone.ensures.ok in
    record {
      records = c.in_ok-zone.zone.records;
      received = subst (λ octets. IsReceived octets c.args.input.items c.in_ok-zone.zone.records) asking whole;
      text = c.in_ok-text.ensures;
    }
