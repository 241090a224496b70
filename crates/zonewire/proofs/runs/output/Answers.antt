use Rattle.std.proofs.Common.{◌∙◌, ap, sym, subst}
use Rattle.std.specs.Prelude.{Err, IfErr}
use Rattle.std.proofs.lemmas.Result.{err_from_is_err_and}
use Rattle.zonewire.specs.Fault.{of_zone}
use Rattle.zonewire.specs.Output.{IsJobFault}
use Rattle.zonewire_words.specs.declared.jobs.Job.{Job}
use Rattle.zonewire.proofs.Outputs.{send-text-fault, text-fault}
use Rattle.zonewire.proofs.runs.output.Goals as goal

pub returns-in_err-zone-in-Send-clause-err : goal.returns-in_err-zone-in-Send-clause-err
returns-in_err-zone-in-Send-clause-err c =
    let (fault, is, of) = err_from_is_err_and c.from_residual.result c.from_residual.ensures.1 in
    let input = c.args.input.items in
    let error = c.in_err-zone-in-Send.field-0.0 in
    let refused : IsJobFault c.args.job.now input (of_zone error) =
    subst (λ (j : Job). IsJobFault j input (of_zone error)) (sym c.in-Send.is)
    (send-text-fault c.in-Send.origin c.in-Send.class c.in-Send.id c.in-Send.apex c.in-Send.max c.in-Send.spelling input error c.in_err-zone-in-Send.ensures.err) in
    subst (λ r. IfErr r (IsJobFault c.args.job.now input)) (sym (is ∙ ap Err of)) refused

pub returns-in_err-count-in-Check-clause-err : goal.returns-in_err-count-in-Check-clause-err
returns-in_err-count-in-Check-clause-err c =
    let (fault, is, of) = err_from_is_err_and c.from_residual-in_err-count-in-Check.result c.from_residual-in_err-count-in-Check.ensures.1 in
    let input = c.args.input.items in
    let error = c.in_err-count-in-Check.field-0.0 in
    let refused : IsJobFault c.args.job.now input (of_zone error) =
    subst (λ (j : Job). IsJobFault j input (of_zone error)) (sym c.in-Check.is)
    (text-fault c.in-Check.origin c.in-Check.class input error c.in_err-count-in-Check.ensures.err) in
    subst (λ r. IfErr r (IsJobFault c.args.job.now input)) (sym (is ∙ ap Err of)) refused

pub returns-in_err-zone-in-Canon-clause-err : goal.returns-in_err-zone-in-Canon-clause-err
returns-in_err-zone-in-Canon-clause-err c =
    let (fault, is, of) = err_from_is_err_and c.from_residual-in_err-zone-in-Canon.result c.from_residual-in_err-zone-in-Canon.ensures.1 in
    let input = c.args.input.items in
    let error = c.in_err-zone-in-Canon.field-0.0 in
    let refused : IsJobFault c.args.job.now input (of_zone error) =
    subst (λ (j : Job). IsJobFault j input (of_zone error)) (sym c.in-Canon.is)
    (text-fault c.in-Canon.origin c.in-Canon.class input error c.in_err-zone-in-Canon.ensures.err) in
    subst (λ r. IfErr r (IsJobFault c.args.job.now input)) (sym (is ∙ ap Err of)) refused
