use Rattle.std.proofs.Common.{Some, None, Ok, Err, inl, inr, subst}
use Rattle.std.specs.Prelude.{◌==◌}
use Rattle.dns_name.specs.ParsedName.{labels_of}
use Rattle.dns_header.specs.Opt.{ReadsOptions}
use Rattle.dns_header.specs.Record.{with_labels}
use Rattle.dns_sections.specs.Firsts.{GivesFirst}
use Rattle.dns_sections.specs.Given.{GivesAsked, IsTaken, seen}
use Rattle.dns_sections.specs.Seen.{asked_at, only_in, records_at}
use Rattle.dns_sections.proofs.FirstGiven.{first-given}
use Rattle.dns_sections.proofs.message.Message.opt.Goals as goal

pub returns-in-Err-clause-none : goal.returns-in-Err-clause-none
returns-in-Err-clause-none g c = inl (GivesFirst.out_of_reach c.in-Err.ensures)

pub returns-in-Some-Ok-clause-some : goal.returns-in-Some-Ok-clause-some
returns-in-Some-Ok-clause-some g c =
    let at = (asked_at c.limit_to.result).cursor in
    let behind = (asked_at c.next.new.self).cursor in
    let gives = subst (λ r. GivesAsked (IsTaken (λ number. number == 41) (only_in c.limit_to.result)) ReadsOptions at
    (seen (with_labels labels_of) (Some r)) behind) c.in-Some-Ok.field-0-is c.in-Some-Ok.ensures.steps.2 in (
      with_labels labels_of c.in-Some-Ok.rr,
      first-given (λ number. number == 41) ReadsOptions (records_at c.in-Ok.additional)
          (asked_at c.limit_to.result) behind (only_in c.limit_to.result) c.in-Ok.ensures c.limit_to.ensures.at c.limit_to.ensures.any_class
          (Some (Ok (with_labels labels_of c.in-Some-Ok.rr))) gives,
      c.from_record.ensures,
    )

pub returns-in-Some-Err-clause-none : goal.returns-in-Some-Err-clause-none
returns-in-Some-Err-clause-none g c =
    let at = (asked_at c.limit_to.result).cursor in
    let behind = (asked_at c.next.new.self).cursor in
    let gives = subst (λ r. GivesAsked (IsTaken (λ number. number == 41) (only_in c.limit_to.result)) ReadsOptions at
    (seen (with_labels labels_of) (Some r)) behind) c.in-Some-Err.field-0-is c.in-Some-Err.ensures.steps.2 in
    inr (
      c.in-Some-Err.field-0-0,
      first-given (λ number. number == 41) ReadsOptions (records_at c.in-Ok.additional)
          (asked_at c.limit_to.result) behind (only_in c.limit_to.result) c.in-Ok.ensures c.limit_to.ensures.at c.limit_to.ensures.any_class
          (Some (Err c.in-Some-Err.field-0-0)) gives,
    )

pub returns-in-None-clause-none : goal.returns-in-None-clause-none
returns-in-None-clause-none g c =
    inl (first-given (λ number. number == 41) ReadsOptions (records_at c.in-Ok.additional) (asked_at c.limit_to.result)
    (asked_at c.next.new.self).cursor (only_in c.limit_to.result) c.in-Ok.ensures c.limit_to.ensures.at c.limit_to.ensures.any_class
    None c.in-None.ensures.steps.2)
