use Rattle.std.proofs.Common.{◌≡◌, Some, None}
use Rattle.std.specs.Result.{result_ok}
use Rattle.dns_sections.specs.Seen.{records_at}
use Rattle.dns_sections.proofs.Last.{last-more, last-broken, last-found}
use Rattle.dns_sections.proofs.message.last.last_record.Goals as goal

pub returns-in_err-ok-clause-none : goal.returns-in_err-ok-clause-none
returns-in_err-ok-clause-none c =
    let none : result_ok c.in-Some.record ≡ None = cc (c.in_err-ok.was, c.ok.ensures.value) in
    last-broken c.from_residual.result (records_at c.args.section).cursor (records_at c.loop-record.record-iterator).cursor
    (records_at c.next.new.self).cursor c.loop-record.last c.in-Some.record c.loop-record.invariant c.in-Some.ensures.steps.1 none

pub loop-record-preserved : goal.loop-record-preserved
loop-record-preserved c =
    let some : result_ok c.in-Some.record ≡ Some c.in_ok-ok.field-0 = cc (c.in_ok-ok.was, c.ok.ensures.value) in
    last-more (records_at c.args.section).cursor (records_at c.loop-record.record-iterator).cursor (records_at c.next.new.self).cursor
    c.loop-record.last c.in-Some.record c.in_ok-ok.field-0 c.loop-record.invariant c.in-Some.ensures.steps.1 some

pub returns-clause-some : goal.returns-clause-some
returns-clause-some c =
    last-found (records_at c.args.section).cursor (records_at c.loop-record.record-iterator).cursor c.loop-record.last c.loop-record.invariant
    c.in-None.ensures.steps.1.0
