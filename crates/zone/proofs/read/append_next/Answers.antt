use Rattle.std.proofs.Common.{ap, sym, subst, ◌∙◌, Some, Ok}
use Rattle.dns_zonefile.specs.Composed.{with_reason}
use Rattle.dns_zonefile.specs.ReaderSeen.{reader_of}
use Rattle.zone.proofs.ReaderSteps.{HandsOver, gives_error, include_handed, number_given, number_refused, text_fault}
use Rattle.zone.proofs.ReadRecords.{kept_of, record_handed}
use Rattle.zone.proofs.read.append_next.Goals as goal

pub returns-in-Ok-Some-Record-clause-ok : goal.returns-in-Ok-Some-Record-clause-ok
returns-in-Ok-Some-Record-clause-ok c =
    let met = c.in-Ok-Some-Record in
    let hands = c.next_octets.ensures.gives c.requires in
    (hands.0, hands.1, record_handed (ap with_reason (met.is ∙ ap Ok (met.field-0-is ∙ ap Some met.field-0-0-is))) hands.2)

pub returns-in-Ok-Some-Include-clause-err : goal.returns-in-Ok-Some-Include-clause-err
returns-in-Ok-Some-Include-clause-err c = λ text origin class records read.
    let met = c.in-Ok-Some-Include in
    let same = ap with_reason (met.is ∙ ap Ok (met.field-0-is ∙ ap Some met.field-0-0-is)) in
    let hands = subst (λ h. HandsOver (reader_of c.args.zonefile.now) c.args.octets.now.items h (reader_of c.next_octets.new.self) c.next_octets.new.octets.items)
    same (c.next_octets.ensures.gives c.requires) in
    include_handed (kept_of read) hands
    (c.entry_number.ensures ∙ number_given c.next_octets.new.self (rw met.is at c.next_octets.ensures.ok))

pub returns-clause-err : goal.returns-clause-err
returns-clause-err c = λ text origin class records read.
    let hands = subst (λ h. HandsOver (reader_of c.args.zonefile.now) c.args.octets.now.items h (reader_of c.next_octets.new.self) c.next_octets.new.octets.items)
    (ap with_reason c.in-Err.is) (c.next_octets.ensures.gives c.requires) in
    text_fault (kept_of read) (gives_error hands) (sym c.if-is_memory.ensures)
    (c.entry_number-in-Err-2.ensures ∙ number_refused c.next_octets.new.self c.in-Err.error (rw c.in-Err.is at c.next_octets.ensures.err))
