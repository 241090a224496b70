use Rattle.std.proofs.Common.{◌≡◌, ◌++◌, length, drop, refl, ◌∙◌, ap, arith, length-append}
use Rattle.std.proofs.lemmas.List.{drop_at}
use Rattle.dns_message.specs.Record.{record_octets}
use Rattle.dns_message.proofs.AsWritten.{as_written_read}
use Rattle.dns_message.proofs.HeldRecords.{taken_written}
use Rattle.dns_message.proofs.WrittenRecords.{record-written}
use Rattle.dns_message.proofs.laws.written_records_are_read.Goals as goal

pub returns-clause-parts : goal.returns-clause-parts
returns-clause-parts c = λ message place next rr taken. taken_written rr taken

pub returns-clause-spelled : goal.returns-clause-spelled
returns-clause-spelled c = λ message place next r parts good is spelled. as_written_read r good is spelled

pub returns-clause-in_full : goal.returns-clause-in_full
returns-clause-in_full c = λ message front rest r good is whole.
    let written = record_octets r ++ rest in
    let at : drop (length front) message ≡ written = ap (drop (length front)) whole ∙ drop_at front written (length front) refl in
    record-written message (length front) r rest at (omega (arith, ap length whole, length-append front written)) good is
