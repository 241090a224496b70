use Rattle.dns_builder.proofs.ReadsBack.{readable_with_record}
use Rattle.dns_builder.proofs.laws.taken_records_are_readable.Goals as goal

pub returns : goal.returns
returns c = λ s number built draft w is readable taken names fit. readable_with_record s built draft w is readable taken.counted names fit
