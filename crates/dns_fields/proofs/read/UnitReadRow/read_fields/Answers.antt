use Rattle.std.proofs.Common.{arith}
use Rattle.dns_fields.proofs.ReadParts.{nothing_read, none_left, sole_nothing}
use Rattle.dns_fields.proofs.read.UnitReadRow.read_fields.Goals as goal

pub returns-then-remaining-gt0-clause-err : goal.returns-then-remaining-gt0-clause-err
returns-then-remaining-gt0-clause-err c = none_left (omega arith)

pub returns-clause-ok : goal.returns-clause-ok
returns-clause-ok c = nothing_read (omega arith)

pub returns-clause-sole : goal.returns-clause-sole
returns-clause-sole c = sole_nothing
