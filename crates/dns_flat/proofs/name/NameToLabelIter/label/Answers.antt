use Rattle.std.proofs.Common.{List, ℕ, length, ap, arith}
use Rattle.dns_flat.proofs.name.NameToLabelIter.label.Goals as goal

pub returns-clause-few : goal.returns-clause-few
returns-clause-few g c = omega (arith, c.iter.ensures.few, ap (length {A = List ℕ}) c.iter.ensures.labels)
