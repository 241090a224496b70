use Rattle.std.proofs.Common.{inr, refl}
use Rattle.std.proofs.lemmas.Grind.{merely}
use Rattle.dns_wire.proofs.Readable.{read-name}
use Rattle.dns_flat.proofs.Standing.{short_wire}
use Rattle.dns_wire.proofs.Wire.{few_labels}
use Rattle.dns_name.proofs.parsed.ParsedNameToLabelIter.first_place.Goals as goal

pub returns-clause-few : goal.returns-clause-few
returns-clause-few g c = few_labels _ (read-name _ _ c.args.self.now.reads)

pub returns-clause-short : goal.returns-clause-short
returns-clause-short g c = short_wire _ (read-name _ _ c.args.self.now.reads)

pub returns-clause-are : goal.returns-clause-are
returns-clause-are g c = merely (record { name = _; is_name = (read-name _ _ c.args.self.now.reads); listed = inr refl })
