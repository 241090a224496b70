use Rattle.std.proofs.Common.{refl, []}
use Rattle.dns_flat.proofs.Constants.{no_labels_name}
use Rattle.dns_wire.proofs.FlatForms.{relative-written}
use Rattle.dns_wire.proofs.LowNames.{made_relative}
use Rattle.dns_flat.proofs.relative.RelativeName.empty.Goals as goal

pub copied_relative-requires : goal.copied_relative-requires
copied_relative-requires g c = relative-written [] [] no_labels_name refl

pub returns-clause-ok : goal.returns-clause-ok
returns-clause-ok g c = made_relative c.copied_relative.result [] [] c.copied_relative.ensures.ok refl
