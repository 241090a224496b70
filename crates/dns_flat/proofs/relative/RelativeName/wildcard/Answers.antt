use Rattle.std.proofs.Common.{refl, [], ◌∷◌}
use Rattle.dns_flat.proofs.Constants.{wildcard_name}
use Rattle.dns_wire.proofs.FlatForms.{relative-written}
use Rattle.dns_wire.proofs.LowNames.{made_relative}
use Rattle.dns_flat.proofs.relative.RelativeName.wildcard.Goals as goal

pub copied_relative-requires : goal.copied_relative-requires
copied_relative-requires g c = relative-written (1 ∷ 42 ∷ []) ((42 ∷ []) ∷ []) wildcard_name refl

pub returns-clause-ok : goal.returns-clause-ok
returns-clause-ok g c = made_relative c.copied_relative.result (1 ∷ 42 ∷ []) ((42 ∷ []) ∷ []) c.copied_relative.ensures.ok refl
