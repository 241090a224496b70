use Rattle.std.proofs.Common.{◌+◌, length}
use Rattle.std.specs.Prelude.{option_map, unwrap_or}
use Rattle.dns_service_parameters.specs.ServiceText.{SpellsKey}
use Rattle.dns_service_parameters.proofs.ServiceListed.{key_item}
use Rattle.dns_service_parameters.proofs.ServiceLists.{Listing}
use Rattle.dns_service_parameters.proofs.values.read_keys.Given as goal

abbrev pub invariant-loop-left : goal.invariant-loop-left
invariant-loop-left g l = Listing SpellsKey key_item l.fn.text (option_map (λ text. text.now) l.left) l.keys.items

abbrev pub decreases-loop-left : goal.decreases-loop-left
decreases-loop-left g l = unwrap_or (option_map (λ text. length text.now + 1) l.left) 0
