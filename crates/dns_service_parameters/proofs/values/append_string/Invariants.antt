use Rattle.std.proofs.Common.{◌≡◌, ◌++◌, length}
use Rattle.std.specs.List.{flat_map}
use Rattle.dns_service_parameters.specs.ServiceText.{item_octet}
use Rattle.dns_service_parameters.proofs.values.append_string.Given as goal

abbrev pub invariant-loop-octet : goal.invariant-loop-octet
invariant-loop-octet g l = l.text ≡ flat_map item_octet l.string.items ++ l.left

abbrev pub decreases-loop-octet : goal.decreases-loop-octet
decreases-loop-octet g l = length l.left
