use Rattle.std.proofs.Common.{◌≡◌, ◌++◌, ◌≤◌, ◌↔◌, drop, take}
use Rattle.std.specs.Int.{to_be_bytes, w16}
use Rattle.std.specs.List.{flat_map}
use Rattle.dns_service_parameters.specs.ServiceParts.{AscendFrom}
use Rattle.dns_service_parameters.proofs.values.append_ascending.Given as goal

abbrev pub invariant-loop-key : goal.invariant-loop-key
invariant-loop-key g l = record {
  ascends : AscendFrom 1 l.keys ↔ AscendFrom l.least (drop l.key-index l.keys);
  small : l.least ≤ 65536;
  appended : l.value.items ≡ l.fn.value.items ++ flat_map (to_be_bytes w16) (take l.key-index l.keys);
}
