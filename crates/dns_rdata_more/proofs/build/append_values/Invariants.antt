use Rattle.std.proofs.Common.{◌≡◌, ◌++◌, take}
use Rattle.std.specs.List.{flat_map}
use Rattle.dns_rdata_more.specs.Built.{value_octets}
use Rattle.dns_rdata_more.proofs.build.append_values.Given as goal

abbrev pub invariant-loop-value : goal.invariant-loop-value
invariant-loop-value l = l.octets.items ≡ l.initial.octets.items ++ flat_map value_octets (take l.value-index l.values)
