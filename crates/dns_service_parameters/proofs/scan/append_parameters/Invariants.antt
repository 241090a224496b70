use Rattle.std.proofs.Common.{◌≡◌, ◌<◌, ◌++◌, ℕ, get_or, length, take}
use Rattle.std.specs.List.{flat_map}
use Rattle.dns_service_parameters.specs.declared.scan.Written.{Written}
use Rattle.dns_service_parameters.specs.ServiceRead.{written_octets}
use Rattle.dns_service_parameters.proofs.scan.append_parameters.Given as goal

-- the parameters so far are appended, and their values are short
abbrev pub invariant-loop-parameter : goal.invariant-loop-parameter
invariant-loop-parameter g l = record {
  appended : l.octets.items ≡ l.fn.octets.items ++ flat_map written_octets (take l.parameter-index l.fn.parameters);
  short : (k : ℕ) (d : Written) → k < l.parameter-index → length (get_or l.fn.parameters k d).value.items < 65536;
}
