use Rattle.std.proofs.Common.{◌-◌, length}
use Rattle.dns_wire.specs.Parsed.{IsReadAt, IsWrittenAt}
use Rattle.dns_name.proofs.parsed.parts.has_pointer.Given as goal

abbrev pub invariant-loop-label : goal.invariant-loop-label
invariant-loop-label l = record {
  read : ∥ IsReadAt l.octets l.place ∥₁;
  on : IsWrittenAt l.octets l.place → IsWrittenAt l.octets l.start;
  back : IsWrittenAt l.octets l.start → IsWrittenAt l.octets l.place;
}

abbrev pub decreases-loop-label : goal.decreases-loop-label
decreases-loop-label l = length l.octets - l.place
