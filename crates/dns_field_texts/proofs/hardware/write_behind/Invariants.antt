use Rattle.std.proofs.Common.{take}
use Rattle.std.specs.Fmt.{HasWritten, IsPlainFormatter}
use Rattle.std.specs.List.{flat_map}
use Rattle.dns_field_texts.specs.HardwareParts.{minus_pair}
use Rattle.dns_field_texts.proofs.hardware.write_behind.Given as goal

abbrev pub invariant-loop-octet : goal.invariant-loop-octet
invariant-loop-octet g l =
    IsPlainFormatter l.initial.f → HasWritten g.W.Write.write_str_gives l.initial.f (flat_map minus_pair (take l.octet-index l.octets)) l.f
