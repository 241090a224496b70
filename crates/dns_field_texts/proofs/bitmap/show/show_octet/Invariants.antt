use Rattle.std.proofs.Common.{◌/◌, ◌-◌, ◌^◌}
use Rattle.dns_scan.specs.Bits.{bits}
use Rattle.dns_field_texts.specs.TypeBitmap.{ones_from}
use Rattle.dns_field_texts.proofs.ShownTypes.{Shows}
use Rattle.dns_field_texts.proofs.bitmap.show.show_octet.Given as goal

abbrev pub invariant-loop-place : goal.invariant-loop-place
invariant-loop-place g l =
    Shows g.F.Formatter.writes l.initial.formatter (ones_from l.first (bits l.place (l.octet / 2 ^ (8 - l.place)))) l.formatter
