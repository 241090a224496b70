use Rattle.std.proofs.Common.{◌≡◌, ◌+◌, ◌*◌, take}
use Rattle.dns_scan.specs.Bits.{all_bits}
use Rattle.dns_field_texts.specs.TypeBitmap.{ones_from}
use Rattle.dns_field_texts.proofs.ShownTypes.{Shows}
use Rattle.dns_field_texts.proofs.bitmap.show.show_window.Given as goal

abbrev pub invariant-loop-octet : goal.invariant-loop-octet
invariant-loop-octet g l = record {
  first : l.first ≡ 256 * l.number + 8 * l.octet-index;
  shown : Shows g.F.Formatter.writes l.initial.formatter (ones_from (256 * l.number) (all_bits 8 (take l.octet-index l.window))) l.formatter;
}
