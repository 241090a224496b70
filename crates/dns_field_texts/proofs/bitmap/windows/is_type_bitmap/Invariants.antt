use Rattle.std.proofs.Common.{◌≤◌, length}
use Rattle.dns_field_texts.specs.TypeBitmap.{IsBitmapFrom}
use Rattle.dns_field_texts.proofs.bitmap.windows.is_type_bitmap.Given as goal

abbrev pub invariant-loop-number : goal.invariant-loop-number
invariant-loop-number l = record {
  small : l.low ≤ 256;
  there : IsBitmapFrom l.low l.left → IsBitmapFrom 0 l.octets;
  back : IsBitmapFrom 0 l.octets → IsBitmapFrom l.low l.left;
}

abbrev pub decreases-loop-number : goal.decreases-loop-number
decreases-loop-number l = length l.left
