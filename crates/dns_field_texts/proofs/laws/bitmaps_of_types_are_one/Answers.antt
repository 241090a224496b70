use Rattle.dns_field_texts.proofs.OneBitmap.{one_bitmap}
use Rattle.dns_field_texts.proofs.laws.bitmaps_of_types_are_one.Goals as goal

pub returns : goal.returns
returns c = one_bitmap
