use Rattle.dns_field_texts.proofs.PrintedTypes.{printed_scans_back}
use Rattle.dns_field_texts.proofs.laws.printed_bitmap_scans_back.Goals as goal

pub returns : goal.returns
returns c = printed_scans_back
