use Rattle.dns_entry_scanner.proofs.PlainTexts.{plain_utf8}
use Rattle.dns_entry_scanner.proofs.spelled_octets.plain_word.Goals as goal

pub from_utf8_unchecked-requires : goal.from_utf8_unchecked-requires
from_utf8_unchecked-requires c = plain_utf8 _ c.requires
