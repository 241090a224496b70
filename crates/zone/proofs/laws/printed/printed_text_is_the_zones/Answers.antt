use Rattle.zone.proofs.PrintedZones.{zone_text_made}
use Rattle.zone.proofs.laws.printed.printed_text_is_the_zones.Goals as goal

pub returns : goal.returns
returns c = zone_text_made c.texts_read_back.ensures.quoted c.texts_read_back.ensures.unquoted
