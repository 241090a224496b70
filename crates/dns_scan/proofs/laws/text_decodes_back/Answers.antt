use Rattle.dns_scan.proofs.Encodings.{text_decodes_only}
use Rattle.dns_scan.proofs.laws.text_decodes_back.Goals as goal

pub returns : goal.returns
returns c = text_decodes_only
