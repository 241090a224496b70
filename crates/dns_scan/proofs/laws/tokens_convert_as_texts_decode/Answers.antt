use Rattle.dns_scan.proofs.ConvertedTokens.{converted_decodes, decoded_converts}
use Rattle.dns_scan.proofs.laws.tokens_convert_as_texts_decode.Goals as goal

pub returns : goal.returns
returns c = record { converted = converted_decodes; decoded = decoded_converts }
