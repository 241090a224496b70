use Rattle.dns_scan.proofs.ConvertedEntries.{entry_decodes, decodes_entry}
use Rattle.dns_scan.proofs.laws.entries_convert_as_texts_decode.Goals as goal

pub returns : goal.returns
returns c = record { converted = entry_decodes; decoded = decodes_entry }
