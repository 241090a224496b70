use Rattle.dns_scan.specs.declared.char_str.text.Style.TheVariants.{Plain, Quoted, Unquoted}
use Rattle.dns_scan.proofs.TextsBack.{text_spells_only}
use Rattle.dns_scan.proofs.laws.texts_read_back.Goals as goal

pub returns : goal.returns
returns c = record { plain = text_spells_only Plain; quoted = text_spells_only Quoted; unquoted = text_spells_only Unquoted }
