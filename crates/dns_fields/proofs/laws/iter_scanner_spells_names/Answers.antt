use Rattle.dns_label.specs.NameText.IsNameText.{absolute}
use Rattle.dns_fields.proofs.laws.iter_scanner_spells_names.Goals as goal

pub returns-clause-printed : goal.returns-clause-printed
returns-clause-printed c = λ name is small. absolute (c.dotted_text_reads_back.ensures.spells name is small)

pub returns-clause-one : goal.returns-clause-one
returns-clause-one c = c.text_spells_one_name.ensures.name
