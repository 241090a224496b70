use Rattle.dns_label.specs.NameText.IsNameText.{absolute}
use Rattle.dns_name.proofs.OneName.{one_name}
use Rattle.dns_name.proofs.PrintedTexts.{printed_absolute}
use Rattle.dns_name.proofs.laws.text.dotted_text_reads_back.Goals as goal

pub returns-clause-spells : goal.returns-clause-spells
returns-clause-spells c = printed_absolute

pub returns-clause-alone : goal.returns-clause-alone
returns-clause-alone c = λ name other is_name octets is. one_name is (absolute (printed_absolute name is_name octets))
