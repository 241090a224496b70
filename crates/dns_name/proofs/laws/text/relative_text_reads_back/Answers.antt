use Rattle.dns_name.proofs.OneName.{one_relative}
use Rattle.dns_name.proofs.PrintedTexts.{printed_relative_text}
use Rattle.dns_name.proofs.laws.text.relative_text_reads_back.Goals as goal

pub returns-clause-spells : goal.returns-clause-spells
returns-clause-spells c = printed_relative_text

pub returns-clause-alone : goal.returns-clause-alone
returns-clause-alone c = λ name other is_name octets is. one_relative is (printed_relative_text name is_name octets)
