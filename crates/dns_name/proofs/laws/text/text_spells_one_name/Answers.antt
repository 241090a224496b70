use Rattle.dns_name.proofs.OneName.{one_name, one_relative, relative_apart}
use Rattle.dns_name.proofs.laws.text.text_spells_one_name.Goals as goal

pub returns-clause-name : goal.returns-clause-name
returns-clause-name c = λ text name other is are. one_name is are

pub returns-clause-relative : goal.returns-clause-relative
returns-clause-relative c = λ text name other is are. one_relative is are

pub returns-clause-apart : goal.returns-clause-apart
returns-clause-apart c = λ text name other is are. relative_apart is are
