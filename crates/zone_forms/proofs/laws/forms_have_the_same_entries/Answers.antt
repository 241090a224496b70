use Rattle.zone_forms.proofs.OneLongerList.{general_shown, shown_general}
use Rattle.zone_forms.proofs.laws.forms_have_the_same_entries.Goals as goal

pub returns-clause-presented : goal.returns-clause-presented
returns-clause-presented c = λ layout start text new shown is also. general_shown is also

pub returns-clause-general : goal.returns-clause-general
returns-clause-general c = λ layout start text shown new is also. shown_general is also
