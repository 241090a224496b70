use Rattle.zone_forms.proofs.KeptTexts.{text_stays}
use Rattle.zone_forms.proofs.laws.texts_in_general_form_stay.Goals as goal

pub returns-clause-plain : goal.returns-clause-plain
returns-clause-plain c = λ start text new entries is has. text_stays is has

pub returns-clause-again : goal.returns-clause-again
returns-clause-again c = λ start text new again is also. text_stays also is.written
