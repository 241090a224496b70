use Rattle.zone_forms.proofs.OneLongerList.{whole}
use Rattle.zone_forms.proofs.laws.texts_have_one_list_of_longer_entries.Goals as goal

pub returns : goal.returns
returns c = λ start text entries others is also. whole is also
