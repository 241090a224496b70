use Rattle.zone_forms.proofs.StandingRows.{longer}
use Rattle.zone_forms.proofs.laws.entries_read_by_the_longer_table.Goals as goal

pub returns : goal.returns
returns c = λ start text entries has. longer has
