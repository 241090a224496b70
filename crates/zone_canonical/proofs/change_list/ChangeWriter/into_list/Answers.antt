use Rattle.std.proofs.Common.{sym, ap, ◌∙◌}
use Rattle.zone_canonical.specs.ChangesSeen.{changes_in}
use Rattle.zone_canonical.proofs.ChangeLists.{changes_back}
use Rattle.zone_canonical.proofs.change_list.ChangeWriter.into_list.Goals as goal

pub returns : goal.returns
returns c = λ changes held.
    (λ i. changes_in (held.are_added i) (c.into_list.ensures _ held.forms i)) ∙ changes_back changes
