use Rattle.std.proofs.Common.{length, sym, ap, ◌∙◌}
use Rattle.zone_canonical.proofs.ChangeLists.{length-changes_in}
use Rattle.zone_canonical.proofs.change_list.ChangeList.len.Goals as goal

pub returns : goal.returns
returns c =
    c.len.ensures.count ∙ sym (length-changes_in c.self.inside.are_added.items c.self.inside.records c.self.invariant) ∙ ap length c.self.view_is
