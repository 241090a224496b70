use Rattle.std.proofs.Common.{◌==◌, length, sym, ap, ◌∙◌}
use Rattle.zone_canonical.proofs.ChangeLists.{length-changes_in}
use Rattle.zone_canonical.proofs.change_list.ChangeList.is_empty.Goals as goal

pub returns : goal.returns
returns c =
    c.is_empty.ensures
    ∙ ap (λ n. n == 0) (sym (length-changes_in c.self.inside.are_added.items c.self.inside.records c.self.invariant) ∙ ap length c.self.view_is)
