-- The list that a writer of changes holds. Only contracts inside the crate name it.
use Rattle.std.specs.Prelude.{◌≡◌, Bool, true, false, List, map}
use Rattle.zone_canonical.specs.FormWriter.{Holds}
use Rattle.zone_canonical.specs.Changes.{changed}
use Rattle.zone_canonical.specs.declared.change_list.Change.{Change}
use Rattle.zone_canonical.specs.declared.change_list.Change.TheVariants.{Added, Removed}
use Rattle.zone_canonical.specs.declared.change_list.ChangeWriter.{ChangeWriter}

abbrev pub is_added : Change → Bool
is_added (Removed form) = false
is_added (Added form) = true

pub record HoldsChanges (writer : ChangeWriter) (changes : List Change) : Type 0 where
  pub forms : Holds writer.forms (map changed changes)
  pub are_added : writer.are_added.items ≡ map is_added changes
