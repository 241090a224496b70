-- The view of a list of changes.
use Rattle.std.specs.Prelude.{Bool, true, false, List, [], ◌∷◌}
use Rattle.zone_records.specs.Record.{Record}
use Rattle.zone_canonical.specs.declared.change_list.Change.{Change}
use Rattle.zone_canonical.specs.declared.change_list.Change.TheVariants.{Added, Removed}

abbrev pub change_of : Bool → Record → Change
change_of true form = Added form
change_of false form = Removed form

-- the changes of records, of which these say whether each is added
abbrev pub changes_in : List Bool → List Record → List Change
changes_in [] forms = []
changes_in (is_added ∷ others) [] = []
changes_in (is_added ∷ others) (form ∷ forms) = change_of is_added form ∷ changes_in others forms
