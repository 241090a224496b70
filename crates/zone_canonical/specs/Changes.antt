-- What differs between two lists of records (RFC 4034 6): the canonical forms that only one of them has.
use Rattle.std.specs.Prelude.{◌⊎◌, List}
use Rattle.std.specs.List.{AllByRecursion, Contains}
use Rattle.std.specs.List.Sorted.{IsStrictlySortedBy}
use Rattle.std.specs.Ordering.{on}
use Rattle.zone_records.specs.Record.{Record}
use Rattle.zone_canonical.specs.Canonical.{HasCanonicalForm, IsCanonicalOf, IsFormOfOne, canonical_cmp}
use Rattle.zone_canonical.specs.declared.change_list.Change.{Change}
use Rattle.zone_canonical.specs.declared.change_list.Change.TheVariants.{Added, Removed}

-- the record that is removed or added
abbrev pub changed : Change → Record
changed (Removed form) = form
changed (Added form) = form

-- the record that is removed or added has a canonical form itself
abbrev pub ChangesForm : Change → Type 0
ChangesForm change = HasCanonicalForm (changed change)

-- this is the canonical form of one of the records, and of none of the others
abbrev pub IsOnlyOf : List Record → List Record → Record → Type 0
IsOnlyOf records others form = IsFormOfOne records form × (IsFormOfOne others form → ⊥)

-- only the old records have what is removed, and only the new ones what is added
abbrev pub IsChange : List Record → List Record → Change → Type 0
IsChange old new (Removed form) = IsOnlyOf old new form
IsChange old new (Added form) = IsOnlyOf new old form

-- one of the records has the canonical form of this one, or that form is among the changes, changed in this way
abbrev pub HasFormOrChange : List Record → List Change → (Record → Change) → Record → Type 0
HasFormOrChange records changes change r =
    (form : Record) × IsCanonicalOf r form × (IsFormOfOne records form ⊎ Contains changes (change form))

-- What differs between old and new records: in canonical order, each canonical form that only one of the lists has,
-- once (RFC 4034 6.2, 6.3).
pub record AreChanges (old new : List Record) (changes : List Change) : Type 0 where
  pub ascend : IsStrictlySortedBy (on changed canonical_cmp) changes
  pub only : AllByRecursion (IsChange old new) changes
  pub removed : AllByRecursion (HasFormOrChange new changes Removed) old
  pub added : AllByRecursion (HasFormOrChange old changes Added) new
