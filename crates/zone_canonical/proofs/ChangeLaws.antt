-- Records have one list of canonical forms, and two lists of records one list of changes: none if they are alike.
use Rattle.std.proofs.Common.{◌≡◌, List, [], ◌∷◌, refl, sym, subst, ⊎_elim}
use Rattle.std.specs.Cmp.{IsTotalOrder, on_total}
use Rattle.std.specs.List.{AllByRecursion, Contains}
use Rattle.std.specs.Ordering.{on}
use Rattle.zone_records.specs.Record.{Record}
use Rattle.zone_canonical.specs.Canonical.{AreAmong, AreFormsOf, IsCanonicalOf, IsFormOfOne, canonical_cmp}
use Rattle.zone_canonical.specs.CanonicalLaws.{canonical_total}
use Rattle.zone_canonical.specs.Changes.{AreChanges, HasFormOrChange, IsChange, IsOnlyOf, changed}
use Rattle.zone_canonical.specs.declared.change_list.Change.{Change}
use Rattle.zone_canonical.specs.declared.change_list.Change.TheVariants.{Added, Removed}
use Rattle.zone_canonical.proofs.Alike.{LikeOne}
use Rattle.zone_canonical.proofs.Ascending.{all_in, contains_none, same_elements}
use Rattle.zone_canonical.proofs.Forms.{one_form}
use Rattle.zone_canonical.proofs.FoundChanges.{in_forms, of_one}
use Rattle.zone_canonical.proofs.SortedForms.{all_weaker}

pub one_list : (records forms others : List Record) → AreFormsOf records forms → AreFormsOf records others → forms ≡ others
one_list records forms others are are' =
    same_elements canonical_total forms others are.ascend are'.ascend
    (λ form has. in_forms records others are' form (of_one records forms are form has))
    (λ form has. in_forms records forms are form (of_one records others are' form has))

-- a form that only the records have is among their changes
among_changes : (records others : List Record) (changes : List Change) (change : Record → Change)
    → AllByRecursion (HasFormOrChange others changes change) records → (form : Record) → IsOnlyOf records others form → Contains changes (change form)
among_changes records others changes change all form only =
    let has = all_in (HasFormOrChange others changes change) records only.0.0 all only.0.1 in
    let same : has.0 ≡ form = one_form only.0.0 has.0 form has.1 only.0.2 in
    ⊎_elim (λ one. absurd (only.1 (subst (IsFormOfOne others) same one))) (λ within. subst (λ f. Contains changes (change f)) same within) has.2

changes_within : (old new : List Record) (changes others : List Change) → AreChanges old new changes → AreChanges old new others → (change : Change)
    → Contains changes change → Contains others change
changes_within old new changes others are are' (Removed form) has =
    among_changes old new others Removed are'.removed form (all_in (IsChange old new) changes (Removed form) are.only has)
changes_within old new changes others are are' (Added form) has =
    among_changes new old others Added are'.added form (all_in (IsChange old new) changes (Added form) are.only has)

changes_total : IsTotalOrder (on changed canonical_cmp)
changes_total = on_total changed canonical_total

pub one_change_list : (old new : List Record) (changes others : List Change) → AreChanges old new changes → AreChanges old new others → changes ≡ others
one_change_list old new changes others are are' =
    same_elements changes_total changes others are.ascend are'.ascend (changes_within old new changes others are are')
    (changes_within old new others changes are' are)

-- where nothing is removed, each record is like one of the others
all_alike : (records others : List Record) (changes : List Change) (change : Record → Change) → changes ≡ []
    → AllByRecursion (HasFormOrChange others changes change) records → AreAmong records others
all_alike records others changes change none all =
    all_weaker (HasFormOrChange others changes change) (LikeOne others)
    (λ r has. ⊎_elim (λ one. (one.0, one.1, (has.0, has.1, one.2)))
    (λ within. absurd (contains_none (change has.0) (subst (λ l. Contains l (change has.0)) none within))) has.2) records all

-- no form is only of records that are each like one of the others
never_alone : (records others : List Record) → AreAmong records others → (form : Record) → IsOnlyOf records others form → ⊥
never_alone records others among form only =
    let like = all_in (LikeOne others) records only.0.0 among only.0.1 in
    let same : like.2.0 ≡ form = one_form only.0.0 like.2.0 form like.2.1 only.0.2 in
    only.1 (like.0, like.1, subst (IsCanonicalOf like.0) same like.2.2)

no_change : (old new : List Record) → AreAmong old new → AreAmong new old → (change : Change) → IsChange old new change → ⊥
no_change old new among among' (Removed form) only = never_alone old new among form only
no_change old new among among' (Added form) only = never_alone new old among' form only

unchanged : (old new : List Record) (changes : List Change) → AreAmong old new → AreAmong new old → AllByRecursion (IsChange old new) changes → changes ≡ []
unchanged old new [] among among' only = refl
unchanged old new (change ∷ changes) among among' only = absurd (no_change old new among among' change only.0)

pub alike_unchanged : (old new : List Record) (changes : List Change) → AreChanges old new changes
    → (changes ≡ [] → AreAmong old new × AreAmong new old) × (AreAmong old new × AreAmong new old → changes ≡ [])
alike_unchanged old new changes are = (
  λ none. (all_alike old new changes Removed none are.removed, all_alike new old changes Added none are.added),
  λ among. unchanged old new changes among.0 among.1 are.only,
)
