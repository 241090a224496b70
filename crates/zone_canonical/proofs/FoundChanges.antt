-- The changes between lists of records are those that a merge of their forms finds.
use Rattle.std.proofs.Common.{◌≡◌, ℕ, List, [], ◌∷◌, refl, sym, ap, ◌∙◌, subst, inl, inr, ⊎_elim}
use Rattle.std.specs.Prelude.{map}
use Rattle.std.specs.List.{AllByRecursion, Contains}
use Rattle.zone_records.specs.Record.{Record}
use Rattle.zone_canonical.specs.Canonical.{AreFormsOf, HasCanonicalForm, HaveFormOf, IsFormOfOne, canonical_cmp}
use Rattle.zone_canonical.specs.Changes.{AreChanges, ChangesForm, HasFormOrChange, IsChange, changed}
use Rattle.zone_canonical.specs.Keyed.{AreEntriesOf, Keyed, form_in, keyed_cmp, tagged}
use Rattle.zone_canonical.specs.Merge.{by_order, merged}
use Rattle.zone_canonical.specs.declared.change_list.Change.{Change}
use Rattle.zone_canonical.specs.declared.change_list.Change.TheVariants.{Added, Removed}
use Rattle.zone_canonical.proofs.Ascending.{all_in}
use Rattle.zone_canonical.proofs.Forms.{one_form}
use Rattle.zone_canonical.proofs.LawfulForms.{form_has}
use Rattle.zone_canonical.proofs.Merged.{Differs, IsLeft, is_merge, same}
use Rattle.zone_canonical.proofs.Orders.{tagged_order}
use Rattle.zone_canonical.proofs.SortedForms.{IsLow, all_weaker, only_low}

-- the form of one of the records is among their forms
pub in_forms : (records forms : List Record) → AreFormsOf records forms → (form : Record) → IsFormOfOne records form → Contains forms form
in_forms records forms are form one =
    let found = all_in (HaveFormOf forms) records one.0 are.all one.1 in
    subst (Contains forms) (one_form one.0 found.0 form found.2 one.2) found.1

pub of_one : (records forms : List Record) → AreFormsOf records forms → (form : Record) → Contains forms form → IsFormOfOne records form
of_one records forms are form has = all_in (IsFormOfOne records) forms form are.only has

is_change : (old new olds news : List Record) → AreFormsOf old olds → AreFormsOf new news → (change : Change) → Differs olds news change
    → IsChange old new change
is_change old new olds news are are' (Removed form) differs =
    (of_one old olds are form differs.0, λ one. differs.1 (in_forms new news are' form one))
is_change old new olds news are are' (Added form) differs =
    (of_one new news are' form differs.0, λ one. differs.1 (in_forms old olds are form one))

-- a record whose form is left over, or else among the changes
form_or_change : (others other_forms forms : List Record) (changes : List Change) (change : Record → Change) → AreFormsOf others other_forms
    → ((form : Record) → Contains forms form → IsLeft other_forms changes change form) → (r : Record) → HaveFormOf forms r
    → HasFormOrChange others changes change r
form_or_change others other_forms forms changes change are left r has =
    (has.0, has.2, ⊎_elim (λ one. inl (of_one others other_forms are has.0 one)) (λ changed. inr changed) (left has.0 has.1))

pub merged_changes : (old new olds news : List Record) → AreFormsOf old olds → AreFormsOf new news
    → AreChanges old new (merged canonical_cmp same olds news)
merged_changes old new olds news are are' =
    let changes = merged canonical_cmp same olds news in
    let is = is_merge olds news are.ascend are'.ascend (all_weaker (IsFormOfOne old) IsLow (only_low old) olds are.only)
    (all_weaker (IsFormOfOne new) IsLow (only_low new) news are'.only) in
    record {
      ascend = is.ascend;
      only = all_weaker (Differs olds news) (IsChange old new) (is_change old new olds news are are') changes is.only;
      removed = all_weaker (HaveFormOf olds) (HasFormOrChange new changes Removed)
          (form_or_change new news olds changes Removed are' (λ form has. all_in (IsLeft news changes Removed) olds form is.removed has)) old are.all;
      added = all_weaker (HaveFormOf news) (HasFormOrChange old changes Added)
          (form_or_change old olds news changes Added are (λ form has. all_in (IsLeft olds changes Added) news form is.added has)) new are'.all;
    }

-- keys of owners leave the merge as it is
merged_tagged : (apex : List (List ℕ)) (olds news : List Record)
    → merged keyed_cmp form_in (map (tagged apex) olds) (map (tagged apex) news) ≡ merged canonical_cmp same olds news
unfolding merged
merged_tagged apex [] [] = refl
merged_tagged apex [] (y ∷ news) = ap (λ l. Added y ∷ l) (merged_tagged apex [] news)
merged_tagged apex (x ∷ olds) [] = ap (λ l. Removed x ∷ l) (merged_tagged apex olds [])
merged_tagged apex (x ∷ olds) (y ∷ news) = λ i.
    by_order (tagged_order apex x y i) (Removed x ∷ merged_tagged apex olds (y ∷ news) i) (merged_tagged apex olds news i)
    (Added y ∷ merged_tagged apex (x ∷ olds) news i)

-- what a merge of the entries of records finds
pub entry_changes : (apex : List (List ℕ)) (old new : List Record) (old_entries new_entries : List Keyed) (changes : List Change)
    → AreEntriesOf apex old old_entries → AreEntriesOf apex new new_entries → changes ≡ merged keyed_cmp form_in old_entries new_entries
    → AreChanges old new changes
entry_changes apex old new old_entries new_entries changes are are' found =
    let all : changes ≡ merged canonical_cmp same are.0 are'.0 =
    found ∙ (λ i. merged keyed_cmp form_in (are.1 i) (are'.1 i)) ∙ merged_tagged apex are.0 are'.0 in
    subst (AreChanges old new) (sym all) (merged_changes old new are.0 are'.0 are.2 are'.2)

-- the form of one of the records has a form
one_has : (records : List Record) → AllByRecursion HasCanonicalForm records → (form : Record) → IsFormOfOne records form → HasCanonicalForm form
one_has records each form one = form_has one.0 form (all_in HasCanonicalForm records one.0 each one.1) one.2

pub forms_have : (records forms : List Record) → AllByRecursion HasCanonicalForm records → AreFormsOf records forms
    → AllByRecursion HasCanonicalForm forms
forms_have records forms each are = all_weaker (IsFormOfOne records) HasCanonicalForm (one_has records each) forms are.only

change_has : (old new : List Record) → AllByRecursion HasCanonicalForm old → AllByRecursion HasCanonicalForm new → (change : Change)
    → IsChange old new change → HasCanonicalForm (changed change)
change_has old new each each' (Removed form) is = one_has old each form is.0
change_has old new each each' (Added form) is = one_has new each' form is.0

pub changes_have : (old new : List Record) (changes : List Change) → AllByRecursion HasCanonicalForm old → AllByRecursion HasCanonicalForm new
    → AreChanges old new changes → AllByRecursion ChangesForm changes
changes_have old new changes each each' are = all_weaker (IsChange old new) ChangesForm (change_has old new each each') changes are.only
