-- The canonical forms of records, sorted and without repeats.
use Rattle.std.proofs.Common.{◌≡◌, ℕ, List, [], ◌∷◌, refl, sym, subst}
use Rattle.std.specs.List.{AllByRecursion, AllZip, All, Contains, dedup}
use Rattle.std.specs.List.Sorted.{IsPermutation, IsSorted}
use Rattle.std.specs.Ordering.{eq_by_cmp}
use Rattle.std.specs.Cmp.{eq_by_cmp_equiv}
use Rattle.std.proofs.lemmas.List.Elements.{All-from_recursion, recursion_from_All, All-contains_itself}
use Rattle.std.proofs.lemmas.List.Filters.{All-dedup}
use Rattle.std.proofs.lemmas.List.Kept.{IsStrictlySortedBy-dedup, Any-dedup}
use Rattle.std.proofs.lemmas.List.Sorted.{All-permutation, Contains-permutation}
use Rattle.dns_label.specs.Name.{low}
use Rattle.zone_records.specs.Record.{Record}
use Rattle.zone_canonical.specs.Canonical.{AreFormsOf, IsCanonicalOf, canonical_cmp, IsFormOfOne, HaveFormOf}
use Rattle.zone_canonical.specs.CanonicalLaws.{canonical_total}
use Rattle.zone_canonical.proofs.Ascending.{all_in}
use Rattle.zone_canonical.proofs.Forms.{form_low, tied_forms}

-- each element of a list is in it
pub itself : {X : Type 0} (xs : List X) → AllByRecursion (Contains xs) xs
itself xs = recursion_from_All (Contains xs) xs (All-contains_itself xs)

-- all of a weaker fact
pub all_weaker : {X : Type 0} (P Q : X → Type 0) → ((x : X) → P x → Q x) → (xs : List X) → AllByRecursion P xs → AllByRecursion Q xs
all_weaker P Q weaker [] all = tt
all_weaker P Q weaker (x ∷ xs) all = (weaker x all.0, all_weaker P Q weaker xs all.1)

forms_only : (whole records forms : List Record) → AllByRecursion (Contains whole) records → AllZip IsCanonicalOf records forms
    → AllByRecursion (IsFormOfOne whole) forms
forms_only whole [] [] within zip = tt
forms_only whole [] (form ∷ forms) within zip = absurd zip
forms_only whole (r ∷ records) [] within zip = absurd zip
forms_only whole (r ∷ records) (form ∷ forms) within zip = ((r, within.0, zip.0), forms_only whole records forms within.1 zip.1)

forms_all : (whole records forms : List Record) → AllByRecursion (Contains whole) forms → AllZip IsCanonicalOf records forms
    → AllByRecursion (HaveFormOf whole) records
forms_all whole [] [] within zip = tt
forms_all whole [] (form ∷ forms) within zip = absurd zip
forms_all whole (r ∷ records) [] within zip = absurd zip
forms_all whole (r ∷ records) (form ∷ forms) within zip = ((form, within.0, zip.0), forms_all whole records forms within.1 zip.1)

abbrev pub IsLow : Record → Type 0
IsLow form = low form.owner ≡ form.owner

pub only_low : (records : List Record) (form : Record) → IsFormOfOne records form → IsLow form
only_low records form only = form_low only.0 form only.2

-- a form is in the list also without repeats
kept : (sorted : List Record) (form : Record) → AllByRecursion IsLow sorted → Contains sorted form
    → Contains (dedup (eq_by_cmp canonical_cmp) sorted) form
kept sorted form lows has =
    let left = dedup (eq_by_cmp canonical_cmp) sorted in
    let found = Any-dedup (eq_by_cmp_equiv canonical_total) sorted form has in
    let lows' : AllByRecursion IsLow left = recursion_from_All IsLow left
    (All-dedup (eq_by_cmp canonical_cmp) IsLow sorted (All-from_recursion IsLow sorted lows)) in
    let same = tied_forms form found.1 (all_in IsLow sorted form lows has) (all_in IsLow left found.1 lows' (found.0, found.2, found.3)) found.4 in
    subst (Contains left) (sym same) (found.0, found.2, found.3)

pub sorted_forms : (records forms sorted : List Record) → AllZip IsCanonicalOf records forms → IsPermutation forms sorted
    → IsSorted canonical_cmp sorted → AreFormsOf records (dedup (eq_by_cmp canonical_cmp) sorted)
sorted_forms records forms sorted zip moved ascend =
    let left = dedup (eq_by_cmp canonical_cmp) sorted in
    let only : All (IsFormOfOne records) sorted = All-permutation (IsFormOfOne records) forms sorted moved
    (All-from_recursion (IsFormOfOne records) forms (forms_only records records forms (itself records) zip)) in
    let lows = all_weaker (IsFormOfOne records) IsLow (only_low records) sorted (recursion_from_All (IsFormOfOne records) sorted only) in
    record {
      ascend = IsStrictlySortedBy-dedup canonical_total (λ x y. refl) sorted ascend;
      only = recursion_from_All (IsFormOfOne records) left (All-dedup (eq_by_cmp canonical_cmp) (IsFormOfOne records) sorted only);
      all = all_weaker (HaveFormOf forms) (HaveFormOf left)
          (λ r has. (has.0, kept sorted has.0 lows (Contains-permutation forms sorted has.0 moved has.1), has.2)) records
          (forms_all forms records forms (itself forms) zip);
    }
