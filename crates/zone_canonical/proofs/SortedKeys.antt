-- Records sorted by key and form are sorted by form, since the keys are those of their owners.
use Rattle.std.proofs.Common.{◌≡◌, ◌+◌, ℕ, Bool, true, false, cond, List, [], ◌∷◌, ◌++◌, Some, get_or, map, refl, sym, ap, ◌∙◌, subst, arith}
use Rattle.std.specs.List.{All, AllByRecursion, IsAllAdjacentAnswer, dedup, dedup_from, flat_map}
use Rattle.std.specs.List.Sorted.{IsSorted, IsPermutation}
use Rattle.std.specs.Ordering.{as_partial_cmp, eq_by_cmp, is_eq, is_le, is_lt, is_some_and, ordering_reverse, partial_le}
use Rattle.std.specs.declared.cmp.Ordering.{Ordering}
use Rattle.std.specs.declared.cmp.Ordering.TheVariants.{Less, Equal, Greater}
use Rattle.std.proofs.lemmas.List.{get_or-map, length-map}
use Rattle.std.proofs.lemmas.List.Elements.{All-from_recursion, recursion_from_All}
use Rattle.std.proofs.lemmas.List.Sorted.{All-permutation, IsPermutation-map}
use Rattle.zone_records.specs.MessageRecord.{record_octets}
use Rattle.zone_records.specs.Record.{Record}
use Rattle.zone_canonical.specs.Canonical.{AreFormsOf, HasCanonicalForm, IsCanonical, canonical_cmp}
use Rattle.zone_canonical.specs.Form.{form_of}
use Rattle.zone_canonical.specs.Keyed.{AreEntriesOf, Keyed, form_in, form_octets, keyed, keyed_cmp, keyed_total, tagged, with_key}
use Rattle.zone_canonical.proofs.Orders.{key_low, tagged_order}
use Rattle.zone_canonical.proofs.RecordForms.{are_formed}
use Rattle.zone_canonical.proofs.SortedForms.{sorted_forms}

-- what is not less than the one before it
not_less : (o : Ordering) → is_some_and is_le (Some o) ≡ true → is_lt (ordering_reverse o) ≡ false
not_less Less le = refl
not_less Equal le = refl
not_less Greater le = absurd cc

-- entries that `is_sorted` finds in order
pub in_order : (entries : List Keyed) (sorted : Bool) → IsAllAdjacentAnswer (λ x y b. partial_le (as_partial_cmp keyed_cmp) x y ≡ b) entries sorted
    → sorted ≡ true → IsSorted keyed_cmp entries
in_order entries true each is k d from to =
    let x = get_or entries k d in
    let y = get_or entries (k + 1) d in
    ap is_lt (keyed_total.antisymm y x) ∙ not_less (keyed_cmp x y) (each k d to)
in_order entries false each is k d from to = absurd cc

module _ (apex : List (List ℕ)) where
  -- the key is that of the owner
  abbrev IsTagged : Keyed → Type 0
  IsTagged entry = entry ≡ tagged apex entry.form

  keyed_tagged : (r : Record) → IsTagged (keyed apex r)
  keyed_tagged r = ap (λ k. with_key k (form_of r)) (sym (key_low apex r.owner))

  all_tagged : (records : List Record) → AllByRecursion IsTagged (map (keyed apex) records)
  all_tagged [] = tt
  all_tagged (r ∷ records) = (keyed_tagged r, all_tagged records)

  are_tagged : (entries : List Keyed) → AllByRecursion IsTagged entries → entries ≡ map (tagged apex) (map form_in entries)
  are_tagged [] each = refl
  are_tagged (entry ∷ entries) each = λ i. each.0 i ∷ are_tagged entries each.1 i

  forms_of : (records : List Record) → map form_in (map (keyed apex) records) ≡ map form_of records
  forms_of [] = refl
  forms_of (r ∷ records) = ap (λ l. form_of r ∷ l) (forms_of records)

  ascend_tagged : (forms : List Record) → IsSorted keyed_cmp (map (tagged apex) forms) → IsSorted canonical_cmp forms
  ascend_tagged forms ascend k d from to =
      let at = get_or-map (tagged apex) forms (k + 1) d (tagged apex d) to in
      let before = get_or-map (tagged apex) forms k d (tagged apex d) (omega arith) in
      ap is_lt (sym (tagged_order apex (get_or forms (k + 1) d) (get_or forms k d)))
      ∙ (λ i. is_lt (keyed_cmp (sym at i) (sym before i)))
      ∙ ascend k (tagged apex d) from (omega (arith, length-map forms (tagged apex)))

  dedup_tagged_from : (first : Record) (forms : List Record)
      → dedup_from (eq_by_cmp keyed_cmp) (tagged apex first) (map (tagged apex) forms) ≡ map (tagged apex) (dedup_from (eq_by_cmp canonical_cmp) first forms)
  dedup_tagged_from first [] = refl
  dedup_tagged_from first (form ∷ forms) =
      let entries = map (tagged apex) forms in
      ap (λ o. cond (is_eq o) (dedup_from (eq_by_cmp keyed_cmp) (tagged apex first) entries) (tagged apex first ∷ dedup_from (eq_by_cmp keyed_cmp) (tagged apex form) entries))
      (tagged_order apex form first)
      ∙ (λ i. cond (is_eq (canonical_cmp form first)) (dedup_tagged_from first forms i) (tagged apex first ∷ dedup_tagged_from form forms i))
      ∙ push (is_eq (canonical_cmp form first)) (dedup_from (eq_by_cmp canonical_cmp) first forms) (dedup_from (eq_by_cmp canonical_cmp) form forms)
    where
      push : (same : Bool) (kept others : List Record)
          → cond same (map (tagged apex) kept) (tagged apex first ∷ map (tagged apex) others) ≡ map (tagged apex) (cond same kept (first ∷ others))
      push true kept others = refl
      push false kept others = refl

  dedup_tagged : (forms : List Record) → dedup (eq_by_cmp keyed_cmp) (map (tagged apex) forms) ≡ map (tagged apex) (dedup (eq_by_cmp canonical_cmp) forms)
  dedup_tagged [] = refl
  dedup_tagged (form ∷ forms) = dedup_tagged_from form forms

  octets_tagged : (forms : List Record) → flat_map form_octets (map (tagged apex) forms) ≡ flat_map record_octets forms
  octets_tagged [] = refl
  octets_tagged (form ∷ forms) = ap (λ l. record_octets form ++ l) (octets_tagged forms)

  -- sorted entries without repeats are those of the records
  pub sorted_keyed : (records : List Record) (entries sorted left : List Keyed) → AllByRecursion HasCanonicalForm records
      → entries ≡ map (keyed apex) records → IsPermutation entries sorted → IsSorted keyed_cmp sorted
      → left ≡ dedup (eq_by_cmp keyed_cmp) sorted → AreEntriesOf apex records left
  sorted_keyed records entries sorted left each are moved ascend left_is =
      let tags : All IsTagged entries = All-from_recursion IsTagged entries (subst (AllByRecursion IsTagged) (sym are) (all_tagged records)) in
      let forms = map form_in sorted in
      let is : sorted ≡ map (tagged apex) forms =
      are_tagged sorted (recursion_from_All IsTagged sorted (All-permutation IsTagged entries sorted moved tags)) in
      let start : map form_in entries ≡ map form_of records = ap (map form_in) are ∙ forms_of records in (
        dedup (eq_by_cmp canonical_cmp) forms,
        left_is ∙ ap (dedup (eq_by_cmp keyed_cmp)) is ∙ dedup_tagged forms,
        sorted_forms records (map form_of records) forms (are_formed records each)
            (subst (λ l. IsPermutation l forms) start (IsPermutation-map form_in entries sorted moved))
            (ascend_tagged forms (subst (IsSorted keyed_cmp) is ascend)),
      )

  forms_tagged : (forms : List Record) → map form_in (map (tagged apex) forms) ≡ forms
  forms_tagged [] = refl
  forms_tagged (form ∷ forms) = ap (λ l. form ∷ l) (forms_tagged forms)

  -- the forms of entries are those of the records
  pub entry_forms : (records : List Record) (entries : List Keyed) → AreEntriesOf apex records entries → AreFormsOf records (map form_in entries)
  entry_forms records entries are =
      subst (AreFormsOf records) (sym (ap (map form_in) are.1 ∙ forms_tagged are.0)) are.2

  -- what is written of entries
  pub entries_written : (records : List Record) (entries : List Keyed) (octets : List ℕ) → AreEntriesOf apex records entries
      → octets ≡ flat_map form_octets entries → IsCanonical records octets
  entries_written records entries octets are written = record {
    forms = are.0;
    ascend = are.2.ascend;
    only = are.2.only;
    all = are.2.all;
    written = written ∙ ap (flat_map form_octets) are.1 ∙ octets_tagged are.0;
  }
