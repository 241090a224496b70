-- The owners of records in canonical order, counted one after another.
use Rattle.std.proofs.Common.{◌≡◌, ◌≤◌, ◌+◌, ◌⊎◌, inl, inr, ⊎_elim, ℕ, Bool, true, false, Option, Some, None, List, [], ◌∷◌, ◌++◌, length, map, take, refl, sym, ap, ◌∙◌, subst, arith, length-append}
use Rattle.std.specs.Prelude.{slice_get, reverse}
use Rattle.std.specs.Char.{to_ascii_lowercase}
use Rattle.std.specs.Cmp.{IsTotalOrder, on_total}
use Rattle.std.specs.Cmp.Lexicographic.{lists_total, nat_list_cmp_total, slice_cmp}
use Rattle.std.specs.FinMap.{slice_cmp-IsAntisymmetric, nat_cmp-IsAntisymmetric}
use Rattle.std.specs.List.{AllByRecursion, Contains}
use Rattle.std.specs.List.Sorted.{IsStrictlySortedBy}
use Rattle.std.specs.Ordering.{nat_cmp, ordering_then}
use Rattle.std.specs.declared.cmp.Ordering.{Ordering}
use Rattle.std.specs.declared.cmp.Ordering.TheVariants.{Less, Equal, Greater}
use Rattle.std.proofs.lemmas.List.{reverse-reverse}
use Rattle.std.proofs.lemmas.Str.Ascii.{lowercase-lowercase}
use Rattle.std.proofs.lemmas.List.Elements.{Contains-append_left, Contains-push}
use Rattle.dns_label.specs.Name.{low}
use Rattle.dns_wire.specs.Order.{labels_order}
use Rattle.zone_records.specs.Record.{Record}
use Rattle.zone_records.proofs.Indexed.{take-next}
use Rattle.zone_canonical.specs.Canonical.{AreFormsOf, HaveFormOf, IsCanonicalOf, IsFormOfOne, canonical_cmp}
use Rattle.zone_tool.specs.Counting.{IsLast}
use Rattle.zone_tool.specs.Statistics.{AreOwners, IsCounted, IsOwnerCount}
use Rattle.zone_tool.proofs.Ascending.{ascend_none, ascend_push, below_at, below_last}
use Rattle.zone_tool.proofs.Elements.{all_in, all_push, all_weaker}

labels_total : IsTotalOrder labels_order
labels_total = on_total (λ name. reverse (low name)) (lists_total nat_list_cmp_total)

equal_names : (name other : List (List ℕ)) → labels_order name other ≡ Equal → low name ≡ low other
equal_names name other equal =
    sym (reverse-reverse (low name))
    ∙ ap reverse (slice_cmp-IsAntisymmetric (slice_cmp-IsAntisymmetric nat_cmp-IsAntisymmetric) (reverse (low name)) (reverse (low other)) equal)
    ∙ reverse-reverse (low other)

low_label : (label : List ℕ) → map to_ascii_lowercase (map to_ascii_lowercase label) ≡ map to_ascii_lowercase label
low_label [] = refl
low_label (octet ∷ label) = λ i. lowercase-lowercase octet i ∷ low_label label i

low-low : (name : List (List ℕ)) → low (low name) ≡ low name
low-low [] = refl
low-low (label ∷ name) = λ i. low_label label i ∷ low-low name i

-- the name is the last of the names, in lower case
abbrev pub EndsWithLast : List (List (List ℕ)) → Option (List (List ℕ)) → Type 0
EndsWithLast names None = names ≡ []
EndsWithLast names (Some last) = (front : List (List (List ℕ))) × (names ≡ front ++ low last ∷ [])

-- so many owners of the records that are counted, the last of them this
pub record HasCounted (Holds : Record → Type 0) (records : List Record) (count : ℕ) (last : Option (List (List ℕ))) : Type 0 where
  pub names : List (List (List ℕ))
  pub are : AreOwners Holds records names
  pub count_is : count ≡ length names
  pub few : length names ≤ length records
  pub ends : EndsWithLast names last

-- the name is the owner of one of the records
abbrev pub IsOwnerOf : (Record → Type 0) → List Record → List (List ℕ) → Type 0
IsOwnerOf Holds records name = (r : Record) × Contains records r × Holds r × (low r.owner ≡ name)

pub counted_none : (Holds : Record → Type 0) → HasCounted Holds [] 0 None
counted_none Holds = record {
  names = [];
  are = record { ascend = ascend_none labels_order; only = tt; all = tt };
  count_is = refl;
  few = omega arith;
  ends = refl;
}

owners_longer : (Holds : Record → Type 0) (records : List Record) (form : Record) (names : List (List (List ℕ)))
    → AllByRecursion (IsOwnerOf Holds records) names → AllByRecursion (IsOwnerOf Holds (records ++ form ∷ [])) names
owners_longer Holds records form names only =
    all_weaker (IsOwnerOf Holds records) (IsOwnerOf Holds (records ++ form ∷ []))
    (λ name is. (is.0, Contains-append_left records (form ∷ []) is.0 is.1, is.2, is.3)) names only

-- one record more, whose owner is counted already if it counts
counted_known : (Holds : Record → Type 0) (records : List Record) (form : Record) (count : ℕ) (last : Option (List (List ℕ)))
    → (h : HasCounted Holds records count last) → (Holds form → Contains h.names (low form.owner))
    → HasCounted Holds (records ++ form ∷ []) count last
counted_known Holds records form count last h known = record {
  names = h.names;
  are = record {
    ascend = h.are.ascend;
    only = owners_longer Holds records form h.names h.are.only;
    all = all_push (λ r. Holds r → Contains h.names (low r.owner)) records form h.are.all known;
  };
  count_is = h.count_is;
  few = omega (arith, h.few, length-append records (form ∷ []));
  ends = h.ends;
}

known_last : (names : List (List (List ℕ))) (last : Option (List (List ℕ))) (owner : List (List ℕ)) → EndsWithLast names last → IsLast last owner
    → Contains names (low owner)
known_last names None owner ends is = absurd is
known_last names (Some last) owner ends is =
    subst (Contains names) is (subst (λ l. Contains l (low last)) (sym ends.1) (Contains-push ends.0 (low last)))

then_less : (a b : Ordering) → ordering_then a b ≡ Less → (a ≡ Less) ⊎ (a ≡ Equal)
then_less Less b is = inl refl
then_less Equal b is = inr refl
then_less Greater b is = absurd cc

owner_below : (r form : Record) → canonical_cmp r form ≡ Less → (labels_order r.owner form.owner ≡ Less) ⊎ (labels_order r.owner form.owner ≡ Equal)
unfolding canonical_cmp
owner_below r form less = then_less (labels_order r.owner form.owner) _ less

order_low : (name other : List (List ℕ)) → labels_order (low name) (low other) ≡ labels_order name other
order_low name other = λ i. slice_cmp (slice_cmp nat_cmp) (reverse (low-low name i)) (reverse (low-low other i))

-- the name is before the other, or the same
abbrev IsUpTo : List (List ℕ) → List (List ℕ) → Type 0
IsUpTo other name = (labels_order name other ≡ Less) ⊎ (name ≡ other)

low_up_to : (r form : Record) → canonical_cmp r form ≡ Less → IsUpTo (low form.owner) (low r.owner)
low_up_to r form less =
    ⊎_elim (λ before. inl (order_low r.owner form.owner ∙ before)) (λ equal. inr (equal_names r.owner form.owner equal)) (owner_below r form less)

names_up_to : (Holds : Record → Type 0) (records : List Record) (form : Record) (names : List (List (List ℕ)))
    → AllByRecursion (λ r. canonical_cmp r form ≡ Less) records → AllByRecursion (IsOwnerOf Holds records) names
    → AllByRecursion (IsUpTo (low form.owner)) names
names_up_to Holds records form names below only =
    all_weaker (IsOwnerOf Holds records) (IsUpTo (low form.owner))
    (λ name is. subst (IsUpTo (low form.owner)) is.3
    (low_up_to is.0 form (all_in (λ r. canonical_cmp r form ≡ Less) records is.0 below is.1))) names only

-- the names are before one that they do not end with
names_below : (names : List (List (List ℕ))) (last : Option (List (List ℕ))) (owner : List (List ℕ)) → IsStrictlySortedBy labels_order names
    → EndsWithLast names last → (IsLast last owner → ⊥) → AllByRecursion (IsUpTo (low owner)) names
    → AllByRecursion (λ name. labels_order name (low owner) ≡ Less) names
names_below names None owner ascend ends other up_to = subst (AllByRecursion (λ name. labels_order name (low owner) ≡ Less)) (sym ends) tt
names_below names (Some last) owner ascend ends other up_to =
    let front : List (List (List ℕ)) = ends.0 in
    let there : Contains names (low last) = subst (λ l. Contains l (low last)) (sym ends.1) (Contains-push front (low last)) in
    let less : labels_order (low last) (low owner) ≡ Less =
    ⊎_elim (λ before. before) (λ same. absurd (other same)) (all_in (IsUpTo (low owner)) names (low last) up_to there) in
    let before = below_last labels_order front (low last) (subst (IsStrictlySortedBy labels_order) ends.1 ascend) in
    subst (AllByRecursion (λ name. labels_order name (low owner) ≡ Less)) (sym ends.1)
    (all_push (λ name. labels_order name (low owner) ≡ Less) front (low last)
    (all_weaker (λ name. labels_order name (low last) ≡ Less) (λ name. labels_order name (low owner) ≡ Less)
    (λ name first. labels_total.trans name (low last) (low owner) first less) front before) less)

-- one record more, whose owner is counted now
counted_new : (Holds : Record → Type 0) (records : List Record) (form : Record) (count : ℕ) (last : Option (List (List ℕ)))
    → HasCounted Holds records count last → AllByRecursion (λ r. canonical_cmp r form ≡ Less) records → Holds form → (IsLast last form.owner → ⊥)
    → HasCounted Holds (records ++ form ∷ []) (count + 1) (Some form.owner)
counted_new Holds records form count last h below holds other =
    let owner = low form.owner in
    let names = h.names ++ owner ∷ [] in
    let up_to = names_up_to Holds records form h.names below h.are.only in
    record {
      names = names;
      are = record {
        ascend = ascend_push labels_order h.names owner h.are.ascend (names_below h.names last form.owner h.are.ascend h.ends other up_to);
        only = all_push (IsOwnerOf Holds (records ++ form ∷ [])) h.names owner (owners_longer Holds records form h.names h.are.only)
            (form, Contains-push records form, holds, refl);
        all = all_push (λ r. Holds r → Contains names (low r.owner)) records form
            (all_weaker (λ r. Holds r → Contains h.names (low r.owner)) (λ r. Holds r → Contains names (low r.owner))
            (λ r has does. Contains-append_left h.names (owner ∷ []) (low r.owner) (has does)) records h.are.all)
            (λ does. Contains-push h.names owner);
      };
      count_is = omega (arith, h.count_is, length-append h.names (owner ∷ []));
      few = omega (arith, h.few, length-append h.names (owner ∷ []), length-append records (form ∷ []));
      ends = (h.names, refl);
    }

module _ (Holds : Record → Type 0) (forms : List Record) (index : ℕ) (form : Record) (count : ℕ) (last : Option (List (List ℕ)))
    (at : slice_get forms index ≡ Some form) (h : HasCounted Holds (take index forms) count last) where
  next : (count : ℕ) (last : Option (List (List ℕ))) → HasCounted Holds (take index forms ++ form ∷ []) count last
      → HasCounted Holds (take (index + 1) forms) count last
  next count last = subst (λ l. HasCounted Holds l count last) (sym (take-next forms index form at))

  pub next_left_out : (Holds form → ⊥) → HasCounted Holds (take (index + 1) forms) count last
  next_left_out left = next count last (counted_known Holds (take index forms) form count last h (λ holds. absurd (left holds)))

  pub next_again : IsLast last form.owner → HasCounted Holds (take (index + 1) forms) count last
  next_again is = next count last (counted_known Holds (take index forms) form count last h (λ holds. known_last h.names last form.owner h.ends is))

  pub next_new : IsStrictlySortedBy canonical_cmp forms → Holds form → (IsLast last form.owner → ⊥)
      → HasCounted Holds (take (index + 1) forms) (count + 1) (Some form.owner)
  next_new ascend holds other =
      next (count + 1) (Some form.owner)
      (counted_new Holds (take index forms) form count last h (below_at canonical_cmp forms index form ascend at) holds other)

-- a record and its canonical form count alike
same_owner : (r form : Record) → IsCanonicalOf r form → low form.owner ≡ low r.owner
same_owner r form is = ap low is.owner ∙ low-low r.owner

counts_too : (only : Bool) (apex : List (List ℕ)) (r form : Record) → IsCanonicalOf r form → IsCounted only apex r → IsCounted only apex form
counts_too false apex r form is counted = tt
counts_too true apex r form is counted = (is.rtype ∙ counted.0, λ same. counted.1 (sym (same_owner r form is) ∙ same))

counts_back : (only : Bool) (apex : List (List ℕ)) (r form : Record) → IsCanonicalOf r form → IsCounted only apex form → IsCounted only apex r
counts_back false apex r form is counted = tt
counts_back true apex r form is counted = (sym is.rtype ∙ counted.0, λ same. counted.1 (same_owner r form is ∙ same))

-- the owners of forms are those of their records
owners_of_forms : (only : Bool) (apex : List (List ℕ)) (records forms : List Record) (names : List (List (List ℕ))) → AreFormsOf records forms
    → AreOwners (IsCounted only apex) forms names → AreOwners (IsCounted only apex) records names
owners_of_forms only apex records forms names are owners =
    let Holds = IsCounted only apex in
    record {
      ascend = owners.ascend;
      only = all_weaker (IsOwnerOf Holds forms) (IsOwnerOf Holds records)
          (λ name is. let of_one = all_in (IsFormOfOne records) forms is.0 are.only is.1 in
          (of_one.0, of_one.1, counts_back only apex of_one.0 is.0 of_one.2 is.2, sym (same_owner of_one.0 is.0 of_one.2) ∙ is.3))
          names owners.only;
      all = all_weaker (HaveFormOf forms) (λ r. Holds r → Contains names (low r.owner))
          (λ r has holds. subst (Contains names) (same_owner r has.0 has.2)
          (all_in (λ form. Holds form → Contains names (low form.owner)) forms has.0 owners.all has.1
          (counts_too only apex r has.0 has.2 holds))) records are.all;
    }

pub owner_count : (only : Bool) (apex apex' : List (List ℕ)) (records records' forms : List Record) (count : ℕ) → apex ≡ apex' → records ≡ records'
    → AreFormsOf records forms → IsOwnerCount (IsCounted only apex) forms count → IsOwnerCount (IsCounted only apex') records' count
owner_count only apex apex' records records' forms count same_apex same are owners =
    subst (λ name. IsOwnerCount (IsCounted only name) records' count) same_apex
    (subst (λ l. IsOwnerCount (IsCounted only apex) l count) same
    (owners.0, owners_of_forms only apex records forms owners.0 are owners.1, owners.2))
