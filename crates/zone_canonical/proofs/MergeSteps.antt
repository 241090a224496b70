-- A merge of entries, step by step.
use Rattle.std.proofs.Common.{◌≡◌, ◌+◌, ◌-◌, ◌<◌, ◌≤◌, ℕ, List, [], ◌∷◌, ◌++◌, get_or, length, take, drop, refl, sym, ap, ◌∙◌, arith, append_assoc, append-nil}
use Rattle.std.specs.List.{push}
use Rattle.std.specs.declared.cmp.Ordering.TheVariants.{Less, Equal, Greater}
use Rattle.std.proofs.lemmas.List.{drop-drop, drop_more, length-drop, take_all}
use Rattle.zone_canonical.specs.Keyed.{Keyed, form_in, keyed_cmp}
use Rattle.zone_canonical.specs.Merge.{by_order, first_cmp, merged}
use Rattle.zone_canonical.specs.declared.change_list.Change.{Change}
use Rattle.zone_canonical.specs.declared.change_list.Change.TheVariants.{Added, Removed}
use Rattle.zone_canonical.proofs.Ascending.{less_greater, less_tied}

abbrev pub found : List Keyed → List Keyed → List Change
found = merged keyed_cmp form_in

-- what is behind a place in a list
pub behind : {X : Type 0} (xs : List X) (index : ℕ) → take (length xs - index) (drop index xs) ≡ drop index xs
behind xs index = take_all (length xs - index) (drop index xs) (omega (arith, length-drop index xs))

-- an element and what is behind it
here : {X : Type 0} (xs : List X) (index : ℕ) (x : X) → x ≡ get_or xs index x → index < length xs → drop index xs ≡ x ∷ drop (index + 1) xs
here xs index x is within = drop_more xs index x within ∙ ap (λ y. y ∷ drop (index + 1) xs) (sym is)

merged_less : (x : Keyed) (olds news : List Keyed) → Less ≡ first_cmp keyed_cmp x news → found (x ∷ olds) news ≡ Removed x.form ∷ found olds news
unfolding merged
merged_less x olds [] e = refl
merged_less x olds (y ∷ news) e =
    ap (λ o. by_order o (Removed x.form ∷ found olds (y ∷ news)) (found olds news) (Added y.form ∷ found (x ∷ olds) news)) (sym e)

merged_equal : (x : Keyed) (olds news : List Keyed) → Equal ≡ first_cmp keyed_cmp x news → found (x ∷ olds) news ≡ found olds (drop 1 news)
unfolding merged
merged_equal x olds [] e = absurd (less_tied (sym e))
merged_equal x olds (y ∷ news) e =
    ap (λ o. by_order o (Removed x.form ∷ found olds (y ∷ news)) (found olds news) (Added y.form ∷ found (x ∷ olds) news)) (sym e)

merged_greater : (x y : Keyed) (olds news : List Keyed) → Greater ≡ keyed_cmp x y
    → found (x ∷ olds) (y ∷ news) ≡ Added y.form ∷ found (x ∷ olds) news
unfolding merged
merged_greater x y olds news e =
    ap (λ o. by_order o (Removed x.form ∷ found olds (y ∷ news)) (found olds news) (Added y.form ∷ found (x ∷ olds) news)) (sym e)

some_left : (x : Keyed) (news : List Keyed) → (Less ≡ first_cmp keyed_cmp x news → ⊥) → 0 < length news
some_left x [] not = absurd (not refl)
some_left x (y ∷ news) not = omega arith

-- there is one more, unless what is compared comes first
pub more_left : (x : Keyed) (news : List Keyed) (index : ℕ) → (Less ≡ first_cmp keyed_cmp x (take (length news - index) (drop index news)) → ⊥)
    → index + 1 ≤ length news
more_left x news index not =
    omega (arith, length-drop index news, some_left x (drop index news) (λ less. not (less ∙ ap (first_cmp keyed_cmp x) (sym (behind news index)))))

-- one change more is told, and one less is to come
told_more : (changes left : List Change) (change : Change) (whole : List Change) → changes ++ change ∷ left ≡ whole → push changes change ++ left ≡ whole
told_more changes left change whole all = append_assoc changes (change ∷ []) left ∙ all

module _ (olds news : List Keyed) (old_index new_index : ℕ) (x : Keyed) (changes whole : List Change)
    (x_is : x ≡ get_or olds old_index x) (within : old_index < length olds)
    (all : changes ++ found (drop old_index olds) (drop new_index news) ≡ whole) where
  before : found (drop old_index olds) (drop new_index news) ≡ found (x ∷ drop (old_index + 1) olds) (drop new_index news)
  before = ap (λ l. found l (drop new_index news)) (here olds old_index x x_is within)

  pub step_less : Less ≡ first_cmp keyed_cmp x (take (length news - new_index) (drop new_index news))
      → push changes (Removed x.form) ++ found (drop (old_index + 1) olds) (drop new_index news) ≡ whole
  step_less e =
      let more = before ∙ merged_less x (drop (old_index + 1) olds) (drop new_index news) (e ∙ ap (first_cmp keyed_cmp x) (behind news new_index)) in
      told_more changes (found (drop (old_index + 1) olds) (drop new_index news)) (Removed x.form) whole (ap (λ l. changes ++ l) (sym more) ∙ all)

  pub step_equal : Equal ≡ first_cmp keyed_cmp x (take (length news - new_index) (drop new_index news))
      → changes ++ found (drop (old_index + 1) olds) (drop (new_index + 1) news) ≡ whole
  step_equal e =
      let more = before
      ∙ merged_equal x (drop (old_index + 1) olds) (drop new_index news) (e ∙ ap (first_cmp keyed_cmp x) (behind news new_index))
      ∙ ap (found (drop (old_index + 1) olds)) (drop-drop 1 new_index news) in
      ap (λ l. changes ++ l) (sym more) ∙ all

  pub step_greater : (y : Keyed) → y ≡ get_or news new_index y → new_index < length news
      → Greater ≡ first_cmp keyed_cmp x (take (length news - new_index) (drop new_index news))
      → push changes (Added y.form) ++ found (drop old_index olds) (drop (new_index + 1) news) ≡ whole
  step_greater y y_is within' e =
      let first = here news new_index y y_is within' in
      let behind_y = drop (new_index + 1) news in
      let more : found (drop old_index olds) (drop new_index news) ≡ Added y.form ∷ found (drop old_index olds) behind_y =
      before
      ∙ ap (found (x ∷ drop (old_index + 1) olds)) first
      ∙ merged_greater x y (drop (old_index + 1) olds) behind_y (e ∙ ap (first_cmp keyed_cmp x) (behind news new_index ∙ first))
      ∙ ap (λ l. Added y.form ∷ found l behind_y) (sym (here olds old_index x x_is within)) in
      told_more changes (found (drop old_index olds) behind_y) (Added y.form) whole (ap (λ l. changes ++ l) (sym more) ∙ all)

-- what is left of the new entries is added
pub step_added : (items : List Keyed) (index : ℕ) (y : Keyed) (changes whole : List Change) → y ≡ get_or items index y → index < length items
    → changes ++ found [] (drop index items) ≡ whole → push changes (Added y.form) ++ found [] (drop (index + 1) items) ≡ whole
unfolding merged
step_added items index y changes whole y_is within all =
    told_more changes (found [] (drop (index + 1) items)) (Added y.form) whole
    (ap (λ l. changes ++ found [] l) (sym (here items index y y_is within)) ∙ all)

nothing_left : {X : Type 0} (xs : List X) (index : ℕ) → length xs ≤ index → drop index xs ≡ []
nothing_left xs index past = empty (drop index xs) (omega (arith, length-drop index xs))
  where
    empty : {X : Type 0} (ys : List X) → length ys ≤ 0 → ys ≡ []
    empty [] none = refl
    empty (y ∷ ys) none = absurd (omega arith)

-- after the old entries
pub old_ended : (olds news : List Keyed) (old_index new_index : ℕ) (changes whole : List Change) → length olds ≤ old_index
    → changes ++ found (drop old_index olds) (drop new_index news) ≡ whole
    → changes ++ found [] (drop 0 (take (length news - new_index) (drop new_index news))) ≡ whole
old_ended olds news old_index new_index changes whole past all =
    (λ i. changes ++ found (sym (nothing_left olds old_index past) i) (behind news new_index i)) ∙ all

-- and after the new ones
pub new_ended : (items : List Keyed) (index : ℕ) (changes whole : List Change) → length items ≤ index → changes ++ found [] (drop index items) ≡ whole
    → changes ≡ whole
unfolding merged
new_ended items index changes whole past all =
    sym (append-nil changes) ∙ ap (λ l. changes ++ found [] l) (sym (nothing_left items index past)) ∙ all
