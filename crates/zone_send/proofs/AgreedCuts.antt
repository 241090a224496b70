-- Two sizes that agree on groups of a list's elements make the same full cuts of it, and block the same element.
use Rattle.std.proofs.Common.{◌≡◌, ℕ, ◌<◌, ◌≤◌, List, [], ◌∷◌, sym, subst}
use Rattle.std.specs.Prelude.{IfSome, slice_get}
use Rattle.std.specs.List.{AllByRecursion, push}
use Rattle.zone_records.proofs.Each.{all_fronts, all_append}
use Rattle.zone_core.specs.Cutting.{joined, IsFull, IsFullCut, FitsNotBehind, IsBlocked}

module _ {X : Type 0} (P : X → Type 0) (size other : List X → ℕ) (agree : (group : List X) → AllByRecursion P group → size group ≡ other group) (max : ℕ) where
  -- a group with one more element
  too_large : (group : List X) (x : X) → AllByRecursion P group → P x → max < size (push group x) → max < other (push group x)
  too_large group x all is large =
      subst (λ (n : ℕ). max < n) (agree (push group x) (all_append P group (x ∷ []) all (is, tt))) large

  -- a group with the first of the elements after it
  too_large_behind : (group behind : List X) → AllByRecursion P group → AllByRecursion P behind
      → IfSome (slice_get behind 0) (λ x. max < size (push group x)) → IfSome (slice_get behind 0) (λ x. max < other (push group x))
  too_large_behind group [] all none large = tt
  too_large_behind group (x ∷ behind) all some large = too_large group x all some.0 large

  small : (groups : List (List X)) → AllByRecursion P (joined groups) → AllByRecursion (λ group. size group ≤ max) groups
      → AllByRecursion (λ group. other group ≤ max) groups
  small [] all fits = tt
  small (group ∷ groups) all fits =
      let both = all_fronts P group (joined groups) all in
      (subst (λ (n : ℕ). n ≤ max) (agree group both.0) fits.0, small groups both.1 fits.1)

  full : (groups : List (List X)) → AllByRecursion P (joined groups) → IsFull size max groups → IsFull other max groups
  full [] all is = tt
  full (group ∷ groups) all is =
      let both = all_fronts P group (joined groups) all in
      (too_large_behind group (joined groups) both.0 both.1 is.0, full groups both.1 is.1)

  -- after the last of the groups
  not_behind : (groups : List (List X)) (x : X) → AllByRecursion P (joined groups) → P x → FitsNotBehind size max groups x → FitsNotBehind other max groups x
  not_behind [] x all is large = tt
  not_behind (group ∷ []) x all is large = too_large group x (all_fronts P group [] all).0 is large
  not_behind (group ∷ (next ∷ groups)) x all is large =
      not_behind (next ∷ groups) x (all_fronts P group (joined (next ∷ groups)) all).1 is large

  pub full_cut_agrees : (xs : List X) (groups : List (List X)) → AllByRecursion P xs → IsFullCut size max xs groups → IsFullCut other max xs groups
  full_cut_agrees xs groups all cut =
      let each = subst (AllByRecursion P) (sym cut.fits.cut.joins) all in
      record { fits = record { cut = cut.fits.cut; small = small groups each cut.fits.small }; full = full groups each cut.full }

  pub blocked_agrees : (xs : List X) (n : ℕ) → AllByRecursion P xs → IsBlocked size max xs n → IsBlocked other max xs n
  blocked_agrees xs n all b =
      let both = all_fronts P b.before (b.x ∷ b.after) (subst (AllByRecursion P) b.splits all) in
      record {
        before = b.before;
        x = b.x;
        after = b.after;
        splits = b.splits;
        counted = b.counted;
        groups = b.groups;
        cut = full_cut_agrees b.before b.groups both.0 b.cut;
        behind = not_behind b.groups b.x (subst (AllByRecursion P) (sym b.cut.fits.cut.joins) both.0) both.1.0 b.behind;
        alone = subst (λ (n : ℕ). max < n) (agree (b.x ∷ []) (both.1.0, tt)) b.alone;
      }
