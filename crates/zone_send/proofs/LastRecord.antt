-- Groups that aren't empty: what holds of the elements of a list holds of those of its groups, and the last element of
-- the list is the last of the last group.
use Rattle.zone_records.proofs.Each.{all_fronts}
use Rattle.std.proofs.Common.{◌≡◌, List, [], ◌∷◌, ◌++◌, refl, sym, ap, ◌∙◌, append_assoc, append-nil}
use Rattle.std.specs.List.{AllByRecursion}
use Rattle.zone_core.specs.Cutting.{joined, IsNonempty}
use Rattle.zone_core.proofs.Splits.{two_splits, nil_append_cons}
use Rattle.zone_core.proofs.Splits.Compared.{same, longer, shorter}

pub all_joined : {X : Type 0} (P : X → Type 0) (groups : List (List X)) → AllByRecursion P (joined groups)
    → AllByRecursion (AllByRecursion P) groups
all_joined P [] all = tt
all_joined P (group ∷ groups) all =
    let both = all_fronts P group (joined groups) all in (both.0, all_joined P groups both.1)

-- the groups end with an element, and the others are a list
pub record EndWith {X : Type 0} (groups : List (List X)) (xs : List X) (x : X) : Type 0 where
  pub front : List (List X)
  pub last_group : List X
  pub splits : groups ≡ front ++ (last_group ++ x ∷ []) ∷ []
  pub joins : joined front ++ last_group ≡ xs

-- one more group before the others
abbrev behind_group : {X : Type 0} (group : List X) (groups : List (List X)) (xs : List X) (x : X) (all : List X) → EndWith groups xs x
    → all ≡ group ++ xs → EndWith (group ∷ groups) all x
behind_group group groups xs x all ends is = record {
  front = group ∷ ends.front;
  last_group = ends.last_group;
  splits = ap (λ l. group ∷ l) ends.splits;
  joins = append_assoc group (joined ends.front) ends.last_group ∙ ap (λ l. group ++ l) ends.joins ∙ sym is;
}

pub ends_with : {X : Type 0} (groups : List (List X)) (xs : List X) (x : X) → AllByRecursion IsNonempty groups
    → joined groups ≡ xs ++ x ∷ [] → EndWith groups xs x
ends_with [] xs x some e = absurd (nil_append_cons xs [] x e)
ends_with (group ∷ []) xs x some e = record {
  front = [];
  last_group = xs;
  splits = ap (λ l. l ∷ []) (sym (append-nil group) ∙ e);
  joins = refl;
}
ends_with (group ∷ ([] ∷ groups)) xs x some e = absurd some.1.0
ends_with (group ∷ ((y ∷ more) ∷ groups)) xs x some e =
    elim (two_splits group (y ∷ (more ++ joined groups)) xs (x ∷ []) e) [
      | same s ↦ behind_group group _ [] x xs (ends_with ((y ∷ more) ∷ groups) [] x some.1 s.back) (sym s.front ∙ sym (append-nil group))
      | shorter s ↦ behind_group group _ (s.y ∷ s.w) x xs (ends_with ((y ∷ more) ∷ groups) (s.y ∷ s.w) x some.1 s.back) s.front
      | longer s ↦ let none : [] ≡ s.w ++ y ∷ (more ++ joined groups) = cc (s.back) in absurd (nil_append_cons s.w (more ++ joined groups) y none)
    ]
