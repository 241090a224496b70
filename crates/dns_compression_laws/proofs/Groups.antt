-- A message that fits still fits without its first elements, or without its last.
use Rattle.std.proofs.Common.{◌≡◌, ℕ, ◌≤◌, Bool, List, [], ◌∷◌, ◌++◌, length, refl, sym, ap, ◌∙◌, subst, arith}
use Rattle.std.specs.Prelude.{None}
use Rattle.std.specs.List.{AllByRecursion}
use Rattle.dns_name.specs.Spelling.{Spelling, plain}
use Rattle.dns_name.specs.Page.{Parts}
use Rattle.dns_name.specs.Page.Parts.{End, Octets, Named, Counted}
use Rattle.dns_compression_laws.specs.Cost.{names_in, written}
use Rattle.dns_compression_laws.specs.Free.{IsFree}
use Rattle.dns_compression_laws.specs.Joined.{join_parts, AreAsLong}
use Rattle.dns_compression_laws.specs.Groups.{items, HasOneHead, group_parts, group_size}
use Rattle.dns_compression_laws.proofs.Sizes.{AllProper, append-proper}
use Rattle.dns_compression_laws.proofs.Joins.{names-join, octets-join, fits_without}
use Rattle.dns_compression_laws.proofs.FullNames.{less_without}
use Rattle.dns_compression_laws.proofs.FreeCosts.{free_no_shorter}

join-end : (a : Parts) → join_parts a End ≡ a
join-end End = refl
join-end (Octets text a) = ap (Octets text) (join-end a)
join-end (Named name a) = ap (Named name) (join-end a)
join-end (Counted inner a) = ap (Counted inner) (join-end a)

join-join : (a b c : Parts) → join_parts (join_parts a b) c ≡ join_parts a (join_parts b c)
join-join End b c = refl
join-join (Octets text a) b c = ap (Octets text) (join-join a b c)
join-join (Named name a) b c = ap (Named name) (join-join a b c)
join-join (Counted inner a) b c = ap (Counted inner) (join-join a b c)

alike-join : (a b more : Parts) → AreAsLong a b → AreAsLong (join_parts a more) (join_parts b more)
alike-join a b more alike = record {
  names = names-join a more ∙ ap (λ (names : List (List (List ℕ))). names ++ names_in more) alike.names ∙ sym (names-join b more);
  octets = omega (arith, octets-join a more, octets-join b more, alike.octets);
}

proper-join : (folds : Bool) (a b : Parts) → AllProper folds (names_in a) → AllProper folds (names_in b) → AllProper folds (names_in (join_parts a b))
proper-join folds a b one other = rw names-join (append-proper folds (names_in a) (names_in b) one other)

module _ {X : Type 0} (item : X → Parts) where
  items-append : (xs ys : List X) → items item (xs ++ ys) ≡ join_parts (items item xs) (items item ys)
  items-append [] ys = refl
  items-append (x ∷ xs) ys = ap (join_parts (item x)) (items-append xs ys) ∙ sym (join-join (item x) (items item xs) (items item ys))

  -- a group of two, with the second of them as the run that is left out
  with_last : (head : Parts) (xs more : List X)
      → join_parts head (items item (xs ++ more)) ≡ join_parts (join_parts head (items item xs)) (join_parts (items item more) End)
  with_last head xs more =
      ap (join_parts head) (items-append xs more)
      ∙ sym (join-join head (items item xs) (items item more))
      ∙ ap (join_parts (join_parts head (items item xs))) (sym (join-end (items item more)))

-- with pointers, if each element is as it may be
module _ {X : Type 0} (P : X → Type 0) (s : Spelling) (head : List X → Parts) (item : X → Parts) (one : HasOneHead head)
    (proper_head : (group : List X) → AllProper s.folds (names_in (head group)))
    (proper_item : (x : X) → P x → AllProper s.folds (names_in (item x))) where
  proper_items : (xs : List X) → AllByRecursion P xs → AllProper s.folds (names_in (items item xs))
  proper_items [] all = tt
  proper_items (x ∷ xs) all = proper-join s.folds (item x) (items item xs) (proper_item x all.0) (proper_items xs all.1)

  pub proper_group : (xs : List X) → AllByRecursion P xs → AllProper s.folds (names_in (group_parts head item xs))
  proper_group xs all = proper-join s.folds (head xs) (items item xs) (proper_head xs) (proper_items xs all)

  all-split : (xs ys : List X) → AllByRecursion P (xs ++ ys) → AllByRecursion P xs × AllByRecursion P ys
  all-split [] ys all = (tt, all)
  all-split (x ∷ xs) ys all = let on = all-split xs ys all.1 in ((all.0, on.0), on.1)

  pub front_fits : (max : ℕ) → s.most ≡ None → max ≤ 16384 → (xs more : List X) → AllByRecursion P (xs ++ more)
      → group_size s head item (xs ++ more) ≤ max → group_size s head item xs ≤ max
  front_fits max any few xs more all fits =
      let both = all-split xs more all in
      let whole = subst (λ (parts : Parts). length (written s parts) ≤ max) (with_last item (head (xs ++ more)) xs more) fits in
      let left = fits_without s (join_parts (head (xs ++ more)) (items item xs)) (join_parts (head xs) (items item xs)) (items item more) End max any few
      (alike-join (head (xs ++ more)) (head xs) (items item xs) (one (xs ++ more) xs))
      (proper-join s.folds (head (xs ++ more)) (items item xs) (proper_head (xs ++ more)) (proper_items xs both.0))
      (proper_items more both.1) tt whole in
      subst (λ (parts : Parts). length (written s parts) ≤ max) (join-end (join_parts (head xs) (items item xs))) left

  pub back_fits : (max : ℕ) → s.most ≡ None → max ≤ 16384 → (more xs : List X) → AllByRecursion P (more ++ xs)
      → group_size s head item (more ++ xs) ≤ max → group_size s head item xs ≤ max
  back_fits max any few more xs all fits =
      let both = all-split more xs all in
      let whole = subst (λ (parts : Parts). length (written s (join_parts (head (more ++ xs)) parts)) ≤ max) (items-append item more xs) fits in
      fits_without s (head (more ++ xs)) (head xs) (items item more) (items item xs) max any few (one (more ++ xs) xs)
      (proper_head (more ++ xs)) (proper_items more both.0) (proper_items xs both.1) whole

  -- a message that spells the group freely is no shorter
  pub free_group : (xs : List X) → s.most ≡ None → AllByRecursion P xs → (message : List ℕ) → IsFree message (group_parts head item xs)
      → length message ≤ 16384 → group_size s head item xs ≤ length message
  free_group xs any all message free few = free_no_shorter s message (group_parts head item xs) any (proper_group xs all) free few

-- with names in full
module _ {X : Type 0} (head : List X → Parts) (item : X → Parts) (one : HasOneHead head) where
  pub front_less : (xs more : List X) → group_size plain head item xs ≤ group_size plain head item (xs ++ more)
  front_less xs more =
      let whole = ap (λ (parts : Parts). length (written plain parts)) (with_last item (head (xs ++ more)) xs more) in
      let left = less_without (join_parts (head (xs ++ more)) (items item xs)) (join_parts (head xs) (items item xs)) (items item more) End
      (alike-join (head (xs ++ more)) (head xs) (items item xs) (one (xs ++ more) xs)) in
      let own = ap (λ (parts : Parts). length (written plain parts)) (join-end (join_parts (head xs) (items item xs))) in
      omega (arith, whole, left, own)

  pub back_less : (more xs : List X) → group_size plain head item xs ≤ group_size plain head item (more ++ xs)
  back_less more xs =
      let whole = ap (λ (parts : Parts). length (written plain (join_parts (head (more ++ xs)) parts))) (items-append item more xs) in
      let left = less_without (head (more ++ xs)) (head xs) (items item more) (items item xs) (one (more ++ xs) xs) in
      omega (arith, whole, left)

-- no condition on the elements
pub all_any : {X : Type 0} (xs : List X) → AllByRecursion (λ (x : X). Unit {0}) xs
all_any [] = tt
all_any (x ∷ xs) = (tt, all_any xs)
