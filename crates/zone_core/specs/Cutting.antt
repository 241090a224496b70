-- Cuttings of a list into consecutive groups, as a sender cuts the records of a transfer into messages (RFC 5936 2.2).
-- `size` is the size of a group, such as the octets of the message that carries it, and no group may be larger than
-- `max`.
use Rattle.std.specs.Prelude.{◌≡◌, ℕ, ◌+◌, ◌<◌, ◌≤◌, List, [], ◌∷◌, ◌++◌, length, ◌⊎◌, flat_map, slice_get, IfSome, None, ⊤}
use Rattle.std.specs.List.{AllByRecursion, last_or, push}

-- the groups joined, the first group first
abbrev pub joined : {X : Type 0} → List (List X) → List X
joined groups = flat_map (λ group. group) groups

abbrev pub IsNonempty : {X : Type 0} → List X → Type 0
IsNonempty [] = ⊥
IsNonempty (x ∷ xs) = ⊤

-- A cutting of a list: none of its groups is empty, and joined they are the list.
pub record IsCutting {X : Type 0} (xs : List X) (groups : List (List X)) : Type 0 where
  pub nonempty : AllByRecursion IsNonempty groups
  pub joins : joined groups ≡ xs

-- A cutting that fits: each group has a size of at most `max`.
pub record Fits {X : Type 0} (size : List X → ℕ) (max : ℕ) (xs : List X) (groups : List (List X)) : Type 0 where
  pub cut : IsCutting xs groups
  pub small : AllByRecursion (λ group. size group ≤ max) groups

-- Each group is full: with the next element, the first of the groups after it, it would be larger than `max`. No
-- element follows the last group.
abbrev pub IsFull : {X : Type 0} → (List X → ℕ) → ℕ → List (List X) → Type 0
IsFull size max [] = ⊤
IsFull size max (group ∷ behind) =
    IfSome (slice_get (joined behind) 0) (λ x. max < size (push group x)) × IsFull size max behind

-- The full cut: the cutting that fits and begins a new group only if the next element has no room.
pub record IsFullCut {X : Type 0} (size : List X → ℕ) (max : ℕ) (xs : List X) (groups : List (List X)) : Type 0 where
  pub fits : Fits size max xs groups
  pub full : IsFull size max groups

-- If there is a last group, it would be larger than `max` with the element added.
abbrev pub FitsNotBehind : {X : Type 0} → (List X → ℕ) → ℕ → List (List X) → X → Type 0
FitsNotBehind size max groups x = IfSome (last_or None groups) (λ last. max < size (push last x))

-- The n-th element, counted from 1, is blocked: the elements before it have a full cut, and it fits neither into the
-- last group of that cut nor alone.
pub record IsBlocked {X : Type 0} (size : List X → ℕ) (max : ℕ) (xs : List X) (n : ℕ) : Type 0 where
  pub before : List X
  pub x : X
  pub after : List X
  pub splits : xs ≡ before ++ x ∷ after
  pub counted : n ≡ length before + 1
  pub groups : List (List X)
  pub cut : IsFullCut size max before groups
  pub behind : FitsNotBehind size max groups x
  pub alone : max < size (x ∷ [])

-- The list has a full cut or a blocked element.
abbrev pub CutOrBlocked : {X : Type 0} → (List X → ℕ) → ℕ → List X → Type 0
CutOrBlocked {X} size max xs =
    ((groups : List (List X)) × IsFullCut size max xs groups) ⊎ ((n : ℕ) × IsBlocked size max xs n)

-- If a list has a size of at most `max`, so has each front of it.
abbrev pub FrontsFit : {X : Type 0} → (List X → ℕ) → ℕ → Type 0
FrontsFit {X} size max = (xs more : List X) → size (xs ++ more) ≤ max → size xs ≤ max

-- If a list has a size of at most `max`, so has each front and each back of it. (A size that grows up to `max` is
-- enough. Past 16,384 octets, which no pointer of RFC 1035 4.1.4 reaches, a compressed message can become shorter if
-- records are added before the others.)
pub record PartsFit {X : Type 0} (size : List X → ℕ) (max : ℕ) : Type 0 where
  pub front : FrontsFit size max
  pub back : (more xs : List X) → size (more ++ xs) ≤ max → size xs ≤ max

-- A size that grows: no front and no back of a list is larger than the list.
pub record Grows {X : Type 0} (size : List X → ℕ) : Type 0 where
  pub front : (xs more : List X) → size xs ≤ size (xs ++ more)
  pub back : (more xs : List X) → size xs ≤ size (more ++ xs)
