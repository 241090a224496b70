-- A full cut made from the left, an element at a time, as a sender makes it.
use Rattle.std.proofs.Common.{◌≡◌, ℕ, ◌<◌, ◌≤◌, ◌+◌, zero, suc, take, drop, List, [], ◌∷◌, ◌++◌, length, refl, ap, sym, ◌∙◌, arith, append_assoc}
use mathlib.Core.Logic.{◌⊎◌, inl, inr}
use Rattle.std.specs.Prelude.{slice_get, Some}
use Rattle.std.specs.List.{AllByRecursion, push, last_or}
use Rattle.std.proofs.lemmas.Bool.{cases_lt}
use Rattle.std.proofs.lemmas.List.{append-nil}
use Rattle.zone_core.specs.Cutting.{joined, IsNonempty, IsFull, IsFullCut, FitsNotBehind, IsBlocked, CutOrBlocked}
use Rattle.zone_core.proofs.Splits.{push_append}

-- what holds of all groups, and of one more
all_push : {A : Type 0} (P : A → Type 0) (front : List A) (a : A) → AllByRecursion P front → P a → AllByRecursion P (push front a)
all_push P [] a all one = (one, tt)
all_push P (b ∷ front) a all one = (all.0, all_push P front a all.1 one)

-- what holds of all groups, with the last replaced
all_replaced : {A : Type 0} (P : A → Type 0) (front : List A) (a b : A) → AllByRecursion P (push front a) → P b → AllByRecursion P (push front b)
all_replaced P [] a b all one = (one, tt)
all_replaced P (c ∷ front) a b all one = (all.0, all_replaced P front a b all.1 one)

nonempty_push : {X : Type 0} (xs : List X) (x : X) → IsNonempty (push xs x)
nonempty_push [] x = tt
nonempty_push (y ∷ xs) x = tt

joined-push : {X : Type 0} (gs : List (List X)) (g : List X) → joined (push gs g) ≡ joined gs ++ g
joined-push [] g = append-nil g
joined-push (h ∷ gs) g = ap (λ l. h ++ l) (joined-push gs g) ∙ sym (append_assoc h (joined gs) g)

-- the last group is the one that was added last
pub last_or-push : {X : Type 0} (first : List X) (gs : List (List X)) (g : List X) → last_or (Some first) (push gs g) ≡ Some g
last_or-push first [] g = refl
last_or-push first (h ∷ gs) g = last_or-push h gs g

-- an element doesn't fit after groups if it doesn't fit into the last of them
pub not_behind_last : {X : Type 0} (size : List X → ℕ) (max : ℕ) (gs : List (List X)) (g : List X) (x : X) → max < size (push g x) → FitsNotBehind size max (push gs g) x
not_behind_last size max [] g x large = large
not_behind_last size max (h ∷ gs) g x large = rw (last_or-push h gs g) large

-- groups stay full if the last one goes on, since each is still followed by the same element
full_longer : {X : Type 0} (size : List X → ℕ) (max : ℕ) (gs : List (List X)) (g : List X) (x : X) → AllByRecursion IsNonempty (push gs g) → IsFull size max (push gs g) → IsFull size max (push gs (push g x))
full_longer size max [] g x nonempty full = (tt, tt)
full_longer size max (h ∷ []) [] x nonempty full = absurd nonempty.1.0
full_longer size max (h ∷ []) (y ∷ g) x nonempty full = (full.0, (tt, tt))
full_longer size max (h ∷ ([] ∷ gs)) g x nonempty full = absurd nonempty.1.0
full_longer size max (h ∷ ((y ∷ k) ∷ gs)) g x nonempty full = (full.0, full_longer size max ((y ∷ k) ∷ gs) g x nonempty.1 full.1)

-- one more group, whose first element doesn't fit into the group before
full_opened : {X : Type 0} (size : List X → ℕ) (max : ℕ) (gs : List (List X)) (x : X) → AllByRecursion IsNonempty gs → IsFull size max gs → FitsNotBehind size max gs x → IsFull size max (push gs (x ∷ []))
full_opened size max [] x nonempty full behind = (tt, tt)
full_opened size max (h ∷ []) x nonempty full behind = (behind, (tt, tt))
full_opened size max (h ∷ ([] ∷ gs)) x nonempty full behind = absurd nonempty.1.0
full_opened size max (h ∷ ((y ∷ k) ∷ gs)) x nonempty full behind = (full.0, full_opened size max ((y ∷ k) ∷ gs) x nonempty.1 full.1 behind)

-- The full cut of no elements has no groups.
pub full_cut_of_none : {X : Type 0} (size : List X → ℕ) (max : ℕ) → IsFullCut {X = X} size max [] []
full_cut_of_none size max = record {
  fits = record { cut = record { nonempty = tt; joins = refl }; small = tt };
  full = tt;
}

-- An element that fits into the last group goes there.
pub full_cut_goes_on : {X : Type 0} (size : List X → ℕ) (max : ℕ) (xs : List X) (gs : List (List X)) (g : List X) (x : X) → IsFullCut size max xs (push gs g) → size (push g x) ≤ max → IsFullCut size max (push xs x) (push gs (push g x))
full_cut_goes_on size max xs gs g x cut room = record {
  fits = record {
    cut = record {
      nonempty = all_replaced IsNonempty gs g (push g x) cut.fits.cut.nonempty (nonempty_push g x);
      joins = joined-push gs (push g x) ∙ (sym (append_assoc (joined gs) g (x ∷ [])) ∙ ap (λ l. push l x) (sym (joined-push gs g) ∙ cut.fits.cut.joins));
    };
    small = all_replaced (λ group. size group ≤ max) gs g (push g x) cut.fits.small room;
  };
  full = full_longer size max gs g x cut.fits.cut.nonempty cut.full;
}

-- An element that doesn't fit there but fits alone begins a group.
pub full_cut_opens : {X : Type 0} (size : List X → ℕ) (max : ℕ) (xs : List X) (gs : List (List X)) (x : X) → IsFullCut size max xs gs → FitsNotBehind size max gs x → size (x ∷ []) ≤ max → IsFullCut size max (push xs x) (push gs (x ∷ []))
full_cut_opens size max xs gs x cut behind room = record {
  fits = record {
    cut = record {
      nonempty = all_push IsNonempty gs (x ∷ []) cut.fits.cut.nonempty tt;
      joins = joined-push gs (x ∷ []) ∙ ap (λ l. push l x) cut.fits.cut.joins;
    };
    small = all_push (λ group. size group ≤ max) gs (x ∷ []) cut.fits.small room;
  };
  full = full_opened size max gs x cut.fits.cut.nonempty cut.full behind;
}

-- An element that fits neither there nor alone is blocked, whatever follows it.
pub next_is_blocked : {X : Type 0} (size : List X → ℕ) (max : ℕ) (xs : List X) (gs : List (List X)) (x : X) (after : List X) → IsFullCut size max xs gs → FitsNotBehind size max gs x → max < size (x ∷ []) → IsBlocked size max (xs ++ x ∷ after) (length xs + 1)
next_is_blocked size max xs gs x after cut behind alone = record {
  before = xs;
  x = x;
  after = after;
  splits = refl;
  counted = refl;
  groups = gs;
  cut = cut;
  behind = behind;
  alone = alone;
}

-- a list with x at index i, split there
split_at : {X : Type 0} (xs : List X) (i : ℕ) (x : X) → slice_get xs i ≡ Some x → xs ≡ take i xs ++ x ∷ drop (suc i) xs
split_at [] i x e = absurd cc
split_at (y ∷ xs) zero x e = cc
split_at (y ∷ xs) (suc i) x e = ap (λ l. y ∷ l) (split_at xs i x e)

length_before : {X : Type 0} (xs : List X) (i : ℕ) (x : X) → slice_get xs i ≡ Some x → length (take i xs) ≡ i
length_before [] i x e = absurd cc
length_before (y ∷ xs) zero x e = refl
length_before (y ∷ xs) (suc i) x e = ap suc (length_before xs i x e)

-- The same of the element at an index of a list: its number is the index plus 1.
pub blocked_at : {X : Type 0} (size : List X → ℕ) (max : ℕ) (xs : List X) (i : ℕ) (gs : List (List X)) (x : X) → slice_get xs i ≡ Some x → IsFullCut size max (take i xs) gs → FitsNotBehind size max gs x → max < size (x ∷ []) → IsBlocked size max xs (i + 1)
blocked_at size max xs i gs x at cut behind alone = record {
  before = take i xs;
  x = x;
  after = drop (suc i) xs;
  splits = split_at xs i x at;
  counted = omega (arith, length_before xs i x at);
  groups = gs;
  cut = cut;
  behind = behind;
  alone = alone;
}

-- the last of these groups, which has room for an element
record HasRoom {X : Type 0} (size : List X → ℕ) (max : ℕ) (groups : List (List X)) (x : X) : Type 0 where
  front : List (List X)
  last : List X
  is : groups ≡ push front last
  room : size (push last x) ≤ max

room_or_none : {X : Type 0} (size : List X → ℕ) (max : ℕ) (gs : List (List X)) (x : X) → HasRoom size max gs x ⊎ FitsNotBehind size max gs x
room_or_none size max [] x = inr tt
room_or_none size max (g ∷ []) x =
    elim (cases_lt max (size (push g x))) [
      | inl large ↦ inr large
      | inr room ↦ inl (record { front = []; last = g; is = refl; room = room })
    ]
room_or_none size max (g ∷ (h ∷ gs)) x =
    elim (room_or_none size max (h ∷ gs) x) [
      | inl r ↦ inl (record { front = g ∷ r.front; last = r.last; is = ap (λ l. g ∷ l) r.is; room = r.room })
      | inr behind ↦ inr behind
    ]

-- from a full cut of the elements before, each further element goes on, opens a group or is blocked
cut_on : {X : Type 0} (size : List X → ℕ) (max : ℕ) (before rest : List X) (gs : List (List X)) → IsFullCut size max before gs → CutOrBlocked size max (before ++ rest)
cut_on size max before [] gs cut = inl (gs, rw (append-nil before) cut)
cut_on size max before (x ∷ rest) gs cut =
    rw (push_append before x rest) (elim (room_or_none size max gs x) [
      | inl r ↦ cut_on size max (push before x) rest (push r.front (push r.last x)) (full_cut_goes_on size max before r.front r.last x (rw r.is at cut) r.room)
      | inr behind ↦ elim (cases_lt max (size (x ∷ []))) [
        | inl alone ↦ inr (length before + 1, rw (← push_append before x rest) (next_is_blocked size max before gs x rest cut behind alone))
        | inr room ↦ cut_on size max (push before x) rest (push gs (x ∷ [])) (full_cut_opens size max before gs x cut behind room)
      ]
    ])

-- Each list has a full cut or a blocked element.
pub cut_or_blocked : {X : Type 0} (size : List X → ℕ) (max : ℕ) (xs : List X) → CutOrBlocked size max xs
cut_or_blocked size max xs = cut_on size max [] xs [] (full_cut_of_none size max)

-- one more group, whose first element doesn't fit into the group before
full_closed : {X : Type 0} (size : List X → ℕ) (max : ℕ) (gs : List (List X)) (x : X) (xs : List X) → AllByRecursion IsNonempty gs
    → IsFull size max gs → FitsNotBehind size max gs x → IsFull size max (push gs (x ∷ xs))
full_closed size max [] x xs nonempty full behind = (tt, tt)
full_closed size max (h ∷ []) x xs nonempty full behind = (behind, (tt, tt))
full_closed size max (h ∷ ([] ∷ gs)) x xs nonempty full behind = absurd nonempty.1.0
full_closed size max (h ∷ ((y ∷ k) ∷ gs)) x xs nonempty full behind = (full.0, full_closed size max ((y ∷ k) ∷ gs) x xs nonempty.1 full.1 behind)

-- A whole group whose first element doesn't fit into the group before.
pub full_cut_closes : {X : Type 0} (size : List X → ℕ) (max : ℕ) (before : List X) (gs : List (List X)) (x : X) (xs : List X)
    → IsFullCut size max before gs → FitsNotBehind size max gs x → size (x ∷ xs) ≤ max
    → IsFullCut size max (before ++ x ∷ xs) (push gs (x ∷ xs))
full_cut_closes size max before gs x xs cut behind room = record {
  fits = record {
    cut = record {
      nonempty = all_push IsNonempty gs (x ∷ xs) cut.fits.cut.nonempty tt;
      joins = joined-push gs (x ∷ xs) ∙ ap (λ l. l ++ x ∷ xs) cut.fits.cut.joins;
    };
    small = all_push (λ group. size group ≤ max) gs (x ∷ xs) cut.fits.small room;
  };
  full = full_closed size max gs x xs cut.fits.cut.nonempty cut.full behind;
}
