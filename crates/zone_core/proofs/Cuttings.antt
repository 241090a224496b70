-- Which cuttings a list has: a full one is the only full one, and none that fits has fewer groups.
use Rattle.std.proofs.Common.{◌≡◌, ℕ, ◌<◌, ◌≤◌, List, [], ◌∷◌, ◌++◌, length, refl, ap, sym, ◌∙◌, arith, append_assoc}
use Rattle.std.specs.List.{AllByRecursion, push}
use Rattle.zone_core.specs.Cutting.{joined, IsNonempty, Fits, IsFull, IsFullCut, FitsNotBehind, IsBlocked, FrontsFit, PartsFit, Grows}
use Rattle.zone_core.proofs.Splits.{GoesPast, two_splits, nil_append_cons, push_append}
use Rattle.zone_core.proofs.Splits.Compared.{same, longer, shorter}

-- If a size grows, each front and each back of what fits fits.
pub grows_fits : {X : Type 0} (size : List X → ℕ) (max : ℕ) → Grows size → PartsFit size max
grows_fits size max grows = record {
  front = λ xs more fits. let longer = grows.front xs more in omega arith;
  back = λ more xs fits. let longer = grows.back more xs in omega arith;
}

-- a list doesn't fit if it extends a group of a full list by the element after the group
too_long : {X : Type 0} (size : List X → ℕ) (max : ℕ) → FrontsFit size max → (g : List X) (y : X) (w h : List X) → max < size (push g y) → h ≡ g ++ y ∷ w → size h ≤ max → ⊥
too_long size max fit g y w h full e small =
    let front = fit (push g y) w (rw (e ∙ push_append g y w) at small) in
    omega arith

-- what a full list says of its first group and the element after it
full_behind : {X : Type 0} (size : List X → ℕ) (max : ℕ) (g : List X) (gs : List (List X)) (y : X) (rest : List X) → IsFull size max (g ∷ gs) → joined gs ≡ y ∷ rest → max < size (push g y)
full_behind size max g gs y rest full e = rw e at full.0

-- Full groups are no more than small groups whose joined list ends in theirs.
fewest : {X : Type 0} (size : List X → ℕ) (max : ℕ) → PartsFit size max → (before : List X) (gs hs : List (List X)) → AllByRecursion IsNonempty gs → IsFull size max gs → AllByRecursion (λ h. size h ≤ max) hs → joined hs ≡ before ++ joined gs → length gs ≤ length hs
fewest size max fit before [] hs nonempty full small e = omega arith
fewest size max fit before ([] ∷ gs) hs nonempty full small e = absurd nonempty.0
fewest size max fit before ((x ∷ g) ∷ gs) [] nonempty full small e = absurd (nil_append_cons before (g ++ joined gs) x e)
fewest size max fit before ((x ∷ g) ∷ gs) (h ∷ hs) nonempty full small e =
    elim (two_splits h (joined hs) (before ++ x ∷ g) (joined gs) (e ∙ sym (append_assoc before (x ∷ g) (joined gs)))) [
      | same s ↦
          let fewer = fewest size max fit [] gs hs nonempty.1 full.1 small.1 s.back in
          omega arith
      | shorter s ↦
          let fewer = fewest size max fit (s.y ∷ s.w) gs hs nonempty.1 full.1 small.1 s.back in
          omega arith
      | longer s ↦
          let end = x ∷ (g ++ s.y ∷ s.w) in
          let end_fits = fit.back before end (rw (s.front ∙ append_assoc before (x ∷ g) (s.y ∷ s.w)) at small.0) in
          absurd (too_long size max fit.front (x ∷ g) s.y s.w end (full_behind size max (x ∷ g) gs s.y (s.w ++ joined hs) full s.back) refl end_fits)
    ]

-- A full cut has the fewest groups of all cuttings that fit.
pub full_cut_is_fewest : {X : Type 0} (size : List X → ℕ) (max : ℕ) (xs : List X) (gs hs : List (List X)) → PartsFit size max → IsFullCut size max xs gs → Fits size max xs hs → length gs ≤ length hs
full_cut_is_fewest size max xs gs hs fit cut fits =
    fewest size max fit [] gs hs cut.fits.cut.nonempty cut.full fits.small (fits.cut.joins ∙ sym cut.fits.cut.joins)

-- a list with an element that is too large alone has no cutting into small groups
too_large : {X : Type 0} (size : List X → ℕ) (max : ℕ) → PartsFit size max → (before : List X) (x : X) (after : List X) (hs : List (List X)) → max < size (x ∷ []) → AllByRecursion (λ h. size h ≤ max) hs → joined hs ≡ before ++ x ∷ after → ⊥
too_large size max fit before x after [] alone small e = nil_append_cons before after x e
too_large size max fit before x after (h ∷ hs) alone small e =
    elim (two_splits h (joined hs) before (x ∷ after) e) [
      | same s ↦ too_large size max fit [] x after hs alone small.1 s.back
      | shorter s ↦ too_large size max fit (s.y ∷ s.w) x after hs alone small.1 s.back
      | longer s ↦
          let whole : h ≡ before ++ x ∷ s.w = cc (s.front, s.back) in
          let alone_fits = fit.front (x ∷ []) s.w (fit.back before (x ∷ s.w) (rw whole at small.0)) in
          omega arith
    ]

-- If an element is blocked, no cutting fits.
pub blocked_fits_no_cutting : {X : Type 0} (size : List X → ℕ) (max : ℕ) (xs : List X) (n : ℕ) (hs : List (List X)) → PartsFit size max → IsBlocked size max xs n → Fits size max xs hs → ⊥
blocked_fits_no_cutting size max xs n hs fit blocked fits =
    too_large size max fit blocked.before blocked.x blocked.after hs blocked.alone fits.small (fits.cut.joins ∙ blocked.splits)

-- after its first group, a full cut is a full cut of the rest
abbrev rest_cut : {X : Type 0} (size : List X → ℕ) (max : ℕ) (xs g : List X) (gs : List (List X)) → IsFullCut size max xs (g ∷ gs) → IsFullCut size max (joined gs) gs
rest_cut size max xs g gs cut = record {
  fits = record { cut = record { nonempty = cut.fits.cut.nonempty.1; joins = refl }; small = cut.fits.small.1 };
  full = cut.full.1;
}

-- two full cuts of one list are the same
one_cut : {X : Type 0} (size : List X → ℕ) (max : ℕ) → FrontsFit size max → (xs ys : List X) (gs hs : List (List X)) → IsFullCut size max xs gs → IsFullCut size max ys hs → joined gs ≡ joined hs → gs ≡ hs
one_cut size max fit xs ys [] [] a b e = refl
one_cut size max fit xs ys [] ([] ∷ hs) a b e = absurd b.fits.cut.nonempty.0
one_cut size max fit xs ys [] ((y ∷ h) ∷ hs) a b e = absurd cc
one_cut size max fit xs ys ([] ∷ gs) hs a b e = absurd a.fits.cut.nonempty.0
one_cut size max fit xs ys ((x ∷ g) ∷ gs) [] a b e = absurd cc
one_cut size max fit xs ys ((x ∷ g) ∷ gs) (h ∷ hs) a b e =
    elim (two_splits (x ∷ g) (joined gs) h (joined hs) e) [
      | same s ↦
          let others = one_cut size max fit (joined gs) (joined hs) gs hs (rest_cut size max xs (x ∷ g) gs a) (rest_cut size max ys h hs b) s.back in
          cc (s.front, others)
      | longer s ↦
          absurd (too_long size max fit h s.y s.w (x ∷ g) (full_behind size max h hs s.y (s.w ++ joined gs) b.full s.back) s.front a.fits.small.0)
      | shorter s ↦
          absurd (too_long size max fit (x ∷ g) s.y s.w h (full_behind size max (x ∷ g) gs s.y (s.w ++ joined hs) a.full s.back) s.front b.fits.small.0)
    ]

-- A list has at most one full cut.
pub full_cut_is_one : {X : Type 0} (size : List X → ℕ) (max : ℕ) (xs : List X) (gs hs : List (List X)) → FrontsFit size max → IsFullCut size max xs gs → IsFullCut size max xs hs → gs ≡ hs
full_cut_is_one size max xs gs hs fit a b = one_cut size max fit xs xs gs hs a b (a.fits.cut.joins ∙ sym b.fits.cut.joins)

-- an element that doesn't fit after the groups doesn't fit after the groups without the first
behind_rest : {X : Type 0} (size : List X → ℕ) (max : ℕ) (g : List X) (gs : List (List X)) (x : X) → FitsNotBehind size max (g ∷ gs) x → FitsNotBehind size max gs x
behind_rest size max g [] x behind = tt
behind_rest size max g (k ∷ gs) x behind = behind

-- the same of the first group, if one more element follows all groups and doesn't fit into the last
full_behind_more : {X : Type 0} (size : List X → ℕ) (max : ℕ) (g : List X) (gs : List (List X)) (x : X) (after : List X) (y : X) (rest : List X) → AllByRecursion IsNonempty gs → IsFull size max (g ∷ gs) → FitsNotBehind size max (g ∷ gs) x → joined gs ++ x ∷ after ≡ y ∷ rest → max < size (push g y)
full_behind_more size max g [] x after y rest nonempty full behind e =
    let heads : x ≡ y = cc in rw heads at behind
full_behind_more size max g ([] ∷ gs) x after y rest nonempty full behind e = absurd nonempty.0
full_behind_more size max g ((z ∷ k) ∷ gs) x after y rest nonempty full behind e =
    let heads : z ≡ y = cc in rw heads at full.0

-- a full cut of a list, and one of the elements before a blocked element
apart : {X : Type 0} (size : List X → ℕ) (max : ℕ) → FrontsFit size max → (before : List X) (x : X) (after ys : List X) (gs hs : List (List X)) → IsFullCut size max before gs → FitsNotBehind size max gs x → max < size (x ∷ []) → IsFullCut size max ys hs → joined hs ≡ joined gs ++ x ∷ after → ⊥
apart size max fit before x after ys gs [] a behind alone b e = nil_append_cons (joined gs) after x e
apart size max fit before x after ys [] ([] ∷ hs) a behind alone b e = b.fits.cut.nonempty.0
apart size max fit before x after ys [] ((y ∷ h) ∷ hs) a behind alone b e =
    let heads : y ≡ x = cc in
    too_long size max fit [] x h (y ∷ h) alone (ap (λ z. z ∷ h) heads) b.fits.small.0
apart size max fit before x after ys (g ∷ gs) (h ∷ hs) a behind alone b e =
    elim (two_splits h (joined hs) g (joined gs ++ x ∷ after) (e ∙ append_assoc g (joined gs) (x ∷ after))) [
      | same s ↦ apart size max fit (joined gs) x after (joined hs) gs hs (rest_cut size max before g gs a) (behind_rest size max g gs x behind) alone (rest_cut size max ys h hs b) s.back
      | longer s ↦
          too_long size max fit g s.y s.w h (full_behind_more size max g gs x after s.y (s.w ++ joined hs) a.fits.cut.nonempty.1 a.full behind s.back) s.front b.fits.small.0
      | shorter s ↦
          too_long size max fit h s.y s.w g (full_behind size max h hs s.y (s.w ++ (joined gs ++ x ∷ after)) b.full s.back) s.front a.fits.small.0
    ]

-- A list with a blocked element has no full cut.
pub cut_and_blocked : {X : Type 0} (size : List X → ℕ) (max : ℕ) (xs : List X) (gs : List (List X)) (n : ℕ) → FrontsFit size max → IsFullCut size max xs gs → IsBlocked size max xs n → ⊥
cut_and_blocked size max xs gs n fit cut b =
    let joins : joined gs ≡ joined b.groups ++ b.x ∷ b.after = cc (cut.fits.cut.joins, b.splits, b.cut.fits.cut.joins) in
    apart size max fit b.before b.x b.after xs b.groups gs b.cut b.behind b.alone cut joins

-- a blocked element, and a full cut of elements that go past it
blocked_within : {X : Type 0} (size : List X → ℕ) (max : ℕ) (xs ys : List X) (m n : ℕ) → FrontsFit size max → (a : IsBlocked size max xs m) → (b : IsBlocked size max ys n) → GoesPast a.before (a.x ∷ a.after) b.before (b.x ∷ b.after) → ⊥
blocked_within size max xs ys m n fit a b s =
    let before : a.before ≡ b.before ++ b.x ∷ s.w = cc (s.front, s.back) in
    cut_and_blocked size max a.before a.groups n fit a.cut (record { before = b.before; x = b.x; after = s.w; splits = before; counted = b.counted; groups = b.groups; cut = b.cut; behind = b.behind; alone = b.alone })

-- At most one element is blocked.
pub blocked_is_one : {X : Type 0} (size : List X → ℕ) (max : ℕ) (xs : List X) (m n : ℕ) → FrontsFit size max → IsBlocked size max xs m → IsBlocked size max xs n → m ≡ n
blocked_is_one size max xs m n fit a b =
    elim (two_splits a.before (a.x ∷ a.after) b.before (b.x ∷ b.after) (sym a.splits ∙ b.splits)) [
      | same s ↦ omega (arith, ap length s.front, a.counted, b.counted)
      | longer s ↦ absurd (blocked_within size max xs xs m n fit a b s)
      | shorter s ↦ absurd (blocked_within size max xs xs n m fit b a s)
    ]
