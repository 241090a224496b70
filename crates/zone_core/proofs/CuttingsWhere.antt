-- A full cut has the fewest groups also if parts fit only for elements with a property.
use Rattle.std.proofs.Common.{◌≡◌, ℕ, ◌<◌, ◌≤◌, List, [], ◌∷◌, ◌++◌, length, refl, sym, ◌∙◌, arith, append_assoc}
use Rattle.std.specs.List.{AllByRecursion, push}
use Rattle.zone_core.specs.Cutting.{joined, IsNonempty, Fits, IsFull, IsFullCut, IsBlocked}
use Rattle.zone_core.proofs.Splits.{two_splits, nil_append_cons, push_append}
use Rattle.zone_core.proofs.Splits.Compared.{same, longer, shorter}

-- What fits, fits without its first elements and without its last, if each element has the property.
pub record PartsFitWhere {X : Type 0} (P : X → Type 0) (size : List X → ℕ) (max : ℕ) : Type 0 where
  pub front : (xs more : List X) → AllByRecursion P (xs ++ more) → size (xs ++ more) ≤ max → size xs ≤ max
  pub back : (more xs : List X) → AllByRecursion P (more ++ xs) → size (more ++ xs) ≤ max → size xs ≤ max

pub all-split : {X : Type 0} (P : X → Type 0) (xs ys : List X) → AllByRecursion P (xs ++ ys) → AllByRecursion P xs × AllByRecursion P ys
all-split P [] ys all = (tt, all)
all-split P (x ∷ xs) ys all = let on = all-split P xs ys all.1 in ((all.0, on.0), on.1)

-- what holds of each element holds of each element of each group
pub all_groups : {X : Type 0} (P : X → Type 0) (groups : List (List X)) → AllByRecursion P (joined groups) → AllByRecursion (λ group. AllByRecursion P group) groups
all_groups P [] all = tt
all_groups P (group ∷ groups) all =
    let both = all-split P group (joined groups) all in (both.0, all_groups P groups both.1)

module _ {X : Type 0} (P : X → Type 0) (size : List X → ℕ) (max : ℕ) (fit : PartsFitWhere P size max) where
  too_long : (g : List X) (y : X) (w h : List X) → AllByRecursion P h → max < size (push g y) → h ≡ g ++ y ∷ w → size h ≤ max → ⊥
  too_long g y w h all full e small =
      let whole : h ≡ push g y ++ w = e ∙ push_append g y w in
      let front = fit.front (push g y) w (rw whole at all) (rw whole at small) in
      omega arith

  full_behind : (g : List X) (gs : List (List X)) (y : X) (rest : List X) → IsFull size max (g ∷ gs) → joined gs ≡ y ∷ rest → max < size (push g y)
  full_behind g gs y rest full e = rw e at full.0

  fewest : (before : List X) (gs hs : List (List X)) → AllByRecursion (λ h. AllByRecursion P h) hs → AllByRecursion IsNonempty gs → IsFull size max gs → AllByRecursion (λ h. size h ≤ max) hs → joined hs ≡ before ++ joined gs → length gs ≤ length hs
  fewest before [] hs all nonempty full small e = omega arith
  fewest before ([] ∷ gs) hs all nonempty full small e = absurd nonempty.0
  fewest before ((x ∷ g) ∷ gs) [] all nonempty full small e = absurd (nil_append_cons before (g ++ joined gs) x e)
  fewest before ((x ∷ g) ∷ gs) (h ∷ hs) all nonempty full small e =
      elim (two_splits h (joined hs) (before ++ x ∷ g) (joined gs) (e ∙ sym (append_assoc before (x ∷ g) (joined gs)))) [
        | same s ↦
            let fewer = fewest [] gs hs all.1 nonempty.1 full.1 small.1 s.back in
            omega arith
        | shorter s ↦
            let fewer = fewest (s.y ∷ s.w) gs hs all.1 nonempty.1 full.1 small.1 s.back in
            omega arith
        | longer s ↦
            let end = x ∷ (g ++ s.y ∷ s.w) in
            let whole : h ≡ before ++ end = s.front ∙ append_assoc before (x ∷ g) (s.y ∷ s.w) in
            let all_whole : AllByRecursion P (before ++ end) = rw whole at all.0 in
            let end_fits = fit.back before end all_whole (rw whole at small.0) in
            absurd (too_long (x ∷ g) s.y s.w end (all-split P before end all_whole).1 (full_behind (x ∷ g) gs s.y (s.w ++ joined hs) full s.back) refl end_fits)
      ]

  -- A full cut has the fewest groups of all cuttings that fit.
  pub full_cut_is_fewest_where : (xs : List X) (gs hs : List (List X)) → AllByRecursion P xs → IsFullCut size max xs gs → Fits size max xs hs → length gs ≤ length hs
  full_cut_is_fewest_where xs gs hs all cut fits =
      let joins = fits.cut.joins in
      fewest [] gs hs (all_groups P hs (rw joins all)) cut.fits.cut.nonempty cut.full fits.small (fits.cut.joins ∙ sym cut.fits.cut.joins)

  too_large : (before : List X) (x : X) (after : List X) (hs : List (List X)) → AllByRecursion (λ h. AllByRecursion P h) hs → max < size (x ∷ []) → AllByRecursion (λ h. size h ≤ max) hs → joined hs ≡ before ++ x ∷ after → ⊥
  too_large before x after [] all alone small e = nil_append_cons before after x e
  too_large before x after (h ∷ hs) all alone small e =
      elim (two_splits h (joined hs) before (x ∷ after) e) [
        | same s ↦ too_large [] x after hs all.1 alone small.1 s.back
        | shorter s ↦ too_large (s.y ∷ s.w) x after hs all.1 alone small.1 s.back
        | longer s ↦
            let whole : h ≡ before ++ x ∷ s.w = cc (s.front, s.back) in
            let all_whole : AllByRecursion P (before ++ x ∷ s.w) = rw whole at all.0 in
            let alone_fits = fit.front (x ∷ []) s.w (all-split P before (x ∷ s.w) all_whole).1 (fit.back before (x ∷ s.w) all_whole (rw whole at small.0)) in
            omega arith
      ]

  -- If an element is blocked, no cutting fits.
  pub blocked_fits_no_cutting_where : (xs : List X) (n : ℕ) (hs : List (List X)) → AllByRecursion P xs → IsBlocked size max xs n → Fits size max xs hs → ⊥
  blocked_fits_no_cutting_where xs n hs all blocked fits =
      let joins = fits.cut.joins in
      too_large blocked.before blocked.x blocked.after hs (all_groups P hs (rw joins all)) blocked.alone fits.small (fits.cut.joins ∙ blocked.splits)
