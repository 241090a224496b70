-- Vectors whose lanes are all ones or zero each, as comparisons leave them, and the masks that are made of them.
use Rattle.std.proofs.Common.{◌≡◌, ℕ, ◌+◌, ◌*◌, ◌%◌, ◌^◌, ◌≤◌, ◌||◌, Bool, true, false, not, cond, List, [], ◌∷◌, map, length, refl, ap, ◌∙◌, arith}
use Rattle.std.proofs.lemmas.Simd.{zip2_of_maps, map-map, mask_l-mod}
use Rattle.std.proofs.lemmas.List.{length-map}
use lib.Bits.{bit_or}
use lib.Lanes.{zip2, mask_l, top}

-- the lanes of octets that pass a test
abbrev pub marks : (ℕ → Bool) → List ℕ → List ℕ
marks test octets = map (λ octet. cond (test octet) 255 0) octets

mark_either : (one other : Bool) → bit_or (cond one 255 0) (cond other 255 0) ≡ cond (one || other) 255 0
mark_either true true = refl
mark_either true false = refl
mark_either false true = refl
mark_either false false = refl

mark_top : (is : Bool) → top 7 (cond is 255 0) ≡ not (not is)
mark_top true = refl
mark_top false = refl

pub either_marks : (test test' : ℕ → Bool) (octets : List ℕ) {one other : List ℕ} → one ≡ marks test octets → other ≡ marks test' octets
    → zip2 bit_or one other ≡ marks (λ octet. test octet || test' octet) octets
either_marks test test' octets is is' =
    zip2_of_maps bit_or (λ octet. cond (test octet) 255 0) (λ octet. cond (test' octet) 255 0) octets is is'
    ∙ ap (λ (mark : ℕ → ℕ). map mark octets) (λ i octet. mark_either (test octet) (test' octet) i)

-- the mask of the octets that are not of a kind, if a test says which these are
pub mask_of_marks : (test : ℕ → Bool) (octets : List ℕ) {lanes : List ℕ} → length octets ≤ 64 → lanes ≡ marks test octets
    → mask_l (map (top 7) lanes) % 2 ^ 64 ≡ mask_l (map (λ octet. not (not (test octet))) octets)
mask_of_marks test octets few is =
    ap (λ l. mask_l (map (top 7) l) % 2 ^ 64) is ∙ ap (λ l. mask_l l % 2 ^ 64) (map-map (top 7) (λ octet. cond (test octet) 255 0) octets)
    ∙ ap (λ (mark : ℕ → Bool). mask_l (map mark octets) % 2 ^ 64) (λ i octet. mark_top (test octet) i)
    ∙ mask_l-mod (map (λ octet. not (not (test octet))) octets) 64 (omega (arith, length-map octets (λ octet. not (not (test octet)))))

none_first : (one other : Bool) (mask mask' : ℕ) → cond one 1 0 + 2 * mask ≡ 0 → (one ≡ false → other ≡ false) → (mask ≡ 0 → mask' ≡ 0)
    → cond other 1 0 + 2 * mask' ≡ 0
none_first true other mask mask' none is on = absurd (omega arith)
none_first false true mask mask' none is on = let no : true ≡ false = is refl in cc
none_first false false mask mask' none is on = omega (arith, on (omega arith))

-- an empty mask of one test, if another fails where it fails
pub mask_none : (test test' : ℕ → Bool) → ((octet : ℕ) → test octet ≡ false → test' octet ≡ false) → (octets : List ℕ)
    → mask_l (map test octets) ≡ 0 → mask_l (map test' octets) ≡ 0
mask_none test test' is [] none = refl
mask_none test test' is (octet ∷ octets) none =
    none_first (test octet) (test' octet) (mask_l (map test octets)) (mask_l (map test' octets)) none (is octet)
    (mask_none test test' is octets)
