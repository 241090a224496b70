-- Octets that are written over others.
use Rattle.std.proofs.Common.{◌≡◌, ℕ, ◌+◌, suc, List, [], ◌∷◌, ◌++◌, length, refl, ap, arith, add-one}
use Rattle.std.proofs.Math.ListN.{set}

set_two : (front : List ℕ) (a b high low : ℕ) (behind : List ℕ)
    → set (set (front ++ a ∷ b ∷ behind) (length front) high) (suc (length front)) low ≡ front ++ high ∷ low ∷ behind
set_two [] a b high low behind = refl
set_two (x ∷ front) a b high low behind = ap (λ l. x ∷ l) (set_two front a b high low behind)

-- two octets, one after the other, over the two at a place
pub set_both : (items front octets behind : List ℕ) (place high low : ℕ) → items ≡ front ++ (octets ++ behind) → length front ≡ place
    → length octets ≡ 2 → set (set items place high) (place + 1) low ≡ front ++ high ∷ low ∷ behind
set_both items front [] behind place high low is at long = absurd cc
set_both items front (a ∷ []) behind place high low is at long = absurd cc
set_both items front (a ∷ (b ∷ (x ∷ octets))) behind place high low is at long = absurd (omega arith)
set_both items front (a ∷ (b ∷ [])) behind place high low is at long =
    rw (is, ← at, add-one) (set_two front a b high low behind)
