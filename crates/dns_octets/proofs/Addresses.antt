-- The octets of an IPv6 address, which std keeps as segments.
use Rattle.std.proofs.Common.{◌≡◌, ◌+◌, ◌-◌, ◌*◌, ◌/◌, ◌%◌, ◌<◌, ℕ, suc, List, [], ◌∷◌, length, get_or, refl, arith}
use Rattle.std.specs.Net.Addr.{octets_of, segments_of}

-- a segment gives back its two octets
high : (a b : ℕ) → b < 256 → (a * 256 + b) / 256 ≡ a
high a b small = omega arith

low : (a b : ℕ) → b < 256 → (a * 256 + b) % 256 ≡ b
low a b small = omega arith

-- an even number of octets is that of their segments
pub octets_of-segments_of : (octets : List ℕ) (pairs : ℕ) → length octets ≡ pairs + pairs → ((i : ℕ) → get_or octets i 0 < 256)
    → octets_of (segments_of octets) ≡ octets
octets_of-segments_of [] pairs even fits = refl
octets_of-segments_of (a ∷ []) pairs even fits = absurd (omega arith)
octets_of-segments_of (a ∷ b ∷ rest) pairs even fits =
    let small : b < 256 = fits 1 in
    let others : octets_of (segments_of rest) ≡ rest = octets_of-segments_of rest (pairs - 1) (omega arith) (λ i. fits (suc (suc i))) in
    rw (high a b small, low a b small, others) refl
