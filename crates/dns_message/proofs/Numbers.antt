-- Numbers at a place of octets.
use Rattle.std.proofs.Common.{◌≡◌, ℕ, ◌+◌, ◌<◌, ◌≤◌, ◌^◌, zero, suc, List, [], ◌∷◌, ◌++◌, length, get_or, take, drop, refl, sym, ap, ◌∙◌, arith, length-drop}
use Rattle.std.specs.Int.{to_be_bytes, from_be_bytes, w16, w32}
use Rattle.std.proofs.lemmas.List.{drop-drop}
use Rattle.std.proofs.lemmas.Nat.{be_bytes_2, be_bytes_4}
pub use Rattle.dns_label.specs.Octets.{AreOctets}
use Rattle.dns_octets.specs.Numbers.{number_at}

pub octet_at : (text : List ℕ) → AreOctets text → (i : ℕ) → get_or text i 0 < 256
octet_at [] each i = omega arith
octet_at (x ∷ text) each zero = each.0
octet_at (x ∷ text) each (suc i) = octet_at text each.1 i

pub octets_from : (place : ℕ) (text : List ℕ) → AreOctets text → AreOctets (drop place text)
octets_from zero text each = each
octets_from (suc place) [] each = tt
octets_from (suc place) (x ∷ text) each = octets_from place text each.1

-- the number in the first two octets, and the one in the first four
pub front16 : (text : List ℕ) → AreOctets text → 2 ≤ length text
    → (from_be_bytes w16 (take 2 text) < 2 ^ 16) × (text ≡ to_be_bytes w16 (from_be_bytes w16 (take 2 text)) ++ drop 2 text)
front16 [] each enough = absurd (omega arith)
front16 (a ∷ []) each enough = absurd (omega arith)
front16 (a ∷ b ∷ rest) each enough =
    let front : List ℕ = a ∷ b ∷ [] in
    let first : a < 256 = each.0 in
    let second : b < 256 = each.1.0 in
    let same : to_be_bytes w16 (from_be_bytes w16 front) ≡ front =
    be_bytes_2 front (from_be_bytes w16 front) refl (octet_at front (each.0, (each.1.0, tt))) refl in
    (omega arith, ap (λ l. l ++ rest) (sym same))

pub front32 : (text : List ℕ) → AreOctets text → 4 ≤ length text
    → (from_be_bytes w32 (take 4 text) < 2 ^ 32) × (text ≡ to_be_bytes w32 (from_be_bytes w32 (take 4 text)) ++ drop 4 text)
front32 [] each enough = absurd (omega arith)
front32 (a ∷ []) each enough = absurd (omega arith)
front32 (a ∷ b ∷ []) each enough = absurd (omega arith)
front32 (a ∷ b ∷ c ∷ []) each enough = absurd (omega arith)
front32 (a ∷ b ∷ c ∷ d ∷ rest) each enough =
    let front : List ℕ = a ∷ b ∷ c ∷ d ∷ [] in
    let first : a < 256 = each.0 in
    let second : b < 256 = each.1.0 in
    let third : c < 256 = each.1.1.0 in
    let fourth : d < 256 = each.1.1.1.0 in
    let same : to_be_bytes w32 (from_be_bytes w32 front) ≡ front =
    be_bytes_4 front (from_be_bytes w32 front) refl (octet_at front (first, (second, (third, (fourth, tt))))) refl in
    (omega arith, ap (λ l. l ++ rest) (sym same))

-- the number of two octets at a place, and the one of four
pub number16 : (message : List ℕ) (place behind : ℕ) → AreOctets message → behind ≡ place + 2 → behind ≤ length message
    → (number_at message place < 2 ^ 16) × (drop place message ≡ to_be_bytes w16 (number_at message place) ++ drop behind message)
number16 message place behind each is within =
    let front = front16 (drop place message) (octets_from place message each) (omega (arith, length-drop place message)) in
    let rest : drop 2 (drop place message) ≡ drop behind message = drop-drop 2 place message ∙ ap (λ n. drop n message) (sym is) in
    (front.0, front.1 ∙ ap (λ l. to_be_bytes w16 (number_at message place) ++ l) rest)

pub number32 : (message : List ℕ) (place behind : ℕ) → AreOctets message → behind ≡ place + 4 → behind ≤ length message
    → (from_be_bytes w32 (take 4 (drop place message)) < 2 ^ 32)
    × (drop place message ≡ to_be_bytes w32 (from_be_bytes w32 (take 4 (drop place message))) ++ drop behind message)
number32 message place behind each is within =
    let front = front32 (drop place message) (octets_from place message each) (omega (arith, length-drop place message)) in
    let rest : drop 4 (drop place message) ≡ drop behind message = drop-drop 4 place message ∙ ap (λ n. drop n message) (sym is) in
    (front.0, front.1 ∙ ap (λ l. to_be_bytes w32 (from_be_bytes w32 (take 4 (drop place message))) ++ l) rest)
