-- Messages and their frames.
use Rattle.std.proofs.Common.{◌≡◌, ◌≤◌, ◌+◌, ℕ, suc, false, Option, Some, None, List, [], ◌∷◌, ◌++◌, length, take, drop, refl, ◌∙◌, ap, arith}
use Rattle.std.specs.Coded.{le_prop}
use mathlib.Core.Logic.{∥∥₁_elim}
use Rattle.std.proofs.lemmas.Grind.{common_steps}
use Rattle.dns_octets.specs.Builder.{Known, IsWithin}
use Rattle.dns_name.specs.Spelling.{Spelling, compresses, has_room}
use Rattle.dns_name.specs.Remembered.{IsSound, patched}
use Rattle.dns_compress.specs.Frame.{frame}

-- if none may be remembered, none are
none_within : (most : Option ℕ) (count : ℕ) → has_room most 0 ≡ false → IsWithin most count → count ≤ 0
none_within None count no_room within = absurd (cc)
none_within (Some most) count no_room within = grind (arith, common_steps)

-- a target that does not compress remembers nothing
pub none_known : (s : Spelling) (known : Known) (octets : List ℕ) → compresses s ≡ false → ∥ IsSound s known octets ∥₁ → known ≡ []
none_known s [] octets plain sound = refl
none_known s (standing ∷ known) octets plain sound =
    let few : length (standing ∷ known) ≤ 0 = ∥∥₁_elim sound le_prop (λ sound. none_within s.most _ plain sound.few) in
    absurd (omega arith)

-- a place in the message is two octets further on in its frame
pub drop-patched : (octets : List ℕ) (place : ℕ) (over : List ℕ) → 2 ≤ length octets
    → drop 2 (patched octets (place + 2) over) ≡ patched (drop 2 octets) place over
drop-patched [] place over some = absurd (omega arith)
drop-patched (high ∷ []) place over some = absurd (omega arith)
drop-patched (high ∷ low ∷ octets) place over some =
    let all : List ℕ = high ∷ low ∷ octets in
    let further : place + 2 ≡ suc (suc place) = omega arith in
    let behind : place + 2 + length over ≡ suc (suc (place + length over)) = omega arith in
    ap (λ n. drop 2 (take n all ++ (over ++ drop (place + 2 + length over) all))) further
    ∙ ap (λ n. take place octets ++ (over ++ drop n all)) behind

-- a frame has at least the two octets of its length
pub framed_some : (octets : List ℕ) → octets ≡ frame (drop 2 octets) → 2 ≤ length octets
framed_some octets framed = omega (arith, ap (length {A = ℕ}) framed)
