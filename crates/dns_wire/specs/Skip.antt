-- What a reader skips that follows no pointer (RFC 1035, section 4.1.4).
use Rattle.std.specs.Prelude.{◌≡◌, ◌+◌, ◌≤◌, ℕ, List, ◌∷◌, ◌++◌, length, drop}
use Rattle.dns_label.specs.Name.{IsLabel}

-- From the place on there are labels, with no more than `room` octets on the wire, and then the root's octet 0 or a
-- pointer, wherever that leads; `next` is the place after it.
pub data Skips (message : List ℕ) : ℕ → ℕ → ℕ → Type 0 where
  root : {room place : ℕ} (rest : List ℕ)
      → drop place message ≡ 0 ∷ rest
      → Skips message room place (place + 1)
  pointer : {room place : ℕ} (first second : ℕ) (rest : List ℕ)
      → drop place message ≡ first ∷ second ∷ rest
      → 192 ≤ first
      → Skips message room place (place + 2)
  label : {room place next : ℕ} {label : List ℕ} (left : ℕ) (rest : List ℕ)
      → drop place message ≡ length label ∷ label ++ rest
      → IsLabel label
      → 1 + length label + left ≤ room
      → Skips message left (place + 1 + length label) next
      → Skips message room place next
