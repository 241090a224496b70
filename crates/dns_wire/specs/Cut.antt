-- Messages that end before a name in them does (RFC 1035, section 4.1.4).
use Rattle.std.specs.Prelude.{◌≡◌, ◌+◌, ◌-◌, ◌*◌, ◌<◌, ◌≤◌, ℕ, suc, List, ◌∷◌, ◌++◌, length, drop}
use Rattle.dns_label.specs.Name.{IsLabel}
use Rattle.dns_label.specs.Split.{EndsEarly}

-- From the place on there are labels, with no more than `room` octets on the wire, and pointers, with at most this
-- number of them followed. Then the message ends, before a label or a pointer is complete.
pub data IsCut (message : List ℕ) : ℕ → ℕ → ℕ → Type 0 where
  here : {pointers room place : ℕ}
      → EndsEarly (drop place message)
      → IsCut message pointers room place
  label : {pointers room place : ℕ} {label : List ℕ} (left : ℕ) (rest : List ℕ)
      → drop place message ≡ length label ∷ label ++ rest
      → IsLabel label
      → 1 + length label + left ≤ room
      → IsCut message pointers left (place + 1 + length label)
      → IsCut message pointers room place
  pointer : {pointers room place : ℕ} (first second : ℕ) (rest : List ℕ)
      → drop place message ≡ first ∷ second ∷ rest
      → 192 ≤ first
      → 256 * (first - 192) + second < place
      → IsCut message pointers room (256 * (first - 192) + second)
      → IsCut message (suc pointers) room place
