-- The name that a message spells at a place (RFC 1035, section 4.1.4).
use Rattle.std.specs.Prelude.{◌≡◌, ◌+◌, ◌-◌, ◌*◌, ◌<◌, ◌≤◌, ℕ, suc, List, [], ◌∷◌, ◌++◌, length, drop}
use Rattle.dns_label.specs.Name.{IsLabel, IsName}

-- From the place on, with at most this number of pointers followed, the message spells the name, and `next` is the
-- place after it: after the root's octet 0, or after the first pointer.
pub data EncodesName (message : List ℕ) : ℕ → ℕ → List (List ℕ) → ℕ → Type 0 where
  root : {pointers place : ℕ} (rest : List ℕ)
      → drop place message ≡ 0 ∷ rest
      → EncodesName message pointers place [] (place + 1)
  label : {pointers place next : ℕ} {label : List ℕ} {parent : List (List ℕ)} (rest : List ℕ)
      → drop place message ≡ length label ∷ label ++ rest
      → IsLabel label
      → EncodesName message pointers (place + 1 + length label) parent next
      → EncodesName message pointers place (label ∷ parent) next
  -- two octets, the first with both top bits set: the other 14 bits are a place before their own
  pointer : {pointers place : ℕ} {name : List (List ℕ)} (first second after : ℕ) (rest : List ℕ)
      → drop place message ≡ first ∷ second ∷ rest
      → 192 ≤ first
      → 256 * (first - 192) + second < place
      → EncodesName message pointers (256 * (first - 192) + second) name after
      → EncodesName message (suc pointers) place name (place + 2)

-- A reader of the message parses this name there: it is spelled with at most 255 pointers, and it is a name.
pub record DecodesName (message : List ℕ) (place : ℕ) (name : List (List ℕ)) (next : ℕ) : Type 0 where
  pub spelled : EncodesName message 255 place name next
  pub is_name : IsName name
