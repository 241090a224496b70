-- What a message spells: parts one after another, each name with the pointers that it has.
use Rattle.std.specs.Prelude.{◌≡◌, ◌+◌, ◌<◌, ◌≤◌, ◌^◌, ℕ, List, ◌++◌, length, take, drop}
use Rattle.std.specs.Int.{to_be_bytes, w16}
use Rattle.dns_label.specs.Spelled.{DecodesName}
use Rattle.dns_name.specs.Page.{Parts}
use Rattle.dns_name.specs.Page.Parts.{End, Octets, Named, Counted}

-- The message spells the parts from a place on, and `next` is the place after them. A name is read with the pointers
-- that it has, in the message up to the end of the parts that a length counts.
pub data SpellsParts : List ℕ → ℕ → Parts → ℕ → Type 0 where
  nothing : {message : List ℕ} {place : ℕ} → place ≤ length message → SpellsParts message place End place
  octets : {message : List ℕ} {place next : ℕ} {text : List ℕ} {parts : Parts} (rest : List ℕ)
      → drop place message ≡ text ++ rest
      → SpellsParts message (place + length text) parts next
      → SpellsParts message place (Octets text parts) next
  named : {message : List ℕ} {place next : ℕ} {name : List (List ℕ)} {parts : Parts} (behind : ℕ)
      → DecodesName message place name behind
      → SpellsParts message behind parts next
      → SpellsParts message place (Named name parts) next
  counted : {message : List ℕ} {place next : ℕ} {inner parts : Parts} (count : ℕ) (rest : List ℕ)
      → drop place message ≡ to_be_bytes w16 count ++ rest
      → count < 2 ^ 16
      → place + 2 + count ≤ length message
      → SpellsParts (take (place + 2 + count) message) (place + 2) inner (place + 2 + count)
      → SpellsParts message (place + 2 + count) parts next
      → SpellsParts message place (Counted inner parts) next
