-- What is spelled, by its first part.
use Rattle.std.proofs.Common.{◌≡◌, ℕ, ◌+◌, ◌<◌, ◌≤◌, ◌^◌, List, ◌++◌, length, take, drop, refl}
use Rattle.std.specs.Int.{to_be_bytes, w16}
use Rattle.dns_label.specs.Spelled.{DecodesName}
use Rattle.dns_name.specs.SpelledParts.{SpellsParts}
use Rattle.dns_name.specs.Page.{Parts}
use Rattle.dns_name.specs.Page.Parts.{End, Octets, Named, Counted}
use Rattle.dns_name.specs.SpelledParts.SpellsParts.{nothing, octets, named, counted}

-- octets at a place, with parts after them
pub record BeginsWith (message : List ℕ) (place : ℕ) (text : List ℕ) (parts : Parts) (next : ℕ) : Type 0 where
  pub rest : List ℕ
  pub at : drop place message ≡ text ++ rest
  pub behind : SpellsParts message (place + length text) parts next

-- a name
pub record BeginsNamed (message : List ℕ) (place : ℕ) (name : List (List ℕ)) (parts : Parts) (next : ℕ) : Type 0 where
  pub end : ℕ
  pub reads : DecodesName message place name end
  pub behind : SpellsParts message end parts next

-- a length mark
pub record BeginsCounted (message : List ℕ) (place : ℕ) (inner parts : Parts) (next : ℕ) : Type 0 where
  pub count : ℕ
  pub rest : List ℕ
  pub at : drop place message ≡ to_be_bytes w16 count ++ rest
  pub small : count < 2 ^ 16
  pub within : place + 2 + count ≤ length message
  pub held : SpellsParts (take (place + 2 + count) message) (place + 2) inner (place + 2 + count)
  pub behind : SpellsParts message (place + 2 + count) parts next

abbrev pub Opened : List ℕ → ℕ → Parts → ℕ → Type 0
Opened message place End next = next ≡ place
Opened message place (Octets text parts) next = BeginsWith message place text parts next
Opened message place (Named name parts) next = BeginsNamed message place name parts next
Opened message place (Counted inner parts) next = BeginsCounted message place inner parts next

pub opened : {message : List ℕ} {place next : ℕ} {parts : Parts} → SpellsParts message place parts next → Opened message place parts next
opened (nothing within) = refl
opened (octets rest at behind) = record { rest = rest; at = at; behind = behind }
opened (named end reads behind) = record { end = end; reads = reads; behind = behind }
opened (counted count rest at small within held behind) = record {
  count = count;
  rest = rest;
  at = at;
  small = small;
  within = within;
  held = held;
  behind = behind;
}
