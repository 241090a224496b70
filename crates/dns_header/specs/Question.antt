-- The question of a message (RFC 1035 4.1.2).
use Rattle.std.specs.Prelude.{◌≡◌, ◌+◌, ◌<◌, ◌≤◌, ℕ, List, ◌++◌, length}
use Rattle.std.specs.Int.{to_be_bytes, w16}
use Rattle.dns_label.specs.Name.{wire}
use Rattle.dns_label.specs.Spelled.{DecodesName}
use Rattle.dns_name.specs.Page.{Parts}
use Rattle.dns_name.specs.Page.Parts.{End, Octets, Named}
use Rattle.dns_wire.specs.Skip.{Skips}
use Rattle.dns_octets.specs.Numbers.{number_at}

pub record Question : Type 0 where
  pub name : List (List ℕ)
  pub qtype : ℕ
  pub qclass : ℕ

-- the question with its name written out
abbrev pub question_octets : Question → List ℕ
question_octets q = wire q.name ++ to_be_bytes w16 q.qtype ++ to_be_bytes w16 q.qclass

-- The message has the question at a place, and `next` is the place after it.
pub record ReadsQuestion (message : List ℕ) (place : ℕ) (q : Question) (next : ℕ) : Type 0 where
  pub behind : ℕ
  pub name : DecodesName message place q.name behind
  pub whole : behind + 4 ≤ length message
  pub qtype : q.qtype ≡ number_at message behind
  pub qclass : q.qclass ≡ number_at message (behind + 2)
  pub ends : next ≡ behind + 4

-- the parts by which a message spells a question
abbrev pub question_parts : Question → Parts
question_parts q = Named q.name (Octets (to_be_bytes w16 q.qtype ++ to_be_bytes w16 q.qclass) End)

-- What a reader skips that follows no pointer: `next` is the place after it.
pub record SkipsQuestion (message : List ℕ) (place : ℕ) (next : ℕ) : Type 0 where
  pub behind : ℕ
  pub name : Skips message 254 place behind
  pub whole : behind + 4 ≤ length message
  pub ends : next ≡ behind + 4

-- The message ends after the name of a question and before the question's end, where `Name` tells which name is at the
-- place, or what is skipped as one.
pub record EndsInQuestion (message : List ℕ) (Name : ℕ → Type 0) : Type 0 where
  pub behind : ℕ
  pub name : Name behind
  pub short : length message < behind + 4
