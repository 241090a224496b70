-- What is skipped as a record by a reader that follows no pointer (RFC 1035 4.1.3).
use Rattle.std.specs.Prelude.{◌≡◌, ◌+◌, ◌≤◌, ◌<◌, ℕ, List, length}
use Rattle.dns_wire.specs.Cut.{IsCut}
use Rattle.dns_wire.specs.Skip.{Skips}
use Rattle.dns_octets.specs.Numbers.{number_at}

-- An owner, ten octets after it, and as many octets of data as the last two of them tell; `next` is the place after
-- these.
pub record SkipsRecord (message : List ℕ) (place next : ℕ) : Type 0 where
  pub behind : ℕ
  pub owner : Skips message 254 place behind
  pub whole : behind + 10 ≤ length message
  pub ends : next ≡ behind + 10 + number_at message (behind + 8)
  pub within : next ≤ length message

-- The message ends too early for it: in the owner, in the ten octets after it, or in the data.
pub data SkipIsCut (message : List ℕ) (place : ℕ) : Type 0 where
  in_owner : IsCut message 0 254 place → SkipIsCut message place
  behind_owner : (behind : ℕ) → Skips message 254 place behind → length message < behind + 10 → SkipIsCut message place
  in_data : (behind : ℕ) → Skips message 254 place behind → behind + 10 ≤ length message
      → length message < behind + 10 + number_at message (behind + 8) → SkipIsCut message place
