-- Octets of a header in which one field is set and the rest stays.
use Rattle.std.specs.Prelude.{◌≡◌, ◌<◌, ◌/◌, ◌%◌, ◌==◌, ℕ, Bool, List, length, nat_lt, slice_index, slice_set, if◌then◌else◌}
use Rattle.std.specs.Int.{bit_at}

-- octets that differ in at most the bit
pub record SetsBit (bit : ℕ) (set : Bool) (old new : ℕ) : Type 0 where
  pub bits : (i : ℕ) → i < 8 → (bit_at new i == 1) ≡ (if i == bit then set else bit_at old i == 1)
  pub was_octet : old < 256
  pub is_octet : new < 256

-- headers that differ in at most one bit of one octet
pub record ChangesBit (place bit : ℕ) (set : Bool) (old new : List ℕ) : Type 0 where
  pub four : length old ≡ 4
  pub octet : ℕ
  pub is : new ≡ slice_set old place octet
  pub sets : SetsBit bit set (slice_index old place) octet

-- octets that differ in at most the opcode, or in at most the response code
pub record SetsOpcode (opcode old new : ℕ) : Type 0 where
  pub set : new / 8 % 16 ≡ opcode
  pub in_front : nat_lt 127 new ≡ nat_lt 127 old
  pub behind : new % 8 ≡ old % 8

pub record SetsRcode (rcode old new : ℕ) : Type 0 where
  pub set : new % 16 ≡ rcode
  pub in_front : new / 16 ≡ old / 16
