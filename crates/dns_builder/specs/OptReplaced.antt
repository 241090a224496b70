-- Octets that are appended to a target, all or none.
use Rattle.std.specs.Prelude.{◌+◌, ℕ, List, Option, length}
use Rattle.dns_octets.specs.Builder.{IsPast}
use Rattle.dns_octets.specs.declared.error.AppendError.{AppendError}
use Rattle.dns_octets.specs.declared.error.AppendError.TheVariants.{ShortBuf, OutOfMemory}

-- Why `count` octets are not appended after these: the target is full, or out of memory.
pub data RefusesOctets (here : List ℕ) (bound : Option ℕ) (count : ℕ) : AppendError → Type 0 where
  no_room : IsPast bound (length here + count) → RefusesOctets here bound count ShortBuf
  no_memory : RefusesOctets here bound count OutOfMemory
