-- A message on a stream: its length in two octets, and then the message (RFC 1035 4.2.2, RFC 7766 8).
use Rattle.std.specs.Prelude.{◌-◌, ℕ, Option, Some, None, List, ◌++◌, length, min}
use Rattle.std.specs.Int.{to_be_bytes, w16}

abbrev pub frame : List ℕ → List ℕ
frame message = to_be_bytes w16 (length message) ++ message

-- The most octets of a message whose frame may have at most `bound`; for None only memory bounds the frame. Two octets
-- give a length of at most 65,535.
abbrev pub message_bound : Option ℕ → Option ℕ
message_bound None = Some 65535
message_bound (Some bound) = Some (min (bound - 2) 65535)
