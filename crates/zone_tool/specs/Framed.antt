-- A message after its length, as TCP sends it (RFC 1035 4.2.2).
use Rattle.std.specs.Prelude.{ℕ, List, length, ◌++◌}
use Rattle.std.specs.Int.{to_be_bytes, w16}

abbrev pub framed : List ℕ → List ℕ
framed message = to_be_bytes w16 (length message) ++ message
