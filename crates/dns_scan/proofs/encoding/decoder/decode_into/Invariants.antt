use Rattle.std.proofs.Common.{◌≡◌, ℕ, List, ◌++◌}
use Rattle.std.specs.Str.{chars, IsUtf8}
use Rattle.std.specs.Str.Iter.{chars_rest}
use Rattle.dns_scan.specs.Decoding.{HasRead}
use Rattle.dns_scan.proofs.encoding.decoder.decode_into.Given as goal

abbrev pub invariant-loop-character : goal.invariant-loop-character
invariant-loop-character g l =
    (read : List ℕ)
    × HasRead g.E.Encoding.BASE l.decoder read
    × (read ++ chars (chars_rest l.character-iterator) ≡ chars l.text)
    × IsUtf8 (chars_rest l.character-iterator)
