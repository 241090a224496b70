-- Which of a scanner's errors says that there is no room or no memory, and which that there is no token.
use Rattle.std.specs.Prelude.{Bool, true, false}
use Rattle.dns_scan.specs.declared.scan.scanner_error.StrError.{StrError}
use Rattle.dns_scan.specs.declared.scan.scanner_error.StrError.TheVariants.{Custom, EndOfEntry, ShortBuf, TrailingTokens}

abbrev pub is_short : StrError → Bool
is_short (Custom message) = false
is_short EndOfEntry = false
is_short ShortBuf = true
is_short TrailingTokens = false

abbrev pub is_end : StrError → Bool
is_end (Custom message) = false
is_end EndOfEntry = true
is_end ShortBuf = false
is_end TrailingTokens = false
