-- Which errors of decoding say that there is no room or no memory.
use Rattle.std.specs.Prelude.{Bool, true, false}
use Rattle.dns_scan.specs.declared.encoding.decode_error.DecodeError.{DecodeError}
use Rattle.dns_scan.specs.declared.encoding.decode_error.DecodeError.TheVariants.{IllegalChar, TrailingInput, ShortInput, ShortBuf}

abbrev pub is_want_of_room : DecodeError → Bool
is_want_of_room (IllegalChar c) = false
is_want_of_room TrailingInput = false
is_want_of_room ShortInput = false
is_want_of_room ShortBuf = true
