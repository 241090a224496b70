-- The definitions tried on the standards' own examples.
use Rattle.std.specs.Prelude.{◌≡◌, [], ◌∷◌, ◌++◌, codes, decimal, Some, None, refl}
use Rattle.dns_scan.specs.Bits.{bits}
use Rattle.dns_scan.specs.Encodings.{encoded_64}
use Rattle.dns_values.specs.Mnemonic.{types, number_read, number_named, number_behind, number_spelled, text_of, text_written}
use Rattle.dns_field_texts.specs.TypeWords.{more_types, type_word_read, type_word_written}
use Rattle.dns_field_texts.specs.NumberedWords.{algorithms, algorithm_read, certificate_types, certificate_type_read}
use Rattle.dns_field_texts.specs.Time.{days_of_years, days_of_months, day_number, seconds_before, epoch, time_of, moment_of, moment_read, time_read, greatest, year_after, month_after, moment_after, date_written, clock_written, moment_written, time_written}
use Rattle.dns_field_texts.specs.Hardware.{hardware_written}
use Rattle.dns_field_texts.specs.HashWords.{salt_written, hash_written}
use Rattle.dns_field_texts.specs.TypeBitmap.{windows_up_to, types_in}

-- mnemonics of both tables and a number
pub uri : type_word_read (codes "uri") ≡ Some 256
unfolding type_word_read more_types types number_read number_named number_behind number_spelled
uri = refl

pub mx : type_word_read (codes "MX") ≡ Some 15
unfolding type_word_read more_types types number_read number_named number_behind number_spelled
mx = refl

pub numbered : type_word_read (codes "TYPE1234") ≡ Some 1234
unfolding type_word_read more_types types number_read number_named number_behind number_spelled
numbered = refl

pub csync : type_word_written 62 ≡ codes "CSYNC"
unfolding type_word_written more_types types text_of text_written
csync = refl

pub unnamed : type_word_written 1234 ≡ codes "TYPE" ++ decimal 1234
unfolding type_word_written more_types types text_of text_written
unnamed = refl

-- algorithms and types of certificates, by mnemonics in any case and by numbers
pub sha256 : algorithm_read (codes "RsaSha256") ≡ Some 8
unfolding algorithm_read algorithms number_named number_spelled
sha256 = refl

pub curve : algorithm_read (codes "15") ≡ Some 15
unfolding algorithm_read algorithms number_named number_spelled
curve = refl

pub unknown : algorithm_read (codes "256") ≡ None
unfolding algorithm_read algorithms number_named number_spelled
unknown = refl

pub pgp : certificate_type_read (codes "PGP") ≡ Some 3
unfolding certificate_type_read certificate_types number_named number_spelled
pgp = refl

pub private : certificate_type_read (codes "65280") ≡ Some 65280
unfolding certificate_type_read certificate_types number_named number_spelled
private = refl

-- the times of RFC 4034, section 3.3, and of RFC 5702, section 6.1
pub expiration : time_read (codes "20030322173103") ≡ Some 1048354263
unfolding time_read moment_read moment_of time_of seconds_before epoch day_number days_of_years days_of_months
expiration = refl

pub number : time_read (codes "1048354263") ≡ Some 1048354263
unfolding time_read number_spelled
number = refl

pub written : time_written 1048354263 ≡ codes "20030322173103"
unfolding time_written moment_written date_written clock_written moment_after epoch day_number year_after month_after greatest days_of_years days_of_months
written = refl

-- the last second that a time has, and the first one after it
pub last : time_written 4294967295 ≡ codes "21060207062815"
unfolding time_written moment_written date_written clock_written moment_after epoch day_number year_after month_after greatest days_of_years days_of_months
last = refl

pub wrapped : time_read (codes "21060207062816") ≡ Some 0
unfolding time_read moment_read moment_of time_of seconds_before epoch day_number days_of_years days_of_months
wrapped = refl

pub no_leap_year : time_read (codes "21000229000000") ≡ None
unfolding time_read moment_read moment_of time_of seconds_before epoch day_number days_of_years days_of_months
no_leap_year = refl

-- the last second before 1970, and the beginnings of 1901 and of the first year: -1, -2177452800 and -62135596800 modulo 2^32
pub before : time_read (codes "19691231235959") ≡ Some 4294967295
unfolding time_read moment_read moment_of time_of seconds_before epoch day_number days_of_years days_of_months
before = refl

pub early : time_read (codes "19010101000000") ≡ Some 2117514496
unfolding time_read moment_read moment_of time_of seconds_before epoch day_number days_of_years days_of_months
early = refl

pub first : time_read (codes "00010101000000") ≡ Some 2288912640
unfolding time_read moment_read moment_of time_of seconds_before epoch day_number days_of_years days_of_months
first = refl

-- 1900 has no 29 February, and there is no year 0
pub february : time_read (codes "19000228235959") ≡ Some 2091076095
unfolding time_read moment_read moment_of time_of seconds_before epoch day_number days_of_years days_of_months
february = refl

pub march : time_read (codes "19000301000000") ≡ Some 2091076096
unfolding time_read moment_read moment_of time_of seconds_before epoch day_number days_of_years days_of_months
march = refl

pub not_in_1900 : time_read (codes "19000229000000") ≡ None
unfolding time_read moment_read moment_of time_of seconds_before epoch day_number days_of_years days_of_months
not_in_1900 = refl

pub no_year : time_read (codes "00000101000000") ≡ None
unfolding time_read moment_read moment_of time_of seconds_before epoch day_number days_of_years days_of_months
no_year = refl

-- the addresses of RFC 7043, sections 3.3 and 4.3
pub eui48 : hardware_written (0 ∷ 0 ∷ 94 ∷ 0 ∷ 83 ∷ 42 ∷ []) ≡ codes "00-00-5e-00-53-2a"
eui48 = refl

pub eui64 : hardware_written (0 ∷ 0 ∷ 94 ∷ 239 ∷ 16 ∷ 0 ∷ 0 ∷ 42 ∷ []) ≡ codes "00-00-5e-ef-10-00-00-2a"
eui64 = refl

-- the salt and a hash of RFC 5155, appendix A
pub salt : salt_written (170 ∷ 187 ∷ 204 ∷ 221 ∷ []) ≡ codes "AABBCCDD"
unfolding bits
salt = refl

pub hash : hash_written (6 ∷ 83 ∷ 104 ∷ 230 ∷ 58 ∷ []) ≡ codes "0P9MHPHQ"
unfolding bits
hash = refl

-- the texts of RFC 4648, section 10, with two pads, with one and with none
pub two_pads : encoded_64 (codes "foob") ≡ codes "Zm9vYg=="
unfolding bits
two_pads = refl

pub one_pad : encoded_64 (codes "fooba") ≡ codes "Zm9vYmE="
unfolding bits
one_pad = refl

pub no_pad : encoded_64 (codes "foobar") ≡ codes "Zm9vYmFy"
unfolding bits
no_pad = refl

-- the bitmap of RFC 4034, section 4.3: A, MX, RRSIG, NSEC and TYPE1234
pub bitmap : types_in (0 ∷ 6 ∷ 64 ∷ 1 ∷ 0 ∷ 0 ∷ 0 ∷ 3 ∷ 4 ∷ 27 ∷ 0 ∷ 0 ∷ 0 ∷ 0 ∷ 0 ∷ 0 ∷ 0 ∷ 0 ∷ 0 ∷ 0 ∷ 0 ∷ 0
    ∷ 0 ∷ 0 ∷ 0 ∷ 0 ∷ 0 ∷ 0 ∷ 0 ∷ 0 ∷ 0 ∷ 0 ∷ 0 ∷ 0 ∷ 0 ∷ 0 ∷ 32 ∷ []) ≡ 1 ∷ 15 ∷ 46 ∷ 47 ∷ 1234 ∷ []
unfolding types_in windows_up_to bits
bitmap = refl
