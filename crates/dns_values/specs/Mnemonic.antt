-- Words for numbers: a mnemonic of a table up to ASCII case, or a prefix and the number (RFC 3597, section 5).
use Rattle.std.specs.Prelude.{ℕ, List, [], ◌∷◌, ◌++◌, ◌==◌, ◌&&◌, Option, Some, None, length, take, drop, find, codes, nat_lt, if◌then◌else◌, option_map, map, unwrap_or}
use Rattle.std.specs.Borrow.{Bor}
use Rattle.std.specs.Fmt.{decimal}
use Rattle.std.specs.Option.{option_or}
use Rattle.std.specs.Str.{str_eq_ignore_ascii_case}
use Rattle.std.specs.Char.{is_ascii_digit}
use Rattle.std.specs.List.{list_all}
use Rattle.std.specs.Str.Parse.{digits_value}

-- numbers, each with its mnemonic
abbrev pub Mnemonics : Type 0
Mnemonics = List (ℕ × List ℕ)

-- the rows of a table in the code
abbrev pub rows_of : List (ℕ × Bor (List ℕ)) → Mnemonics
rows_of table = map (λ row. (row.0, row.1.now)) table

-- the record types
unfoldable pub types : Mnemonics
types =
    (1, codes "A") ∷ (2, codes "NS") ∷ (3, codes "MD") ∷ (4, codes "MF") ∷ (5, codes "CNAME") ∷ (6, codes "SOA") ∷
    (7, codes "MB") ∷ (8, codes "MG") ∷ (9, codes "MR") ∷ (10, codes "NULL") ∷ (11, codes "WKS") ∷ (12, codes "PTR") ∷
    (13, codes "HINFO") ∷ (14, codes "MINFO") ∷ (15, codes "MX") ∷ (16, codes "TXT") ∷ (17, codes "RP") ∷ (18, codes "AFSDB") ∷
    (28, codes "AAAA") ∷ (29, codes "LOC") ∷ (33, codes "SRV") ∷ (35, codes "NAPTR") ∷ (36, codes "KX") ∷ (39, codes "DNAME") ∷
    (41, codes "OPT") ∷ (43, codes "DS") ∷ (44, codes "SSHFP") ∷ (46, codes "RRSIG") ∷ (47, codes "NSEC") ∷ (48, codes "DNSKEY") ∷
    (50, codes "NSEC3") ∷ (51, codes "NSEC3PARAM") ∷ (52, codes "TLSA") ∷ (59, codes "CDS") ∷ (60, codes "CDNSKEY") ∷ (63, codes "ZONEMD") ∷
    (64, codes "SVCB") ∷ (65, codes "HTTPS") ∷ (99, codes "SPF") ∷ (250, codes "TSIG") ∷ (251, codes "IXFR") ∷ (252, codes "AXFR") ∷
    (257, codes "CAA") ∷ []

-- the classes
unfoldable pub classes : Mnemonics
classes = (1, codes "IN") ∷ (3, codes "CH") ∷ (4, codes "HS") ∷ []

-- the number whose mnemonic is the word, up to ASCII case
unfoldable pub number_named : Mnemonics → List ℕ → Option ℕ
number_named table word = option_map (λ row. row.0) (find (λ row. str_eq_ignore_ascii_case row.1 word) table)

-- the number below the limit that these digits spell: there is no sign, and leading zeros are allowed
unfoldable pub number_spelled : ℕ → List ℕ → Option ℕ
number_spelled limit digits =
    if list_all is_ascii_digit digits && nat_lt 0 (length digits) && nat_lt (digits_value 10 digits) limit
    then Some (digits_value 10 digits)
    else None

-- the number of 16 bits after the prefix, which is compared up to ASCII case
unfoldable pub number_behind : List ℕ → List ℕ → Option ℕ
number_behind prefix word =
    if str_eq_ignore_ascii_case prefix (take (length prefix) word) then number_spelled 65536 (drop (length prefix) word) else None

-- the number that a word stands for
unfoldable pub number_read : Mnemonics → List ℕ → List ℕ → Option ℕ
number_read table prefix word = option_or (number_behind prefix word) (number_named table word)

-- the mnemonic of a number
unfoldable pub text_of : Mnemonics → ℕ → Option (List ℕ)
text_of table number = option_map (λ row. row.1) (find (λ row. row.0 == number) table)

-- how a number is written: as its mnemonic, or else as the prefix and its digits
unfoldable pub text_written : Mnemonics → List ℕ → ℕ → List ℕ
text_written table prefix number = unwrap_or (text_of table number) (prefix ++ decimal number)

-- the type that a word stands for, and how a type is written
abbrev pub type_read : List ℕ → Option ℕ
type_read word = number_read types (codes "TYPE") word

abbrev pub type_written : ℕ → List ℕ
type_written number = text_written types (codes "TYPE") number

-- the class that a word stands for, and how a class is written
abbrev pub class_read : List ℕ → Option ℕ
class_read word = number_read classes (codes "CLASS") word

abbrev pub class_written : ℕ → List ℕ
class_written number = text_written classes (codes "CLASS") number
