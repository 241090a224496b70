-- The data of a record that a row states has at most 65,535 octets.
use Rattle.std.proofs.Common.{◌≡◌, ◌<◌, ◌≤◌, ◌^◌, ◌&&◌, ℕ, Bool, true, false, List, [], ◌∷◌, Option, take, drop, Some, None, cond, nat_lt, length, refl, sym, ◌∙◌, arith}
use Rattle.std.specs.Char.{is_ascii_digit}
use Rattle.std.specs.List.{list_all}
use Rattle.std.specs.Str.Parse.{digits_value}
use Rattle.std.proofs.lemmas.Bool.Decides.{nat_tests}
use Rattle.std.specs.Prelude.{⊤, codes, find, if◌then◌else◌, option_map}
use Rattle.std.specs.Option.{option_or}
use Rattle.std.specs.Str.{str_eq_ignore_ascii_case}
use Rattle.dns_values.specs.Mnemonic.{Mnemonics, number_behind, number_named, number_read, number_spelled, type_read, types}
use Rattle.dns_values.proofs.Words.{number_spelled-digits, number_spelled-other}
use Rattle.dns_scan.specs.Token.{Token}
use Rattle.dns_text.specs.Rows.{TokenRow}
use Rattle.dns_rdata.specs.Data.{Data, ScansAnyData, number_of, typed, unknown_data}
use Rattle.dns_rdata.specs.DataOctets.{data_octets}
use Rattle.dns_zonefile.specs.Statement.{Directs, Says, Statement}
use Rattle.dns_zonefile.specs.Statement.Statement.{SetOrigin, SetTtl, NameFile, StateRecord}

-- the data of a record that is stated has at most 65,535 octets, and its type two (RFC 1035 3.2.1)
abbrev pub IsShort : Statement → Type 0
IsShort (SetOrigin name) = ⊤
IsShort (SetTtl seconds) = ⊤
IsShort (NameFile path origin) = ⊤
IsShort (StateRecord stated) = (length (data_octets stated.rdata) ≤ 65535) × (number_of stated.rdata < 65536)

within : (size value limit n : ℕ) → cond (nat_lt 0 size && nat_lt value limit) (Some value) None ≡ Some n → n < limit
within size value limit n spelled = grind (arith, nat_tests)

pub spelled_below : (limit : ℕ) (text : List ℕ) (n : ℕ) (digits : Bool) → list_all is_ascii_digit text ≡ digits
    → number_spelled limit text ≡ Some n → n < limit
spelled_below limit text n true digits spelled =
    within (length text) (digits_value 10 text) limit n (sym (number_spelled-digits limit text digits) ∙ spelled)
spelled_below limit text n false digits spelled =
    let bad : None ≡ Some n = sym (number_spelled-other limit text digits) ∙ spelled in absurd cc

scanned_short : (names : List ℕ → List (List ℕ) → Type 0) (rtype : ℕ) (tokens left : List Token) (rdata : Data)
    → ScansAnyData names rtype rdata tokens left → length (data_octets rdata) ≤ 65535
scanned_short names rtype tokens left (typed number row) scans = scans.2.short
scanned_short names rtype tokens left (unknown_data unknown) scans =
    let number = scans.3.number in
    let below = spelled_below (2 ^ 16) number.text (length unknown.octets) (list_all is_ascii_digit number.text) refl number.reads_as in
    omega (arith, below)

directs_short : {names : List ℕ → List (List ℕ) → Type 0} {tokens : List Token} {statement : Statement} → Directs names tokens statement
    → IsShort statement
directs_short (Directs.origin word is) = tt
directs_short (Directs.ttl word is number) = tt
directs_short (Directs.include word is path ascii) = tt
directs_short (Directs.include_at word is path ascii origin) = tt

either_below : (one other : Option ℕ) (n limit : ℕ) → (one ≡ Some n → n < limit) → (other ≡ Some n → n < limit)
    → option_or one other ≡ Some n → n < limit
either_below None other n limit first second is = second is
either_below (Some number) other n limit first second is = first is

behind_below : (prefix word : List ℕ) (n : ℕ) → number_behind prefix word ≡ Some n → n < 65536
unfolding number_behind
behind_below prefix word n is = by (str_eq_ignore_ascii_case prefix (take (length prefix) word)) is
  where
    by : (b : Bool) → (if b then number_spelled 65536 (drop (length prefix) word) else None) ≡ Some n → n < 65536
    by true is = let text = drop (length prefix) word in spelled_below 65536 text n (list_all is_ascii_digit text) refl is
    by false is = absurd cc

below_same : (m n limit : ℕ) → nat_lt m limit ≡ true → ◌≡◌ {A = Option ℕ} (Some m) (Some n) → n < limit
below_same m n limit below same = grind (arith, nat_tests)

named_below : (table : Mnemonics) (word : List ℕ) (n : ℕ) → list_all (λ row. nat_lt row.0 65536) table ≡ true
    → number_named table word ≡ Some n → n < 65536
unfolding number_named
named_below [] word n each is = absurd cc
named_below (row ∷ table) word n each is =
    by (str_eq_ignore_ascii_case row.1 word) (nat_lt row.0 65536) refl each (named_below table word n) is
  where
    by : (same below : Bool) → nat_lt row.0 65536 ≡ below → (below && list_all (λ row. nat_lt row.0 65536) table) ≡ true
        → (list_all (λ row. nat_lt row.0 65536) table ≡ true → option_map (λ row. row.0) (find (λ row. str_eq_ignore_ascii_case row.1 word) table) ≡ Some n → n < 65536)
        → option_map (λ row. row.0) (if same then Some row else find (λ row. str_eq_ignore_ascii_case row.1 word) table) ≡ Some n → n < 65536
    by same false is each others found = absurd cc
    by true true is each others found = below_same row.0 n 65536 is found
    by false true is each others found = others each found

type_below : (text : List ℕ) (n : ℕ) → type_read text ≡ Some n → n < 65536
unfolding number_read types
type_below text n is =
    either_below (number_behind (codes "TYPE") text) (number_named types text) n 65536
    (behind_below (codes "TYPE") text n) (named_below types text n refl) is

pub says_short : {names : List ℕ → List (List ℕ) → Type 0} {row : TokenRow} {statement : Statement} → Says names row statement
    → IsShort statement
says_short (Says.directive is directs) = directs_short directs
says_short {names} (Says.resource {stated = stated} is) = (
  scanned_short names (number_of stated.rdata) is.data_tokens [] stated.rdata is.scans,
  type_below is.head.type_is.0 (number_of stated.rdata) is.head.type_is.3,
)
