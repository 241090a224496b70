-- Data that is scanned is data of its type: its fields are lawful fields of their kinds.
use Rattle.std.proofs.Common.{◌≡◌, ◌<◌, ◌≤◌, ◌^◌, ◌+◌, ◌*◌, ◌-◌, ◌&&◌, ℕ, Bool, true, false, List, [], ◌∷◌, ◌++◌, Option, Some, None, cond, nat_lt, length, replicate, refl, sym, ap, ◌∙◌, subst, arith, inl, inr, length-append}
use Rattle.std.specs.List.{list_all, AllByRecursion}
use Rattle.std.specs.Char.{is_ascii_digit}
use Rattle.std.specs.Net.Addr.{octets_of}
use Rattle.std.specs.Net.Grammar.{IsColonHex}
use Rattle.std.specs.Str.Parse.{digits_value}
use Rattle.std.proofs.lemmas.Bool.Decides.{nat_tests}
use Rattle.std.proofs.lemmas.List.{length-replicate}
use Rattle.dns_values.specs.Mnemonic.{number_spelled}
use Rattle.dns_values.proofs.Words.{number_spelled-digits, number_spelled-other}
use Rattle.dns_label.specs.Name.{IsName}
use Rattle.dns_scan.specs.Token.{Token, SpellsString}
use Rattle.dns_rdata.specs.Fields.{Field, IsField, IsRow, IsString, number8, number16, number32, ipv4, ipv6, compressible, uncompressed, string, strings, tag, rest_text, rest16, rest64}
use Rattle.dns_fields.specs.Scanned.{AreStrings, ScansField, ScansRow, ScansData}

within : (size value limit n : ℕ) → cond (nat_lt 0 size && nat_lt value limit) (Some value) None ≡ Some n → n < limit
within size value limit n spelled = grind (arith, nat_tests)

by_digits : (limit : ℕ) (text : List ℕ) (n : ℕ) (digits : Bool) → list_all is_ascii_digit text ≡ digits
    → number_spelled limit text ≡ Some n → n < limit
by_digits limit text n true digits spelled =
    within (length text) (digits_value 10 text) limit n (sym (number_spelled-digits limit text digits) ∙ spelled)
by_digits limit text n false digits spelled =
    let bad : None ≡ Some n = sym (number_spelled-other limit text digits) ∙ spelled in absurd cc

-- a number that a text spells is below the limit
pub spelled_below : (limit : ℕ) (text : List ℕ) (n : ℕ) → number_spelled limit text ≡ Some n → n < limit
spelled_below limit text n spelled = by_digits limit text n (list_all is_ascii_digit text) refl spelled

-- the names that texts spell are names
abbrev pub AreNames : (List ℕ → List (List ℕ) → Type 0) → Type 0
AreNames names = (text : List ℕ) (name : List (List ℕ)) → names text name → IsName name

strings_short : (tokens : List Token) (each : List (List ℕ)) → AreStrings tokens each → AllByRecursion IsString each
strings_short [] [] are = tt
strings_short [] (octets ∷ each) are = absurd are
strings_short (token ∷ tokens) [] are = absurd are
strings_short (token ∷ tokens) (octets ∷ each) are = (are.0.short, strings_short tokens each are.1)

length-octets_of : (segments : List ℕ) → length (octets_of segments) ≡ 2 * length segments
length-octets_of [] = refl
length-octets_of (s ∷ segments) = omega (arith, length-octets_of segments)

eight : (text segments : List ℕ) → IsColonHex text segments → length segments ≡ 8
eight text segments (inl is) = is.1
eight text segments (inr is) =
    let gap = 8 - length is.head - length is.tail in
    ap length is.value ∙ length-append (is.head ++ replicate gap 0) is.tail
    ∙ ap (λ n. n + length is.tail)
    (length-append is.head (replicate gap 0) ∙ ap (λ n. length is.head + n) (length-replicate gap 0))
    ∙ omega (arith, is.room)

field_is : (names : List ℕ → List (List ℕ) → Type 0) → AreNames names → (field : Field) (tokens left : List Token)
    → ScansField names field tokens left → IsField field
field_is names are (number8 n) tokens left scans = spelled_below (2 ^ 8) scans.text n scans.reads_as
field_is names are (number16 n) tokens left scans = spelled_below (2 ^ 16) scans.text n scans.reads_as
field_is names are (number32 n) tokens left scans = spelled_below (2 ^ 32) scans.text n scans.reads_as
field_is names are (ipv4 octets) tokens left scans = ap length scans.2.value
field_is names are (ipv6 octets) tokens left scans =
    ap length scans.4 ∙ omega (arith, length-octets_of scans.1, eight scans.0 scans.1 scans.3)
field_is names are (compressible name) tokens left scans = are scans.0 name scans.2
field_is names are (uncompressed name) tokens left scans = are scans.0 name scans.2
field_is names are (string octets) tokens left scans = scans.fits.short
field_is names are (strings each) tokens left scans = (scans.0, strings_short tokens each scans.1)
field_is names are (tag octets) tokens left scans = scans.fits.short
field_is names are (rest_text octets) tokens left scans = tt
field_is names are (rest16 octets) tokens left scans = tt
field_is names are (rest64 octets) tokens left scans = tt

row_is : (names : List ℕ → List (List ℕ) → Type 0) → AreNames names → (row : List Field) (tokens left : List Token)
    → ScansRow names row tokens left → AllByRecursion IsField row
row_is names are [] tokens left scans = tt
row_is names are (field ∷ row) tokens left scans =
    (field_is names are field tokens scans.0 scans.1, row_is names are row scans.0 left scans.2)

-- data of a type that is scanned is a row of the type
pub scanned_is_row : {names : List ℕ → List (List ℕ) → Type 0} {rtype : ℕ} {row : List Field} {tokens left : List Token} → AreNames names
    → ScansData names rtype row tokens left → IsRow rtype row
scanned_is_row {names} {rtype} {row} {tokens} {left} are scans = record {
  kinds = scans.kinds;
  each = row_is names are row tokens left scans.scanned;
  short = omega (arith, scans.short);
}
