-- Numbers whose digits in base 16 read as octets: each reads as its low eight bits.
use Rattle.std.proofs.Common.{◌≡◌, ◌∙◌, ◌+◌, ◌*◌, ◌/◌, ◌%◌, ◌<◌, ◌^◌, ℕ, true, List, [], ◌∷◌, ◌++◌, map, length, decimal, refl, sym, ap, subst, arith, append-nil, append_assoc}
use Rattle.std.specs.Char.{digit_value}
use Rattle.std.specs.Fmt.{digit_glyph}
use Rattle.std.specs.List.{AllByRecursion, list_all}
use Rattle.std.specs.Str.{chars}
use Rattle.std.proofs.lemmas.Bool.Decides.{nat_tests}
use Rattle.std.proofs.lemmas.Str.{chars-IsAscii}
use Rattle.dns_label.specs.Octets.{AreOctets}
use Rattle.dns_label.specs.Symbol.{is_plain}
use Rattle.dns_name.specs.UnknownText.{hex_of, hex_words}
use Rattle.dns_scan.specs.Base.{Decodes, IsCharacter}
use Rattle.dns_scan.specs.Bits.{all_bits, bits}
use Rattle.dns_scan.specs.Token.{Token, IsWord, unquoted}
use Rattle.dns_scan.specs.Token.{IsEntry as AreJoined}
use Rattle.dns_scan.specs.UnknownData.{IsUnknownData}
use Rattle.dns_scan.specs.declared.encoding.base.Base.TheVariants.{Sixteen}
use Rattle.dns_scan.proofs.BitLists.{bits_join, bits_low}
use Rattle.dns_scan.proofs.Encodings.{Ascii, decodes_one, digit-character, is_ascii}
use Rattle.zone_general.proofs.KnownWords.{both_hold}

-- the low eight bits
abbrev pub low : ℕ → ℕ
low number = number % 256

abbrev pub all_low : List ℕ → List ℕ
all_low numbers = map low numbers

-- the high digit of the number reads as a digit
abbrev pub IsHexed : ℕ → Type 0
IsHexed number = digit_value (digit_glyph true (number / 16)) < 16

abbrev pub AreHexed : List ℕ → Type 0
AreHexed numbers = AllByRecursion IsHexed numbers

pub low_octets : (numbers : List ℕ) → AreOctets (all_low numbers)
low_octets [] = tt
low_octets (number ∷ numbers) = (omega arith, low_octets numbers)

pub low_again : (numbers : List ℕ) → all_low (all_low numbers) ≡ all_low numbers
low_again [] = refl
low_again (number ∷ numbers) =
    let first : low (low number) ≡ low number = omega arith in
    let behind = low_again numbers in λ i. first i ∷ behind i

pub low_bits : (numbers : List ℕ) → all_bits 8 (all_low numbers) ≡ all_bits 8 numbers
low_bits [] = refl
low_bits (number ∷ numbers) =
    let whole : number / 256 * 2 ^ 8 + low number ≡ number = omega arith in
    let first : bits 8 (low number) ≡ bits 8 number = sym (bits_low 8 (number / 256) (low number)) ∙ ap (bits 8) whole in
    let behind = low_bits numbers in λ i. first i ++ behind i

-- such a number is not zero if its low bits are
pub hexed_zero : (number : ℕ) → IsHexed number → low number ≡ 0 → number ≡ 0
hexed_zero number is zero = grind (arith, nat_tests)

digits_low : (number : ℕ) → IsHexed number → digit_value (digit_glyph true (number / 16)) * 2 ^ 4 + number % 16 ≡ low number
digits_low number is = grind (arith, nat_tests)

-- the digits' bits are those of the octets
digits_bits : (numbers : List ℕ) → AreHexed numbers → all_bits 4 (map digit_value (hex_of numbers)) ≡ all_bits 8 (all_low numbers)
digits_bits [] are = refl
digits_bits (number ∷ numbers) are =
    let high = digit_value (digit_glyph true (number / 16)) in
    let second : digit_value (digit_glyph true (number % 16)) ≡ number % 16 = digit-character Sixteen (number % 16) (omega arith) in
    let both : bits 4 high ++ bits 4 (digit_value (digit_glyph true (number % 16))) ≡ bits 8 (low number) =
    ap (λ (n : ℕ). bits 4 high ++ bits 4 n) second ∙ sym (bits_join 4 4 high (number % 16) (omega arith)) ∙ ap (bits 8) (digits_low number are.0) in
    let behind = digits_bits numbers are.1 in
    sym (append_assoc (bits 4 high) (bits 4 (digit_value (digit_glyph true (number % 16)))) (all_bits 4 (map digit_value (hex_of numbers))))
    ∙ (λ i. both i ++ behind i)

hexed_of : (numbers : List ℕ) → AllByRecursion (IsCharacter Sixteen) (hex_of numbers) → AreHexed numbers
hexed_of [] each = tt
hexed_of (number ∷ numbers) each = (each.0, hexed_of numbers each.1.1)

hexed_back : (numbers : List ℕ) → AreHexed numbers → AllByRecursion (IsCharacter Sixteen) (hex_of numbers) → Decodes Sixteen (hex_of numbers) (all_low numbers)
hexed_back numbers are each = record {
  characters = hex_of numbers;
  text_of = refl;
  groups = record {
    each = each;
    are_octets = low_octets numbers;
    rest = [];
    cut = digits_bits numbers are ∙ sym (append-nil (all_bits 8 (all_low numbers)));
    little = omega arith;
  };
}

-- the text of the words
plain_small : (octet : ℕ) → is_plain octet ≡ true → octet < 128
plain_small octet is = grind (arith, nat_tests)

plain_ascii : (text : List ℕ) → list_all is_plain text ≡ true → AllByRecursion Ascii text
plain_ascii [] each = tt
plain_ascii (octet ∷ text) each =
    let both = both_hold (is_plain octet) (list_all is_plain text) each in (plain_small octet both.0, plain_ascii text both.1)

record IsHex (numbers text : List ℕ) : Type 0 where
  is : text ≡ hex_of numbers
  plain : list_all is_plain text ≡ true

hex_text : (numbers text : List ℕ) → AreJoined IsWord (map unquoted (hex_words numbers)) text → IsHex numbers text
hex_text [] text joined = record { is = joined; plain = ap (list_all is_plain) joined }
hex_text (number ∷ numbers) text joined =
    let piece : joined.0 ≡ hex_of (number ∷ numbers) = ap (λ (t : Token). t.text) (sym joined.2.0) in
    let whole : text ≡ joined.0 = joined.4 ∙ ap (λ (l : List ℕ). joined.0 ++ l) joined.3 ∙ append-nil joined.0 in
    record { is = whole ∙ piece; plain = ap (list_all is_plain) whole ∙ joined.2.1 }

-- Numbers that are written as unknown data, which reads as octets: these are their low bits.
pub record ReadsHexed (numbers octets : List ℕ) : Type 0 where
  pub hexed : AreHexed numbers
  pub same : octets ≡ all_low numbers

pub reads_hexed : (numbers octets : List ℕ) → IsUnknownData (unquoted (decimal (length numbers)) ∷ map unquoted (hex_words numbers)) octets
    → ReadsHexed numbers octets
reads_hexed numbers octets is =
    let words : map unquoted (hex_words numbers) ≡ is.words = (let takes = is.number.takes.is in cc) in
    let hex = hex_text numbers is.text (subst (λ (l : List Token). AreJoined IsWord l is.text) (sym words) is.joined) in
    let text : chars is.text ≡ hex_of numbers = chars-IsAscii is.text (is_ascii is.text (plain_ascii is.text hex.plain)) ∙ hex.is in
    let decodes : Decodes Sixteen (hex_of numbers) octets = subst (λ (l : List ℕ). Decodes Sixteen l octets) text is.decodes in
    let each : AllByRecursion (IsCharacter Sixteen) (hex_of numbers) =
    subst (AllByRecursion (IsCharacter Sixteen)) (sym decodes.text_of) decodes.groups.each in
    let are = hexed_of numbers each in
    record { hexed = are; same = decodes_one Sixteen (hex_of numbers) (all_low numbers) octets (hexed_back numbers are each) decodes }
