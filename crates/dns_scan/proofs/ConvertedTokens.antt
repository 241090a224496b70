-- What a token's symbols are converted to is what its text is decoded to.
use Rattle.std.proofs.Common.{◌≡◌, ◌≢◌, ℕ, ◌<◌, List, [], ◌∷◌, map, replicate, refl, sym, ◌∙◌, ap, subst, arith}
use Rattle.std.proofs.lemmas.Bool.Decides.{nat_tests}
use Rattle.std.specs.List.{AllByRecursion, flat_map}
use Rattle.std.specs.Char.{digit_value}
use Rattle.std.specs.Str.{chars, IsUtf8}
use Rattle.std.proofs.lemmas.Str.{chars-IsAscii, encodes-chars, encodes-IsAscii}
use Rattle.dns_label.specs.declared.symbol.Symbol.TheVariants.{Char}
use Rattle.dns_label.specs.Symbol.{IsSymbol, IsPrintable, spelled}
use Rattle.dns_scan.specs.declared.encoding.base.Base.{Base}
use Rattle.dns_scan.specs.declared.encoding.base.Base.TheVariants.{Sixteen, ThirtyTwoHex, SixtyFour}
use Rattle.dns_scan.specs.Base.{IsCharacter, IsTextOf, Decodes, DecodesOnly, digit_64}
use Rattle.dns_scan.specs.Converted.{IsConverted, Deciphers}
use Rattle.dns_scan.specs.Token.{Token}
use Rattle.dns_scan.proofs.Decoded.{each_append, each_weaker, replicated}
use Rattle.dns_scan.proofs.Encodings.{Ascii, is_ascii, decodes_one}

-- a character that is a symbol by itself
abbrev pub IsPlain : ℕ → Type 0
IsPlain c = IsPrintable c × (c ≢ 92)

-- the characters of the alphabets are symbols by themselves
hex_printable : (c : ℕ) → digit_value c < 32 → IsPrintable c
hex_printable c is = (grind (arith, nat_tests), grind (arith, nat_tests))

printable_64 : (c : ℕ) → digit_64 c < 64 → IsPrintable c
printable_64 c is = (grind (arith, nat_tests), grind (arith, nat_tests))

no_backslash_hex : (c : ℕ) → digit_value c < 32 → c ≢ 92
no_backslash_hex c is same = let bad : digit_value 92 < 32 = subst (λ n. digit_value n < 32) same is in omega (arith, bad)

no_backslash_64 : (c : ℕ) → digit_64 c < 64 → c ≢ 92
no_backslash_64 c is same = let bad : digit_64 92 < 64 = subst (λ n. digit_64 n < 64) same is in omega (arith, bad)

plain_character : (base : Base) (c : ℕ) → IsCharacter base c → IsPlain c
plain_character Sixteen c is = (hex_printable c (omega (arith, is)), no_backslash_hex c (omega (arith, is)))
plain_character ThirtyTwoHex c is = (hex_printable c is, no_backslash_hex c is)
plain_character SixtyFour c is = (printable_64 c is, no_backslash_64 c is)

plain_text : (base : Base) (text characters : List ℕ) → IsTextOf base text characters → AllByRecursion (IsCharacter base) characters
    → AllByRecursion IsPlain text
plain_text Sixteen text characters is each =
    subst (λ l. AllByRecursion IsPlain l) (sym is) (each_weaker (IsCharacter Sixteen) IsPlain characters (plain_character Sixteen) each)
plain_text ThirtyTwoHex text characters is each =
    subst (λ l. AllByRecursion IsPlain l) (sym is) (each_weaker (IsCharacter ThirtyTwoHex) IsPlain characters (plain_character ThirtyTwoHex) each)
plain_text SixtyFour text characters is each =
    subst (λ l. AllByRecursion IsPlain l) (sym is.written)
    (each_append IsPlain characters (replicate is.pads 61) (each_weaker (IsCharacter SixtyFour) IsPlain characters (plain_character SixtyFour) each)
    (replicated IsPlain is.pads 61 ((omega arith, omega arith), λ same. omega (arith, same))))

-- symbols that are plain characters, and how they are written
pub are_symbols : (text : List ℕ) → AllByRecursion IsPlain text → AllByRecursion IsSymbol (map Char text)
are_symbols [] each = tt
are_symbols (c ∷ text) each = (each.0, are_symbols text each.1)

are_plain : (text : List ℕ) → AllByRecursion IsSymbol (map Char text) → AllByRecursion IsPlain text
are_plain [] each = tt
are_plain (c ∷ text) each = (each.0, are_plain text each.1)

pub spelled_plain : (text : List ℕ) → flat_map spelled (map Char text) ≡ text
spelled_plain [] = refl
spelled_plain (c ∷ text) = ap (λ l. c ∷ l) (spelled_plain text)

plain_ascii : (c : ℕ) → IsPlain c → Ascii c
plain_ascii c is = let top = is.0.1 in omega arith

pub converted_decodes : (base : Base) (token : Token) (octets : List ℕ) → IsConverted (Deciphers base) octets token
    → DecodesOnly base (chars token.text) octets
converted_decodes base token octets is =
    let text = is.converted.text in
    let plain : AllByRecursion IsPlain text = are_plain text (subst (λ l. AllByRecursion IsSymbol l) is.converted.plain is.has.each) in
    let written : token.text ≡ text = is.has.written ∙ ap (flat_map spelled) is.converted.plain ∙ spelled_plain text in
    let same : chars token.text ≡ text = ap chars written ∙ chars-IsAscii text (is_ascii text (each_weaker IsPlain Ascii text plain_ascii plain)) in
    let decodes : Decodes base (chars token.text) octets = subst (λ l. Decodes base l octets) (sym same) is.converted.decodes in
    record { decodes = decodes; only = λ others also. decodes_one base _ octets others decodes also }

-- a text of octets is its characters, all plain
pub text_is_plain : (base : Base) (text octets : List ℕ) → IsUtf8 text → Decodes base (chars text) octets
    → (text ≡ chars text) × AllByRecursion IsPlain text
text_is_plain base text octets utf8 decodes =
    let plain : AllByRecursion IsPlain (chars text) = plain_text base (chars text) decodes.characters decodes.text_of decodes.groups.each in
    let same : text ≡ chars text =
    sym (encodes-chars text utf8) ∙ encodes-IsAscii (chars text) (is_ascii (chars text) (each_weaker IsPlain Ascii (chars text) plain_ascii plain)) in
    (same, subst (λ l. AllByRecursion IsPlain l) (sym same) plain)

pub decoded_converts : (base : Base) (token : Token) (octets : List ℕ) → IsUtf8 token.text → Decodes base (chars token.text) octets
    → IsConverted (Deciphers base) octets token
decoded_converts base token octets utf8 decodes =
    let plain = text_is_plain base token.text octets utf8 decodes in record {
      symbols = map Char token.text;
      has = record { each = are_symbols token.text plain.1; written = sym (spelled_plain token.text) };
      converted = record { text = token.text; plain = refl; decodes = subst (λ l. Decodes base l octets) (sym plain.0) decodes };
    }
