-- What the texts of fields are made of, and which tokens they are.
use Rattle.std.proofs.Common.{◌≡◌, ◌≢◌, ◌+◌, ◌-◌, ◌<◌, ◌^◌, ◌&&◌, cond, nat_lt, ℕ, zero, suc, true, false, List, [], ◌∷◌, ◌++◌, length, get_or, decimal, All, Some, None, inl, inr, refl, sym, ◌∙◌, ap, subst, arith, length-append}
use Rattle.std.specs.List.{AllByRecursion, list_all, flat_map}
use Rattle.std.specs.Char.{digit_value}
use Rattle.std.specs.Net.Addr.{segments_of}
use Rattle.std.proofs.lemmas.Bool.Decides.{nat_tests}
use Rattle.std.proofs.lemmas.Str.Parse.{digit_from_value}
use Rattle.std.proofs.lemmas.Fmt.{decimal_is_IsNumeral, digits_decimal, digits_value-decimal, decimal_nonempty}
use Rattle.std.specs.Str.Parse.{AllDigits}
use Rattle.std.proofs.NetLemmas.Alphabet.{IsDigitOrDot, IsHexOrColon}
use Rattle.dns_label.specs.Symbol.{IsPrintable, spelled, is_plain}
use Rattle.dns_label.specs.declared.symbol.Symbol.{Symbol}
use Rattle.dns_name.specs.Mnemonic.{number_spelled}
use Rattle.dns_name.proofs.Words.{digits_model, number_spelled-digits}
use Rattle.dns_label.specs.Octets.{IsOctet}
use Rattle.dns_scan.specs.Token.{Token, IsWord, unquoted}
use Rattle.dns_scan.specs.declared.encoding.base.Base.{Base}
use Rattle.dns_scan.specs.declared.encoding.base.Base.TheVariants.{Sixteen, ThirtyTwoHex, SixtyFour}
use Rattle.dns_scan.specs.Base.{IsCharacter, IsTextOf, Decodes, digit_64}
use Rattle.dns_scan.proofs.Decoded.{each_append, each_weaker, replicated}
use Rattle.dns_text.specs.Tokens.{IsIn, stands_plain}
use Rattle.dns_text.specs.DocumentRows.{WritesToken, quoted as between, unquoted as bare}
use Rattle.dns_text.proofs.TokenSymbols.{symbol_first}

-- a character that is plain in a word
abbrev pub IsSafe : ℕ → Type 0
IsSafe c = IsPrintable c × (c ≢ 92) × (stands_plain false c ≡ true)

-- the text doesn't begin with a quote
abbrev pub NoQuote : List ℕ → Type 0
NoQuote text = (rest : List ℕ) → text ≡ 34 ∷ rest → ⊥

above : (c : ℕ) → 41 < c → (c ≡ 59 → ⊥) → stands_plain false c ≡ true
above c high other = grind (arith, nat_tests)

plain_by : (c : ℕ) → IsSafe c → is_plain c ≡ true
plain_by c is =
    let low = is.0.0 in
    let high = is.0.1 in
    let other = is.1 in
    grind (arith, nat_tests)

pub safe_plain : (text : List ℕ) → AllByRecursion IsSafe text → list_all is_plain text ≡ true
safe_plain [] each = refl
safe_plain (c ∷ text) each = rw (plain_by c each.0, safe_plain text each.1) refl

pub safe_no_quote : (text : List ℕ) → AllByRecursion IsSafe text → NoQuote text
safe_no_quote [] each rest is = cc
safe_no_quote (c ∷ text) each rest is = let e : c ≡ 34 = cc in let bad : stands_plain false 34 ≡ true = subst (λ n. stands_plain false n ≡ true) e each.0.2 in cc

-- a text that doesn't begin with a quote is an unquoted token
pub bare_token : {token : Token} {text : List ℕ} → WritesToken token text → NoQuote text → token ≡ unquoted text
bare_token (between {text = text} are) none = absurd (none (text ++ 34 ∷ []) refl)
bare_token (bare are some) none = refl

pub word_token : {token : Token} {text : List ℕ} → WritesToken token text → AllByRecursion IsSafe text → IsWord text token
word_token {text = text} writes each = (bare_token writes (safe_no_quote text each), safe_plain text each)

-- one that does is a quoted one, of what is between its quotes
same_behind : (a b : List ℕ) (x : ℕ) → a ++ x ∷ [] ≡ b ++ x ∷ [] → a ≡ b
same_behind [] [] x same = refl
same_behind [] (n ∷ b) x same =
    let e : b ++ x ∷ [] ≡ [] = cc in absurd (omega (arith, ap (length {A = ℕ}) e, length-append b (x ∷ [])))
same_behind (m ∷ a) [] x same =
    let e : a ++ x ∷ [] ≡ [] = cc in absurd (omega (arith, ap (length {A = ℕ}) e, length-append a (x ∷ [])))
same_behind (m ∷ a) (n ∷ b) x same =
    let e : m ≡ n = cc in
    let f : a ++ x ∷ [] ≡ b ++ x ∷ [] = cc in
    let others = same_behind a b x f in
    λ i. e i ∷ others i

no_quote_in : (symbols : List Symbol) (rest : List ℕ) → AllByRecursion (IsIn false) symbols → flat_map spelled symbols ≡ 34 ∷ rest → ⊥
no_quote_in [] rest each is = cc
no_quote_in (symbol ∷ symbols) rest each is =
    let first = symbol_first false symbol 34 rest (flat_map spelled symbols) each.0 (sym is) in
    let no : false ≡ true = first.1 in cc

pub quoted_token : {token : Token} {text : List ℕ} (within : List ℕ) → WritesToken token text → text ≡ 34 ∷ within ++ 34 ∷ []
    → token.text ≡ within
quoted_token within (between {text = text} are) is =
    let same : text ++ 34 ∷ [] ≡ within ++ 34 ∷ [] = cc in same_behind text within 34 same
quoted_token within (bare {text = text} are some) is =
    absurd (no_quote_in are.symbols (within ++ 34 ∷ []) are.each (sym are.written ∙ is))

-- numbers
safe_digits : (ds : List ℕ) → AllDigits 10 ds → AllByRecursion IsSafe ds
safe_digits [] each = tt
safe_digits (c ∷ ds) each =
    let range = digit_from_value c each.0 in
    (((omega (arith, range), omega (arith, range)), (λ same. omega (arith, range, same)), above c (omega (arith, range)) (λ same. omega (arith, range, same))), safe_digits ds each.1)

pub safe_decimal : (n : ℕ) → n < 2 ^ 64 → AllByRecursion IsSafe (decimal n)
safe_decimal n small = safe_digits (decimal n) (decimal_is_IsNumeral n small).0.1

both_hold : (limit len number : ℕ) → 0 < len → number < limit
    → cond (nat_lt 0 len && nat_lt number limit) (Some number) None ≡ Some number
both_hold limit len number some small = grind (arith, nat_tests)

pub number_back : (limit n : ℕ) → n < limit → n < 2 ^ 64 → number_spelled limit (decimal n) ≡ Some n
number_back limit n small wide =
    rw (number_spelled-digits limit _ (digits_decimal digits_model n wide), digits_value-decimal digits_model n wide)
    (both_hold limit (length (decimal n)) n (decimal_nonempty n wide) small)

-- addresses
all_each : (P : ℕ → Type 0) (xs : List ℕ) → All P xs → AllByRecursion P xs
all_each P [] all = tt
all_each P (x ∷ xs) all = (all 0 x (omega arith), all_each P xs (λ k d within. all (suc k) d (omega arith)))

dot_safe : (c : ℕ) → IsDigitOrDot c → IsSafe c
dot_safe c (inl range) = ((omega (arith, range), omega (arith, range)), (λ same. omega (arith, range, same)), above c (omega (arith, range)) (λ same. omega (arith, range, same)))
dot_safe c (inr is) = ((omega (arith, is), omega (arith, is)), (λ same. omega (arith, is, same)), above c (omega (arith, is)) (λ same. omega (arith, is, same)))

colon_safe : (c : ℕ) → IsHexOrColon c → IsSafe c
colon_safe c (inl range) = ((omega (arith, range), omega (arith, range)), (λ same. omega (arith, range, same)), above c (omega (arith, range)) (λ same. omega (arith, range, same)))
colon_safe c (inr range) = ((omega (arith, range), omega (arith, range)), (λ same. omega (arith, range, same)), above c (omega (arith, range)) (λ same. omega (arith, range, same)))

pub safe_dotted : (text : List ℕ) → All IsDigitOrDot text → AllByRecursion IsSafe text
safe_dotted text all = each_weaker IsDigitOrDot IsSafe text dot_safe (all_each IsDigitOrDot text all)

pub safe_colons : (text : List ℕ) → All IsHexOrColon text → AllByRecursion IsSafe text
safe_colons text all = each_weaker IsHexOrColon IsSafe text colon_safe (all_each IsHexOrColon text all)

-- numbers below a bound, by their places
pub each_get : (bound : ℕ) (xs : List ℕ) → 0 < bound → AllByRecursion (λ n. n < bound) xs → (k : ℕ) → get_or xs k 0 < bound
each_get bound [] some each k = some
each_get bound (x ∷ xs) some each zero = each.0
each_get bound (x ∷ xs) some each (suc k) = each_get bound xs some each.1 k

pub segments_small : (octets : List ℕ) (pairs : ℕ) → length octets ≡ pairs + pairs → AllByRecursion IsOctet octets
    → AllByRecursion (λ s. s < 2 ^ 16) (segments_of octets) × (length (segments_of octets) ≡ pairs)
segments_small [] pairs even each = (tt, omega (arith, even))
segments_small (a ∷ []) pairs even each = absurd (omega (arith, even))
segments_small (a ∷ b ∷ octets) pairs even each =
    let high = each.0 in
    let low = each.1.0 in
    let others = segments_small octets (pairs - 1) (omega (arith, even)) each.1.1 in
    ((omega (arith, high, low), others.0), omega (arith, even, others.1))

-- base 16 and base 64
hex_printable : (c : ℕ) → digit_value c < 32 → IsPrintable c
hex_printable c is = (grind (arith, nat_tests), grind (arith, nat_tests))

printable_64 : (c : ℕ) → digit_64 c < 64 → IsPrintable c
printable_64 c is = (grind (arith, nat_tests), grind (arith, nat_tests))

hex_above : (c : ℕ) → digit_value c < 32 → 41 < c
hex_above c is = grind (arith, nat_tests)

above_64 : (c : ℕ) → digit_64 c < 64 → 41 < c
above_64 c is = grind (arith, nat_tests)

not_hex : (other : ℕ) → (digit_value other < 32 → ⊥) → (c : ℕ) → digit_value c < 32 → c ≢ other
not_hex other none c is same = none (subst (λ n. digit_value n < 32) same is)

not_64 : (other : ℕ) → (digit_64 other < 64 → ⊥) → (c : ℕ) → digit_64 c < 64 → c ≢ other
not_64 other none c is same = none (subst (λ n. digit_64 n < 64) same is)

hex_safe : (c : ℕ) → digit_value c < 32 → IsSafe c
hex_safe c is = (hex_printable c is, not_hex 92 (λ bad. omega (arith, bad)) c is, above c (hex_above c is) (not_hex 59 (λ bad. omega (arith, bad)) c is))

character_safe : (base : Base) (c : ℕ) → IsCharacter base c → IsSafe c
character_safe Sixteen c is = hex_safe c (omega (arith, is))
character_safe ThirtyTwoHex c is = hex_safe c is
character_safe SixtyFour c is = (printable_64 c is, not_64 92 (λ bad. omega (arith, bad)) c is, above c (above_64 c is) (not_64 59 (λ bad. omega (arith, bad)) c is))

safe_text : (base : Base) (text characters : List ℕ) → IsTextOf base text characters → AllByRecursion (IsCharacter base) characters
    → AllByRecursion IsSafe text
safe_text Sixteen text characters is each =
    subst (λ l. AllByRecursion IsSafe l) (sym is) (each_weaker (IsCharacter Sixteen) IsSafe characters (character_safe Sixteen) each)
safe_text ThirtyTwoHex text characters is each =
    subst (λ l. AllByRecursion IsSafe l) (sym is) (each_weaker (IsCharacter ThirtyTwoHex) IsSafe characters (character_safe ThirtyTwoHex) each)
safe_text SixtyFour text characters is each =
    subst (λ l. AllByRecursion IsSafe l) (sym is.written)
    (each_append IsSafe characters _ (each_weaker (IsCharacter SixtyFour) IsSafe characters (character_safe SixtyFour) each)
    (replicated IsSafe is.pads 61 ((omega arith, omega arith), (λ same. omega (arith, same)), above 61 (omega arith) (λ same. omega (arith, same)))))

pub safe_decoded : (base : Base) (text octets : List ℕ) → Decodes base text octets → AllByRecursion IsSafe text
safe_decoded base text octets decodes = safe_text base text decodes.characters decodes.text_of decodes.groups.each
