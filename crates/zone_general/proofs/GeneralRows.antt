-- The general row of a row that was found: its octets are a row, with the tokens that it should have.
use Rattle.std.proofs.Common.{◌≡◌, ◌⊎◌, ◌-◌, ◌<◌, ◌^◌, ℕ, zero, suc, Bool, true, false, List, [], ◌∷◌, ◌++◌, length, map, take, drop, decimal, codes, is_some, if◌then◌else◌, inl, inr, refl, sym, ◌∙◌, subst, arith}
use Rattle.std.proofs.lemmas.Bool.Decides.{nat_tests}
use Rattle.std.proofs.lemmas.List.{length-map}
use Rattle.std.specs.List.{AllByRecursion}
use Rattle.dns_label.specs.Octets.{AreOctets}
use Rattle.dns_values.specs.Mnemonic.{type_read}
use Rattle.dns_name.specs.UnknownText.{unknown_text}
use Rattle.dns_scan.specs.Token.{Token, unquoted}
use Rattle.dns_entry_scanner.specs.RowFound.{IsRowAt, NoRow}
use Rattle.dns_entry_scanner.specs.TokenSpan.{token_in}
use Rattle.dns_entry_scanner.specs.declared.token_span.TokenSpan.{TokenSpan}
use Rattle.dns_fields.proofs.PrintedTexts.{IsSafe, safe_decimal}
use Rattle.dns_text.specs.Rows.{TokenRow, is_led}
use Rattle.dns_text.specs.Tokens.{is_end}
use Rattle.dns_text.proofs.OneRow.{no_row_at_end, one_row}
use Rattle.zone_general.specs.LongerRow.{HasFront, HasType, general_tokens, known_word, with_tokens}
use Rattle.zone_general.specs.LongerRow.HasFront.{last, own}
use Rattle.zone_general.specs.Parts.{IsToken, Part, tokens_of}
use Rattle.zone_general.specs.Rewritten.{AreRow, Rewrites}
use Rattle.zone_general.specs.Seen.{IsFound, RewritesAt, octets_in, row_in}
use Rattle.zone_general.specs.declared.found_row.FoundRow.{FoundRow}
use Rattle.zone_general.proofs.RewrittenParts.{first_token, map_tokens, parts_behind, safe_token, unknown_row}

-- a token is before the type, or white space is
pub front_begins : {led : Bool} {front others : List Token} → HasFront led front others → (0 < length front) ⊎ (led ≡ true)
front_begins last = inr refl
front_begins own = inl (omega arith)

-- the word for the type of the general row is a token
unquoted_token : (token : Token) → token.quoted ≡ false → IsToken token → IsToken (unquoted token.text)
unquoted_token token bare is = subst (λ (b : Bool). IsToken (record { quoted = b; text = token.text })) bare is

each_append : (front rest : List ℕ) → AllByRecursion IsSafe front → AllByRecursion IsSafe rest → AllByRecursion IsSafe (front ++ rest)
each_append [] rest each each' = each'
each_append (octet ∷ front) rest each each' = (each.0, each_append front rest each.1 each')

letter_other : (octet : ℕ) → octet < 91 → octet ≡ 92 → ⊥
letter_other octet high same = omega (arith, high, same)

letter_safe : (octet : ℕ) → 64 < octet → octet < 91 → IsSafe octet
letter_safe octet low high = ((omega arith, omega arith), (λ same. letter_other octet high same), grind (arith, nat_tests))

number_token : (rtype : ℕ) → rtype < 2 ^ 64 → IsToken (unquoted (codes "TYPE" ++ decimal rtype))
number_token rtype small =
    safe_token (codes "TYPE" ++ decimal rtype)
    (each_append (codes "TYPE") (decimal rtype) (
      letter_safe 84 (omega arith) (omega arith),
      (
        letter_safe 89 (omega arith) (omega arith),
        (letter_safe 80 (omega arith) (omega arith), (letter_safe 69 (omega arith) (omega arith), tt)),
      ),
    )
    (safe_decimal rtype small)) (omega arith)

pub known_token : (word : Token) (rtype : ℕ) → word.quoted ≡ false → IsToken word → rtype < 2 ^ 64 → IsToken (unquoted (known_word word rtype))
known_token word rtype bare is small = by (is_some (type_read word.text))
  where
    by : (known : Bool) → IsToken (unquoted (if known then word.text else codes "TYPE" ++ decimal rtype))
    by true = unquoted_token word bare is
    by false = number_token rtype small

-- The octets with a known word for the type and the general form of the data are the general row.
pub general_row : (content : List ℕ) {row : TokenRow} {front data' : List Token} {word : Token} {rtype : ℕ} {octets new : List ℕ}
    → HasType row front word rtype data' → Rewrites row front word data' (known_word word rtype) (unknown_text content) octets new
    → rtype < 2 ^ 64 → AreOctets content → length content < 2 ^ 64
    → AreRow new (with_tokens row (front ++ unquoted (known_word word rtype) ∷ general_tokens content))
general_row content {word = word} {rtype = rtype} has makes small are few =
    let at = parts_behind makes.front_parts (makes.type_part ∷ makes.data_parts) makes.last makes.are in
    let is : IsToken word = subst IsToken makes.type_is (first_token at.1) in
    unknown_row content makes has.type.bare (front_begins has.has_front) (known_token word rtype has.type.bare is small) are few

-- lists with as many elements before one
record SameSplit (front front' rest rest' : List Token) (token token' : Token) : Type 0 where
  pub fronts : front ≡ front'
  pub tokens : token ≡ token'
  pub rests : rest ≡ rest'

same_split : (front front' rest rest' : List Token) (token token' : Token) → length front ≡ length front'
    → front ++ token ∷ rest ≡ front' ++ token' ∷ rest' → SameSplit front front' rest rest' token token'
same_split [] [] rest rest' token token' len same = record { fronts = refl; tokens = cc; rests = cc }
same_split [] (first ∷ front') rest rest' token token' len same = absurd (omega (arith, len))
same_split (first ∷ front) [] rest rest' token token' len same = absurd (omega (arith, len))
same_split (first ∷ front) (first' ∷ front') rest rest' token token' len same =
    let first_is : first ≡ first' = cc in
    let behind : front ++ token ∷ rest ≡ front' ++ token' ∷ rest' = cc in
    let on = same_split front front' rest rest' token token' (omega (arith, len)) behind in
    record { fronts = let fronts = on.fronts in cc; tokens = on.tokens; rests = on.rests }

-- the row begins as the text does there
led_front : (text : List ℕ) (count : ℕ) → 0 < count → is_led (take count text) ≡ is_led text
led_front text zero some = absurd (omega (arith, some))
led_front [] (suc count) some = refl
led_front (octet ∷ text) (suc count) some = refl

-- What is appended for a row that was found is as its type says.
pub rewrites_row : {row : FoundRow} {place rtype : ℕ} {word text new : List ℕ} {front data' : List Token} {found : Token} → IsFound row
    → HasType (row_in row) front found rtype data' → place ≡ length front → RewritesAt row place word text new
    → Rewrites (row_in row) front found data' word text (octets_in row) new
rewrites_row {row} {front = front} {data' = data'} {found = found} is has count at =
    let tokens : tokens_of at.front_parts ++ at.type_part.token ∷ tokens_of at.data_parts ≡ front ++ found ∷ data' =
    sym (map_tokens at.front_parts (at.type_part ∷ at.data_parts)) ∙ at.tokens ∙ has.is in
    let len : length (tokens_of at.front_parts) ≡ length front = length-map at.front_parts (λ (p : Part). p.token) ∙ at.place_is ∙ count in
    let same = same_split (tokens_of at.front_parts) front (tokens_of at.data_parts) data' at.type_part.token found len tokens in record {
      front_parts = at.front_parts;
      type_part = at.type_part;
      data_parts = at.data_parts;
      last = at.last;
      are = at.are;
      front_is = same.fronts;
      type_is = same.tokens;
      data_is = same.rests;
      led = is.leads ∙ sym (led_front (drop row.place row.text.now) (row.next - row.place) (omega (arith, is.behind)));
      written = at.written;
      rewritten = at.rewritten;
    }

-- octets that are a row, and nothing else, read so
pub row_found : {octets : List ℕ} {row : TokenRow} {spans : List TokenSpan} {next : ℕ} {blank_led : Bool} → AreRow octets row
    → IsRowAt octets 0 spans next blank_led → (map (λ (s : TokenSpan). token_in octets s) spans ≡ row.tokens) × (blank_led ≡ row.blank_led)
row_found are at = ((one_row at.row _ _ are.is).0, at.leads ∙ sym are.led)

pub row_no_end : {octets : List ℕ} {row : TokenRow} → AreRow octets row → is_end octets ≡ true → ⊥
row_no_end are ends = no_row_at_end ends are.is

pub row_not_broken : {octets : List ℕ} {row : TokenRow} → AreRow octets row → NoRow octets → ⊥
row_not_broken are none = none _ _ are.is
