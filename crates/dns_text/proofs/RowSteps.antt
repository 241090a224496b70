-- A row of a text, step by step from its start.
use Rattle.std.proofs.Common.{◌≡◌, ◌==◌, ◌<◌, ℕ, Bool, true, false, List, [], ◌∷◌, ◌++◌, length, Some, None, if◌then◌else◌, map, refl, sym, ◌∙◌, ap, subst, arith, append_assoc}
use Rattle.std.specs.List.{AllByRecursion, flat_map}
use Rattle.dns_label.specs.declared.symbol.Symbol.{Symbol}
use Rattle.dns_label.specs.Symbol.{spelled}
use Rattle.dns_scan.specs.Token.{Token}
use Rattle.dns_text.specs.Tokens.{EndsToken, IsIn, Next, Row, from_feed, has_feed, head_of}
use Rattle.dns_text.specs.Tokens.Head.{Go, Comment}
use Rattle.dns_text.specs.Tokens.Next.{ended, goes, comment}
use Rattle.dns_text.specs.Tokens.Next.{quoted as quoted_next, unquoted as unquoted_next}
use Rattle.dns_text.specs.Tokens.Row.{end, token}
use Rattle.dns_text.specs.DocumentRows.{AreSymbols, WritesToken}
use Rattle.dns_text.specs.Rows.{BeginsWithRows, TokenRow, is_led, unled}
use Rattle.dns_text.specs.Rows.BeginsWithRows.{none, more}
use Rattle.dns_text.specs.DocumentRows.WritesToken.{quoted, unquoted}
use Rattle.dns_text.proofs.TokenSymbols.{ends_plain, symbol_first, word_head, word_no_gap}

-- rows; the first begins inside parentheses or outside, and none of the others begins with white space
pub data Split : Bool → List ℕ → List (List Token) → Type 0 where
  nothing : Split false [] []
  row : {inside : Bool} {text rest : List ℕ} {tokens : List Token} {rows : List (List Token)} → Row inside text tokens rest
      → is_led rest ≡ false → Split false rest rows → Split inside text (tokens ∷ rows)

abbrev row_with : List Token → Bool → TokenRow
row_with tokens blank_led = record { blank_led = blank_led; tokens = tokens }

unled_row : (blank_led : Bool) (tokens : List Token) → blank_led ≡ false → row_with tokens blank_led ≡ unled tokens
unled_row blank_led tokens is = ap (row_with tokens) is

pub rows_of : {text : List ℕ} {rows : List (List Token)} → is_led text ≡ false → Split false text rows
    → BeginsWithRows text (map unled rows) []
rows_of is nothing = none
rows_of {text} is (row {tokens = tokens} {rows = rows} first next others) =
    subst (λ (r : TokenRow). BeginsWithRows text (r ∷ map unled rows) []) (unled_row (is_led text) tokens is)
    (more first (rows_of next others))

-- after white space or a parenthesis
row_goes : {inside behind : Bool} {text rest : List ℕ} {tokens : List Token} (octet : ℕ) → head_of inside octet ≡ Go behind
    → Row behind text tokens rest → Row inside (octet ∷ text) tokens rest
row_goes octet head (end next) = end (goes octet _ head next)
row_goes octet head (token out left next others) = token out left (goes octet _ head next) others

pub split_goes : {inside behind : Bool} {text : List ℕ} {tokens : List Token} {rows : List (List Token)} (octet : ℕ)
    → head_of inside octet ≡ Go behind → Split behind text (tokens ∷ rows) → Split inside (octet ∷ text) (tokens ∷ rows)
split_goes octet head (row first next others) = row (row_goes octet head first) next others

-- after a comment
row_comment : (inside : Bool) (skipped text rest : List ℕ) (tokens : List Token) (octet : ℕ) → head_of inside octet ≡ Comment
    → skipped ≡ from_feed text → Row inside skipped tokens rest → Row inside (octet ∷ text) tokens rest
row_comment inside skipped text rest _ octet head is (end next) =
    end (comment octet head (subst (λ l. Next inside l None false rest) is next))
row_comment inside skipped text rest _ octet head is (token {found = found} out left next others) =
    token out left (comment octet head (subst (λ l. Next inside l (Some found) out left) is next)) others

pub split_comment : (inside : Bool) (skipped text : List ℕ) (tokens : List Token) (rows : List (List Token)) (octet : ℕ)
    → head_of inside octet ≡ Comment → skipped ≡ from_feed text → Split inside skipped (tokens ∷ rows)
    → Split inside (octet ∷ text) (tokens ∷ rows)
split_comment inside skipped text tokens rows octet head is (row {rest = rest} first next others) =
    row (row_comment inside skipped text rest tokens octet head is first) next others

-- after the line feed of a row
pub split_feed : {text : List ℕ} {rows : List (List Token)} → is_led text ≡ false → Split false text rows
    → Split false (10 ∷ text) ([] ∷ rows)
split_feed next others = row (end (ended 10 refl)) next others

-- the first octet of an unquoted token
word_next : (inside : Bool) (text behind : List ℕ) (symbols : List Symbol) → AllByRecursion (IsIn false) symbols
    → text ≡ flat_map spelled symbols → 0 < length text → EndsToken false behind
    → Next inside (text ++ behind) (Some (record { quoted = false; text = text })) inside behind
word_next inside [] behind symbols each written some ends = absurd (omega arith)
word_next inside (octet ∷ text) behind [] each written some ends = cc
word_next inside (octet ∷ text) behind (symbol ∷ symbols) each written some ends =
    let first = symbol_first false symbol octet text (flat_map spelled symbols) each.0 written in
    unquoted_next octet (word_head inside octet first.0 first.1)
    (record { symbols = symbol ∷ symbols; each = each; written = written; whole = refl; longest = ends }) some

quote_next : (inside : Bool) (text behind : List ℕ) → AreSymbols true text
    → Next inside (34 ∷ text ++ 34 ∷ behind) (Some (record { quoted = true; text = text })) inside behind
quote_next true text behind are =
    quoted_next 34 refl (record { symbols = are.symbols; each = are.each; written = are.written; whole = refl; longest = ends_plain true 34 behind refl })
quote_next false text behind are =
    quoted_next 34 refl (record { symbols = are.symbols; each = are.each; written = are.written; whole = refl; longest = ends_plain true 34 behind refl })

-- after a token
pub split_token : (inside : Bool) (found : Token) (text behind : List ℕ) (tokens : List Token) (rows : List (List Token))
    → WritesToken found text → EndsToken false behind → Split inside behind (tokens ∷ rows)
    → Split inside (text ++ behind) ((found ∷ tokens) ∷ rows)
split_token inside found text behind tokens rows (unquoted are some) ends (row first next others) =
    row (token inside behind (word_next inside text behind are.symbols are.each are.written some ends) first) next others
split_token inside found _ behind tokens rows (quoted {text} are) ends (row first next others) =
    let P : List ℕ → Type 0 = λ l. Split inside (34 ∷ l) ((found ∷ tokens) ∷ rows) in
    subst P (sym (append_assoc text (34 ∷ []) behind))
    (row (token inside behind (quote_next inside text behind are) first) next others)

-- no token begins with white space
word_unled : (text behind : List ℕ) (symbols : List Symbol) → AllByRecursion (IsIn false) symbols → text ≡ flat_map spelled symbols
    → 0 < length text → is_led (text ++ behind) ≡ false
word_unled [] behind symbols each written some = absurd (omega arith)
word_unled (octet ∷ text) behind [] each written some = cc
word_unled (octet ∷ text) behind (symbol ∷ symbols) each written some =
    let first = symbol_first false symbol octet text (flat_map spelled symbols) each.0 written in
    word_no_gap octet first.0 first.1

pub token_unled : (found : Token) (text behind : List ℕ) → WritesToken found text → is_led (text ++ behind) ≡ false
token_unled found text behind (unquoted are some) = word_unled text behind are.symbols are.each are.written some
token_unled found text behind (quoted are) = refl

-- what a comment skips
feed_off : (octet : ℕ) (text : List ℕ) → has_feed (octet ∷ text) ≡ false → ((octet == 10) ≡ false) × (has_feed text ≡ false)
feed_off octet text none' = by (octet == 10) refl
  where
    by : (feed : Bool) → (octet == 10) ≡ feed → ((octet == 10) ≡ false) × (has_feed text ≡ false)
    by true is = let bad : true ≡ false = sym (ap (λ b. if b then true else has_feed text) is) ∙ none' in cc
    by false is = (is, sym (ap (λ b. if b then true else has_feed text) is) ∙ none')

pub from_feed-append : (text behind : List ℕ) → has_feed text ≡ false → from_feed (text ++ behind) ≡ from_feed behind
from_feed-append [] behind none' = refl
from_feed-append (octet ∷ text) behind none' =
    let both = feed_off octet text none' in
    ap (λ b. if b then octet ∷ (text ++ behind) else from_feed (text ++ behind)) both.0 ∙ from_feed-append text behind both.1
