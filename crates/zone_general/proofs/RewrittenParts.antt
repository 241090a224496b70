-- The octets of a row with another word for its type and other tokens for its data are a row.
use Rattle.std.proofs.Common.{◌≡◌, ◌⊎◌, ◌<◌, ◌^◌, ℕ, Bool, true, false, List, [], ◌∷◌, ◌++◌, length, map, decimal, if◌then◌else◌, inl, inr, refl, sym, ◌∙◌, ap, subst, arith, append_assoc, append-nil}
use Rattle.std.proofs.lemmas.List.{length-map}
use Rattle.std.proofs.lemmas.Bool.{false≢true}
use Rattle.std.proofs.lemmas.Fmt.{decimal_nonempty}
use Rattle.std.proofs.lemmas.List.Concat.{flat_map-append}
use Rattle.std.specs.List.{AllByRecursion, flat_map, join_with_byte, list_all}
use Rattle.dns_label.specs.Octets.{AreOctets}
use Rattle.dns_label.specs.declared.symbol.Symbol.TheVariants.{Char, SimpleEscape}
use Rattle.dns_label.specs.Symbol.{spelled}
use Rattle.dns_name.specs.UnknownText.{hex_of, hex_words, unknown_text, unknown_words}
use Rattle.dns_scan.specs.Token.{Token, marker, unquoted}
use Rattle.dns_scan.proofs.HexWords.{hex_encoded}
use Rattle.dns_entry_scanner.proofs.Rows.{row_shorter}
use Rattle.dns_fields.proofs.PrintedRows.{safe_16}
use Rattle.dns_fields.proofs.PrintedTexts.{IsSafe, safe_decimal}
use Rattle.dns_text.specs.Rows.{BeginsWithRows, TokenRow, is_led}
use Rattle.dns_text.specs.Rows.BeginsWithRows.{none as no_rows, more as more_rows}
use Rattle.dns_text.specs.Tokens.{Head, IsIn, Row, head_of, is_gap}
use Rattle.dns_text.specs.Tokens.Head.{Go}
use Rattle.dns_text.proofs.TokenSymbols.{word_no_gap}
use Rattle.zone_general.specs.LongerRow.{general_tokens, with_tokens}
use Rattle.zone_general.specs.Parts.{AreParts, BeginsWithEnd, EndsRow, IsGap, IsToken, Part, ends_word, part_octets, row_octets, token_octets, tokens_of}
use Rattle.zone_general.specs.Parts.AreParts.{ended, more}
use Rattle.zone_general.specs.Parts.IsGap.{none, goes, comment}
use Rattle.zone_general.specs.Rewritten.{AreRow, Rewrites, data_octets, gaps_of, kept, spaced}
use Rattle.zone_general.proofs.KnownWords.{both_hold}
use Rattle.zone_general.proofs.RowGaps.{gap_ends, go_ends}
use Rattle.zone_general.proofs.RowParts.{begins_at, ends_begin, no_word, parts_apart, parts_row, row_alone, token_first}

-- The octets of a row are one before any text.
pub row_before : {octets : List ℕ} {tokens : List Token} → Row false octets tokens [] → (rest : List ℕ) → Row false (octets ++ rest) tokens rest
row_before {octets} {tokens} row rest =
    let alone = row_alone row in
    let same : alone.octets ≡ octets = sym (alone.whole ∙ append-nil alone.octets) in
    subst (λ (l : List ℕ). Row false (l ++ rest) tokens rest) same (alone.is rest)

pub row_shared : {octets : List ℕ} {row : TokenRow} → AreRow octets row → (rest : List ℕ) → Row false (octets ++ rest) row.tokens rest
row_shared are rest = row_before are.is rest

nothing_row : {tokens : List Token} → Row false [] tokens [] → ⊥
nothing_row row = absurd (omega (arith, row_shorter row))

led_before : (octets rest : List ℕ) {tokens : List Token} → Row false octets tokens [] → is_led (octets ++ rest) ≡ is_led octets
led_before [] rest row = absurd (nothing_row row)
led_before (octet ∷ octets) rest row = refl

pub row_begins : {octets : List ℕ} {row : TokenRow} → AreRow octets row → (rest : List ℕ) → BeginsWithRows (octets ++ rest) (row ∷ []) rest
row_begins {octets} {row} are rest =
    let led : is_led (octets ++ rest) ≡ row.blank_led = led_before octets rest are.is ∙ sym are.led in
    subst (λ (b : Bool). BeginsWithRows (octets ++ rest) (record { blank_led = b; tokens = row.tokens } ∷ []) rest) led
    (more_rows (row_before are.is rest) no_rows)

-- a token of a text, after a space
abbrev pub spaced_part : Token → Part
spaced_part token = record { gap = 32 ∷ []; token = token }

abbrev pub AreTokens : List Token → Type 0
AreTokens tokens = AllByRecursion IsToken tokens

space_goes : (inside : Bool) → head_of inside 32 ≡ Go inside
space_goes true = refl
space_goes false = refl

pub space_gap : {inside : Bool} → IsGap inside (32 ∷ []) inside
space_gap {inside} = goes (space_goes inside) none

spaced_gap : {inside out : Bool} {gap : List ℕ} → IsGap inside gap out → IsGap inside (spaced gap) out
spaced_gap none = space_gap
spaced_gap (goes head first) = goes head first
spaced_gap (comment text no_feed first) = comment text no_feed first

pub tokens_begin : {inside : Bool} {last : List ℕ} (tokens : List Token) → EndsRow inside last → BeginsWithEnd (row_octets (map spaced_part tokens) last)
tokens_begin [] ends = ends_begin ends
tokens_begin {last = last} (token ∷ tokens) ends = begins_at ((token_octets token ++ flat_map part_octets (map spaced_part tokens)) ++ last) refl

pub tokens_are : {inside : Bool} {last : List ℕ} (tokens : List Token) → AreTokens tokens → EndsRow inside last
    → AreParts inside (map spaced_part tokens) last
tokens_are [] each ends = ended ends
tokens_are (token ∷ tokens) each ends = more space_gap each.0 (λ _. tokens_begin tokens ends) (tokens_are tokens each.1 ends)

-- tokens as they are written, with one space between any two
abbrev pub spaced_text : List Token → List ℕ
spaced_text tokens = join_with_byte 32 (map token_octets tokens)

tokens_text : (first : Token) (tokens : List Token)
    → spaced_text (first ∷ tokens) ≡ token_octets first ++ flat_map part_octets (map spaced_part tokens)
tokens_text first [] = sym (append-nil (token_octets first))
tokens_text first (token ∷ tokens) = ap (λ l. token_octets first ++ (32 ∷ l)) (tokens_text token tokens)

-- the new data: these tokens, the first after what was before the data
abbrev pub data_parts_of : List Part → Token → List Token → List Part
data_parts_of [] first tokens = spaced_part first ∷ map spaced_part tokens
data_parts_of (part ∷ parts) first tokens = record { gap = spaced part.gap; token = first } ∷ map spaced_part tokens

abbrev pub last_of : List Part → List ℕ → List ℕ
last_of [] last = last
last_of (part ∷ parts) last = gaps_of parts ++ last

-- white space alone has the same side before it and behind it, and what stays of a gap is one
chosen : (test : Bool) (first second found : Head) → test ≡ true → (if test then first else second) ≡ found → first ≡ found
chosen true first second found is same = same
chosen false first second found is same = absurd cc

blank_gap : {inside out : Bool} {gap : List ℕ} → IsGap inside gap out → list_all is_gap gap ≡ true → inside ≡ out
blank_gap none blank = refl
blank_gap {inside} (goes {behind = behind} {octet = octet} {gap = gap} head first) blank =
    let both = both_hold (is_gap octet) (list_all is_gap gap) blank in
    let same : Go inside ≡ Go behind = chosen (is_gap octet) (Go inside) _ (Go behind) both.0 head in
    let side : inside ≡ behind = cc in
    side ∙ blank_gap first both.1
blank_gap (comment text no_feed first) blank = absurd cc

kept_gap : {inside out : Bool} {gap : List ℕ} → IsGap inside gap out → IsGap inside (kept gap) out
kept_gap {inside} {out} {gap} first = by (list_all is_gap gap) refl
  where
    by : (blank : Bool) → list_all is_gap gap ≡ blank → IsGap inside (if blank then [] else gap) out
    by true is = subst (λ (b : Bool). IsGap inside [] b) (blank_gap first is) none
    by false is = first

gaps_end : {inside : Bool} {parts : List Part} {last : List ℕ} → AreParts inside parts last → EndsRow inside (gaps_of parts ++ last)
gaps_end (ended ends) = ends
gaps_end {inside} (more {part = part} {parts = parts} {last = last} between is begins others) =
    subst (λ l. EndsRow inside l) (sym (append_assoc (kept part.gap) (gaps_of parts) last)) (gap_ends (kept_gap between) (gaps_end others))

pub data_are : {inside : Bool} {parts : List Part} {last : List ℕ} (first : Token) (tokens : List Token) → AreParts inside parts last
    → IsToken first → AreTokens tokens → AreParts inside (data_parts_of parts first tokens) (last_of parts last)
data_are first tokens (ended ends) is each = more space_gap is (λ _. tokens_begin tokens ends) (tokens_are tokens each ends)
data_are first tokens (more gap token begins others) is each =
    let ends = gaps_end others in more (spaced_gap gap) is (λ _. tokens_begin tokens ends) (tokens_are tokens each ends)

spaced_begin : {inside out : Bool} {gap : List ℕ} (rest : List ℕ) → IsGap inside gap out → BeginsWithEnd (spaced gap ++ rest)
spaced_begin rest none = begins_at rest refl
spaced_begin {inside} rest (goes {behind = behind} {octet = octet} {gap = gap} head first) =
    begins_at (gap ++ rest) (go_ends inside behind octet head)
spaced_begin rest (comment {gap = gap} text no_feed first) = begins_at ((text ++ 10 ∷ gap) ++ rest) refl

data_begin : {inside : Bool} {parts : List Part} {last : List ℕ} (first : Token) (tokens : List Token) → AreParts inside parts last
    → BeginsWithEnd (row_octets (data_parts_of parts first tokens) (last_of parts last))
data_begin {last = last} first tokens (ended ends) =
    begins_at ((token_octets first ++ flat_map part_octets (map spaced_part tokens)) ++ last) refl
data_begin {last = last} first tokens (more {part = part} {parts = parts} gap token begins others) =
    let text = flat_map part_octets (map spaced_part tokens) in
    let octets = token_octets first in
    let apart : spaced part.gap ++ ((octets ++ text) ++ (gaps_of parts ++ last)) ≡ ((spaced part.gap ++ octets) ++ text) ++ (gaps_of parts ++ last) =
    simp append_assoc in
    subst BeginsWithEnd apart (spaced_begin ((octets ++ text) ++ (gaps_of parts ++ last)) gap)

data_written : (parts : List Part) (last : List ℕ) (first : Token) (tokens : List Token)
    → row_octets (data_parts_of parts first tokens) (last_of parts last) ≡ data_octets parts (spaced_text (first ∷ tokens)) ++ last
data_written [] last first tokens = ap (λ l. 32 ∷ (l ++ last)) (sym (tokens_text first tokens))
data_written (part ∷ parts) last first tokens =
    let text = flat_map part_octets (map spaced_part tokens) in
    let octets = token_octets first in
    let apart : ((spaced part.gap ++ octets) ++ text) ++ (gaps_of parts ++ last) ≡ (spaced part.gap ++ ((octets ++ text) ++ gaps_of parts)) ++ last =
    simp append_assoc in
    apart ∙ ap (λ l. (spaced part.gap ++ (l ++ gaps_of parts)) ++ last) (sym (tokens_text first tokens))

pub spaced_tokens : (tokens : List Token) → tokens_of (map spaced_part tokens) ≡ tokens
spaced_tokens [] = refl
spaced_tokens (token ∷ tokens) = ap (λ l. token ∷ l) (spaced_tokens tokens)

data_tokens : (parts : List Part) (first : Token) (tokens : List Token) → tokens_of (data_parts_of parts first tokens) ≡ first ∷ tokens
data_tokens [] first tokens = ap (λ l. first ∷ l) (spaced_tokens tokens)
data_tokens (part ∷ parts) first tokens = ap (λ l. first ∷ l) (spaced_tokens tokens)

-- the type's part with another word
abbrev pub part_with : Part → List ℕ → Part
part_with part word = record { gap = part.gap; token = unquoted word }

type_are : {inside : Bool} (type_part : Part) (data_parts : List Part) (last word : List ℕ) (first : Token) (tokens : List Token)
    → IsToken (unquoted word) → IsToken first → AreTokens tokens → AreParts inside (type_part ∷ data_parts) last
    → AreParts inside (part_with type_part word ∷ data_parts_of data_parts first tokens) (last_of data_parts last)
type_are type_part data_parts last word first tokens is is_first each (more gap token begins others) =
    more gap is (λ _. data_begin first tokens others) (data_are first tokens others is_first each)

-- A word before the type's word ends as before: with what is before that word.
type_begins : (gap : List ℕ) (found : Token) (behind behind' : List ℕ) → IsToken found → found.quoted ≡ false
    → BeginsWithEnd (gap ++ (token_octets found ++ behind)) → BeginsWithEnd (gap ++ behind')
type_begins [] found behind behind' is bare begins =
    let first = token_first found is in
    let same : begins.octet ≡ first.octet = let at = sym begins.is ∙ ap (λ l. l ++ behind) first.is in cc in
    absurd (no_word first.octet (subst (λ n. ends_word n ≡ true) same begins.ends) first.prints (first.stands bare))
type_begins (octet ∷ gap) found behind behind' is bare begins =
    let same : begins.octet ≡ octet = let at = begins.is in cc in
    begins_at (gap ++ behind') (subst (λ n. ends_word n ≡ true) same begins.ends)

-- The octets before the type stay, so what is at their start does too.
record PartFirst (gap : List ℕ) (found : Token) : Type 0 where
  pub octet : ℕ
  pub others : List ℕ
  pub is : gap ++ token_octets found ≡ octet ∷ others

part_first : (gap : List ℕ) (found : Token) → IsToken found → PartFirst gap found
part_first [] found is = let first = token_first found is in record { octet = first.octet; others = first.others; is = first.is }
part_first (octet ∷ gap) found is = record { octet = octet; others = gap ++ token_octets found; is = refl }

begins_alike : (part : Part) (behind behind' : List ℕ) → IsToken part.token → BeginsWithEnd (part_octets part ++ behind)
    → BeginsWithEnd (part_octets part ++ behind')
begins_alike part behind behind' is begins =
    let first = part_first part.gap part.token is in
    let same : begins.octet ≡ first.octet = let at = sym begins.is ∙ ap (λ l. l ++ behind) first.is in cc in
    record {
      octet = first.octet;
      rest = first.others ++ behind';
      is = ap (λ l. l ++ behind') first.is;
      ends = subst (λ n. ends_word n ≡ true) same begins.ends;
    }

led_alike : (part : Part) (behind behind' : List ℕ) → IsToken part.token → is_led (part_octets part ++ behind) ≡ is_led (part_octets part ++ behind')
led_alike part behind behind' is =
    let first = part_first part.gap part.token is in
    ap (λ l. is_led (l ++ behind)) first.is ∙ sym (ap (λ l. is_led (l ++ behind')) first.is)

front_octets : (front parts : List Part) (last : List ℕ) → row_octets (front ++ parts) last ≡ flat_map part_octets front ++ row_octets parts last
front_octets front parts last =
    ap (λ l. l ++ last) (flat_map-append part_octets front parts) ∙ append_assoc (flat_map part_octets front) (flat_map part_octets parts) last

first_octets : (part : Part) (front : List Part) (last : List ℕ) → row_octets (part ∷ front) last ≡ part_octets part ++ row_octets front last
first_octets part front last = append_assoc (part_octets part) (flat_map part_octets front) last

begins_on : {inside : Bool} (front parts parts' : List Part) (last last' : List ℕ) → AreParts inside (front ++ parts) last
    → (BeginsWithEnd (row_octets parts last) → BeginsWithEnd (row_octets parts' last'))
    → BeginsWithEnd (row_octets (front ++ parts) last) → BeginsWithEnd (row_octets (front ++ parts') last')
begins_on [] parts parts' last last' are on begins = on begins
begins_on (part ∷ front) parts parts' last last' (more gap is word others) on begins =
    subst BeginsWithEnd (sym (first_octets part (front ++ parts') last'))
    (begins_alike part (row_octets (front ++ parts) last) (row_octets (front ++ parts') last') is
    (subst BeginsWithEnd (first_octets part (front ++ parts) last) begins))

front_are : {inside : Bool} (front parts parts' : List Part) (last last' : List ℕ) → AreParts inside (front ++ parts) last
    → ((out : Bool) → AreParts out parts last → AreParts out parts' last')
    → (BeginsWithEnd (row_octets parts last) → BeginsWithEnd (row_octets parts' last')) → AreParts inside (front ++ parts') last'
front_are {inside} [] parts parts' last last' are step on = step inside are
front_are (part ∷ front) parts parts' last last' (more gap is word others) step on =
    more gap is (λ e. begins_on front parts parts' last last' others on (word e)) (front_are front parts parts' last last' others step on)

-- the parts after the front
pub parts_behind : {inside : Bool} (front parts : List Part) (last : List ℕ) → AreParts inside (front ++ parts) last
    → (out : Bool) × AreParts out parts last
parts_behind {inside} [] parts last are = (inside, are)
parts_behind (part ∷ front) parts last (more gap is word others) = parts_behind front parts last others

pub first_token : {inside : Bool} {part : Part} {parts : List Part} {last : List ℕ} → AreParts inside (part ∷ parts) last → IsToken part.token
first_token (more gap is word others) = is

pub map_tokens : (front parts : List Part) → tokens_of (front ++ parts) ≡ tokens_of front ++ tokens_of parts
map_tokens [] parts = refl
map_tokens (part ∷ front) parts = ap (λ l. part.token ∷ l) (map_tokens front parts)

-- the octets of a row with another word for its type and another text for its data
abbrev pub rewritten_octets : List Part → Part → List Part → List ℕ → List ℕ → List ℕ → List ℕ
rewritten_octets front type_part data_parts last word text =
    flat_map part_octets front ++ (type_part.gap ++ (word ++ (data_octets data_parts text ++ last)))

-- They are the new parts, and so a row.
pub rewritten_are : (front : List Part) (type_part : Part) (data_parts : List Part) (last word : List ℕ) (first : Token) (tokens : List Token)
    → AreParts false (front ++ type_part ∷ data_parts) last → type_part.token.quoted ≡ false → IsToken (unquoted word)
    → IsToken first → AreTokens tokens
    → AreParts false (front ++ part_with type_part word ∷ data_parts_of data_parts first tokens) (last_of data_parts last)
rewritten_are front type_part data_parts last word first tokens are bare is is_first each =
    let new_parts = part_with type_part word ∷ data_parts_of data_parts first tokens in
    let new_last = last_of data_parts last in
    let at = parts_behind front (type_part ∷ data_parts) last are in
    let begins = λ (ends : BeginsWithEnd (row_octets (type_part ∷ data_parts) last)).
    subst BeginsWithEnd (sym (parts_apart (part_with type_part word) (data_parts_of data_parts first tokens) new_last))
    (type_begins type_part.gap type_part.token (row_octets data_parts last) (word ++ row_octets (data_parts_of data_parts first tokens) new_last)
    (first_token at.1) bare (subst BeginsWithEnd (parts_apart type_part data_parts last) ends)) in
    front_are front (type_part ∷ data_parts) new_parts last new_last are
    (λ out. type_are type_part data_parts last word first tokens is is_first each) begins

pub rewritten_row : (front : List Part) (type_part : Part) (data_parts : List Part) (last word : List ℕ) (first : Token) (tokens : List Token)
    → AreParts false (front ++ type_part ∷ data_parts) last → type_part.token.quoted ≡ false → IsToken (unquoted word)
    → IsToken first → AreTokens tokens
    → Row false (rewritten_octets front type_part data_parts last word (spaced_text (first ∷ tokens)))
    (tokens_of front ++ unquoted word ∷ first ∷ tokens) []
rewritten_row front type_part data_parts last word first tokens are bare is is_first each =
    let new_data = data_parts_of data_parts first tokens in
    let new_last = last_of data_parts last in
    let parts = front ++ part_with type_part word ∷ new_data in
    let row = parts_row parts (rewritten_are front type_part data_parts last word first tokens are bare is is_first each) [] in
    let all : tokens_of parts ≡ tokens_of front ++ unquoted word ∷ first ∷ tokens =
    map_tokens front (part_with type_part word ∷ new_data) ∙ ap (λ l. tokens_of front ++ unquoted word ∷ l) (data_tokens data_parts first tokens) in
    let written : row_octets parts new_last ++ [] ≡ rewritten_octets front type_part data_parts last word (spaced_text (first ∷ tokens)) =
    append-nil (row_octets parts new_last) ∙ front_octets front (part_with type_part word ∷ new_data) new_last
    ∙ ap (λ l. flat_map part_octets front ++ l) (parts_apart (part_with type_part word) new_data new_last)
    ∙ ap (λ l. flat_map part_octets front ++ (type_part.gap ++ (word ++ l))) (data_written data_parts last first tokens) in
    subst (λ (l : List ℕ). Row false l (tokens_of front ++ unquoted word ∷ first ∷ tokens) []) written
    (subst (λ (l : List Token). Row false (row_octets parts new_last ++ []) l []) all row)

-- It begins with white space exactly if the row does, provided that a token or white space is before the type.
led_front : (front : List Part) (type_part : Part) (data_parts : List Part) (last behind : List ℕ) → 0 < length front
    → AreParts false (front ++ type_part ∷ data_parts) last
    → is_led (flat_map part_octets front ++ (type_part.gap ++ behind)) ≡ is_led (row_octets (front ++ type_part ∷ data_parts) last)
led_front [] type_part data_parts last behind some are = absurd (omega (arith, some))
led_front (part ∷ front) type_part data_parts last behind some are =
    ap is_led (append_assoc (part_octets part) (flat_map part_octets front) (type_part.gap ++ behind))
    ∙ led_alike part (flat_map part_octets front ++ (type_part.gap ++ behind)) (row_octets (front ++ type_part ∷ data_parts) last) (first_token are)
    ∙ ap is_led (sym (first_octets part (front ++ type_part ∷ data_parts) last))

led_gap : (gap : List ℕ) (found : Token) (behind behind' : List ℕ) → IsToken found → found.quoted ≡ false
    → is_led (gap ++ (token_octets found ++ behind)) ≡ true → is_led (gap ++ behind') ≡ is_led (gap ++ (token_octets found ++ behind))
led_gap [] found behind behind' is bare led =
    let first = token_first found is in
    let no_gap : is_led (token_octets found ++ behind) ≡ false =
    ap (λ l. is_led (l ++ behind)) first.is ∙ word_no_gap first.octet first.prints (first.stands bare) in
    absurd (false≢true (sym no_gap ∙ led))
led_gap (octet ∷ gap) found behind behind' is bare led = refl

pub rewritten_led : (front : List Part) (type_part : Part) (data_parts : List Part) (last word text : List ℕ)
    → AreParts false (front ++ type_part ∷ data_parts) last → type_part.token.quoted ≡ false
    → (0 < length front) ⊎ (is_led (row_octets (front ++ type_part ∷ data_parts) last) ≡ true)
    → is_led (rewritten_octets front type_part data_parts last word text) ≡ is_led (row_octets (front ++ type_part ∷ data_parts) last)
rewritten_led front type_part data_parts last word text are bare (inl some) =
    led_front front type_part data_parts last (word ++ (data_octets data_parts text ++ last)) some are
rewritten_led [] type_part data_parts last word text are bare (inr led) =
    let apart = parts_apart type_part data_parts last in
    led_gap type_part.gap type_part.token (row_octets data_parts last) (word ++ (data_octets data_parts text ++ last)) (first_token are) bare
    (sym (ap is_led apart) ∙ led) ∙ ap is_led (sym apart)
rewritten_led (part ∷ front) type_part data_parts last word text are bare (inr led) =
    led_front (part ∷ front) type_part data_parts last (word ++ (data_octets data_parts text ++ last)) (omega arith) are

-- The words of unknown data are tokens.
chars_written : (text : List ℕ) → text ≡ flat_map spelled (map Char text)
chars_written [] = refl
chars_written (octet ∷ text) = ap (λ l. octet ∷ l) (chars_written text)

each_in : (text : List ℕ) → AllByRecursion IsSafe text → AllByRecursion (IsIn false) (map Char text)
each_in [] each = tt
each_in (octet ∷ text) each = (((each.0.0, each.0.1), each.0.2), each_in text each.1)

pub safe_token : (text : List ℕ) → AllByRecursion IsSafe text → 0 < length text → IsToken (unquoted text)
safe_token text each some = record {
  symbols = record { symbols = map Char text; each = each_in text each; written = chars_written text };
  some = λ _. some;
}

pub marker_token : IsToken marker
marker_token = record {
  symbols = record { symbols = SimpleEscape 35 ∷ []; each = ((((omega arith, omega arith), inl (omega arith)), tt), tt); written = refl };
  some = λ _. omega arith;
}

hex_token : (octets : List ℕ) → AreOctets octets → AreTokens (map unquoted (hex_words octets))
hex_token [] are = tt
hex_token (octet ∷ octets) are =
    let word = octet ∷ octets in
    (safe_token (hex_of word) (subst (λ (l : List ℕ). AllByRecursion IsSafe l) (hex_encoded word are) (safe_16 word are)) (omega arith), tt)

pub unknown_are : (octets : List ℕ) → AreOctets octets → length octets < 2 ^ 64
    → AreTokens (unquoted (decimal (length octets)) ∷ map unquoted (hex_words octets))
unknown_are octets are small =
    (safe_token (decimal (length octets)) (safe_decimal (length octets) small) (decimal_nonempty (length octets) small), hex_token octets are)

-- The new octets are the row with the word, and with these tokens in place of its data.
pub tokens_row : (first : Token) (tokens : List Token) {row : TokenRow} {front data' : List Token} {word : Token} {other text octets new : List ℕ}
    → Rewrites row front word data' other text octets new → text ≡ spaced_text (first ∷ tokens) → word.quoted ≡ false
    → (0 < length front) ⊎ (row.blank_led ≡ true) → IsToken (unquoted other) → IsToken first → AreTokens tokens
    → AreRow new (with_tokens row (front ++ unquoted other ∷ first ∷ tokens))
tokens_row first tokens {row} {front} {data'} {word} {other} {text} {octets} {new} makes text_is bare begins is is_first each =
    let type_bare : makes.type_part.token.quoted ≡ false = ap (λ (t : Token). t.quoted) makes.type_is ∙ bare in
    let made = rewritten_row makes.front_parts makes.type_part makes.data_parts makes.last other first tokens makes.are type_bare is is_first each in
    let start : (0 < length makes.front_parts) ⊎ (is_led (row_octets (makes.front_parts ++ makes.type_part ∷ makes.data_parts) makes.last) ≡ true) =
    elim begins [
      | inl some ↦ inl (omega (arith, some, ap (length {A = Token}) makes.front_is, length-map makes.front_parts (λ (p : Part). p.token)))
      | inr led ↦ inr (ap is_led (sym makes.written) ∙ sym makes.led ∙ led)
    ] in
    let same = rewritten_led makes.front_parts makes.type_part makes.data_parts makes.last other text makes.are type_bare start in
    let octets_are : rewritten_octets makes.front_parts makes.type_part makes.data_parts makes.last other (spaced_text (first ∷ tokens)) ≡ new =
    ap (rewritten_octets makes.front_parts makes.type_part makes.data_parts makes.last other) (sym text_is) ∙ sym makes.rewritten in
    record {
      is =
          subst (λ (l : List Token). Row false new (l ++ unquoted other ∷ first ∷ tokens) []) makes.front_is
          (subst (λ (l : List ℕ). Row false l (tokens_of makes.front_parts ++ unquoted other ∷ first ∷ tokens) []) octets_are made);
      led = makes.led ∙ ap is_led makes.written ∙ sym same ∙ ap is_led (sym makes.rewritten);
    }

words_octets : (words : List (List ℕ)) → map token_octets (map unquoted words) ≡ words
words_octets [] = refl
words_octets (word ∷ words) = ap (λ l. word ∷ l) (words_octets words)

-- So it is with the words of unknown data.
pub unknown_row : (content : List ℕ) {row : TokenRow} {front data' : List Token} {word : Token} {other octets new : List ℕ}
    → Rewrites row front word data' other (unknown_text content) octets new → word.quoted ≡ false
    → (0 < length front) ⊎ (row.blank_led ≡ true) → IsToken (unquoted other) → AreOctets content → length content < 2 ^ 64
    → AreRow new (with_tokens row (front ++ unquoted other ∷ general_tokens content))
unknown_row content makes bare begins is are small =
    tokens_row marker (unquoted (decimal (length content)) ∷ map unquoted (hex_words content)) makes
    (ap (join_with_byte 32) (sym (words_octets (unknown_words content)))) bare begins is marker_token (unknown_are content are small)
