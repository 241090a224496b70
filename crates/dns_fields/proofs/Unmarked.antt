-- No field is printed as the word `\#`, which marks data that is not looked into.
use Rattle.std.proofs.Common.{◌≡◌, ◌≢◌, ◌^◌, ◌&&◌, nat_lt, ℕ, Bool, true, false, List, [], ◌∷◌, ◌++◌, length, map, refl, sym, ◌∙◌, ap, arith, append_assoc}
use Rattle.std.specs.Prelude.{if◌then◌else◌, ⊤}
use Rattle.std.specs.List.{AllByRecursion, AllZip}
use Rattle.std.specs.Net.Addr.{segments_of}
use Rattle.std.specs.Net.Text.{ipv4_text, hex_groups_text}
use Rattle.std.proofs.NetLemmas.Alphabet.{All-ipv4_text, All-hex_groups_text}
use Rattle.dns_label.specs.declared.symbol.Symbol.TheVariants.{Char, SimpleEscape, DecimalEscape}
use Rattle.dns_label.specs.Symbol.{spelled, is_printable}
use Rattle.dns_label.specs.Printed.{is_special, printed_symbol, printed_label, printed_labels, printed_name}
use Rattle.dns_label.specs.Octets.{IsOctet}
use Rattle.dns_scan.specs.StringText.{quoted_text, unquoted_text}
use Rattle.dns_scan.specs.Encodings.{encoded_16, encoded_64}
use Rattle.dns_scan.specs.Token.{Token, marker}
use Rattle.dns_text.specs.DocumentRows.{WritesToken, quoted as between, unquoted as bare}
use Rattle.dns_fields.specs.Fields.{Field, number8, number16, number32, ipv4, ipv6, compressible, uncompressed, string, strings, tag, rest_text, rest16, rest64, field_octets, octets, IsField}
use Rattle.dns_fields.specs.Shown.{field_tokens, row_tokens, one_unless_empty}
use Rattle.dns_fields.proofs.PrintedTexts.{IsSafe, safe_decimal, safe_dotted, safe_colons, each_get, segments_small}
use Rattle.dns_fields.proofs.PrintedRows.{escaped_in_words, each_split, safe_16, safe_64}

-- the text is not that word
abbrev NoMark : List ℕ → Type 0
NoMark text = text ≡ 92 ∷ 35 ∷ [] → ⊥

-- the first text is not
abbrev pub FirstNoMark : List (List ℕ) → Type 0
FirstNoMark [] = ⊤
FirstNoMark (text ∷ texts) = NoMark text

-- so the first token that they are written by is not what marks such data
marker_text : {token : Token} {text : List ℕ} → WritesToken token text → token ≡ marker → text ≡ 92 ∷ 35 ∷ []
marker_text (between are) is = let e : true ≡ false = ap (λ (t : Token). t.quoted) is in absurd cc
marker_text (bare are some) is = ap (λ (t : Token). t.text) is

pub unmarked : (texts : List (List ℕ)) (tokens : List Token) → FirstNoMark texts → AllZip WritesToken tokens texts → (words : List Token)
    → tokens ≡ marker ∷ words → ⊥
unmarked [] [] none writes words is = cc
unmarked [] (token ∷ tokens) none writes words is = writes
unmarked (text ∷ texts) [] none writes words is = writes
unmarked (text ∷ texts) (token ∷ tokens) none writes words is = let first : token ≡ marker = cc in none (marker_text writes.0 first)

safe_text : (text : List ℕ) → AllByRecursion IsSafe text → NoMark text
safe_text [] each is = cc
safe_text (c ∷ text) each is = let e : c ≡ 92 = cc in each.0.1 e

between_quotes : (text : List ℕ) → NoMark (quoted_text text)
between_quotes text is = let e : ◌≡◌ {A = ℕ} 34 92 = cc in omega (arith, e)

-- octets that a test tells apart
apart : (test : ℕ → Bool) (c other : ℕ) → (test c ≡ test other → ⊥) → c ≢ other
apart test c other differ same = differ (ap test same)

-- a name
label_first : (special visible : Bool) (c : ℕ) (rest : List ℕ) → (special ≡ true → c ≢ 35) → (special ≡ false → c ≢ 92)
    → NoMark (spelled (if special then SimpleEscape c else (if visible then Char c else DecimalEscape c)) ++ rest)
label_first true visible c rest escaped plain is = let e : c ≡ 35 = cc in escaped refl e
label_first false true c rest escaped plain is = let e : c ≡ 92 = cc in plain refl e
label_first false false c rest escaped plain is = omega (arith, ap (length {A = ℕ}) is)

label_text : (label rest : List ℕ) → NoMark (printed_label label ++ 46 ∷ rest)
label_text [] rest is = let e : ◌≡◌ {A = ℕ} 46 92 = cc in omega (arith, e)
label_text (c ∷ label) rest is =
    label_first (is_special c) (nat_lt 32 c && nat_lt c 127) c (printed_label label ++ 46 ∷ rest)
    (λ special. apart is_special c 35 (λ same. let bad : true ≡ false = sym special ∙ same in cc))
    (λ plain. apart is_special c 92 (λ same. let bad : false ≡ true = sym plain ∙ same in cc))
    (sym (append_assoc (spelled (printed_symbol c)) (printed_label label) (46 ∷ rest)) ∙ is)

name_text : (name : List (List ℕ)) → NoMark (printed_name name)
name_text [] is = let e : ◌≡◌ {A = ℕ} 46 92 = cc in omega (arith, e)
name_text (label ∷ parent) is = label_text label (printed_labels parent) is

-- a tag
tag_first : (printable escaped : Bool) (c : ℕ) (rest : List ℕ) → (escaped ≡ true → c ≢ 35) → (escaped ≡ false → c ≢ 92)
    → NoMark (spelled (if printable then (if escaped then SimpleEscape c else Char c) else DecimalEscape c) ++ rest)
tag_first true true c rest behind plain is = let e : c ≡ 35 = cc in behind refl e
tag_first true false c rest behind plain is = let e : c ≡ 92 = cc in plain refl e
tag_first false escaped c rest behind plain is = omega (arith, ap (length {A = ℕ}) is)

tag_text : (text : List ℕ) → NoMark (unquoted_text text)
tag_text [] is = cc
tag_text (c ∷ text) is =
    tag_first (is_printable c) (escaped_in_words c) c (unquoted_text text)
    (λ escaped. apart escaped_in_words c 35 (λ same. let bad : true ≡ false = sym escaped ∙ same in cc))
    (λ plain. apart escaped_in_words c 92 (λ same. let bad : false ≡ true = sym plain ∙ same in cc)) is

-- texts that may be none, before others
strings_first : (each others : List (List ℕ)) → FirstNoMark others → FirstNoMark (map quoted_text each ++ others)
strings_first [] others none = none
strings_first (text ∷ each) others none = between_quotes text

rest_first : (text : List ℕ) (others : List (List ℕ)) → AllByRecursion IsSafe text → FirstNoMark others
    → FirstNoMark (one_unless_empty text ++ others)
rest_first [] others each none = none
rest_first (c ∷ text) others each none = safe_text (c ∷ text) each

field_first : (field : Field) (others : List (List ℕ)) → IsField field → AllByRecursion IsOctet (field_octets field) → FirstNoMark others
    → FirstNoMark (field_tokens field ++ others)
field_first (number8 n) others is small none = safe_text _ (safe_decimal n (omega (arith, is)))
field_first (number16 n) others is small none = safe_text _ (safe_decimal n (omega (arith, is)))
field_first (number32 n) others is small none = safe_text _ (safe_decimal n (omega (arith, is)))
field_first (ipv4 text) others is small none =
    safe_text _ (safe_dotted (ipv4_text text) (All-ipv4_text text (each_get 256 text (omega arith) small)))
field_first (ipv6 text) others is small none =
    let below = each_get (2 ^ 16) (segments_of text) (omega arith) (segments_small text 8 is small).0 in
    safe_text _ (safe_colons (hex_groups_text (segments_of text)) (All-hex_groups_text (segments_of text) below))
field_first (compressible name) others is small none = name_text name
field_first (uncompressed name) others is small none = name_text name
field_first (string text) others is small none = between_quotes text
field_first (strings each) others is small none = strings_first each others none
field_first (tag text) others is small none = tag_text text
field_first (rest_text text) others is small none = between_quotes text
field_first (rest16 text) others is small none = rest_first (encoded_16 text) others (safe_16 text small) none
field_first (rest64 text) others is small none = rest_first (encoded_64 text) others (safe_64 text small) none

pub row_first : (row : List Field) → AllByRecursion IsField row → AllByRecursion IsOctet (octets row) → FirstNoMark (row_tokens row)
row_first [] each small = tt
row_first (field ∷ row) each small =
    let both = each_split IsOctet (field_octets field) (octets row) small in
    field_first field (row_tokens row) each.0 both.0 (row_first row each.1 both.1)
