-- The texts that a row is printed as are those of tokens.
use Rattle.std.proofs.Common.{◌≡◌, ◌≢◌, ◌<◌, ◌^◌, ◌==◌, ◌&&◌, ◌||◌, nat_lt, ℕ, Bool, true, false, List, [], ◌∷◌, ◌++◌, length, map, decimal, inl, inr, refl, sym, ◌∙◌, ap, subst, arith, append_assoc, append-nil, length-append}
use Rattle.std.specs.Prelude.{if◌then◌else◌}
use Rattle.std.specs.List.{AllByRecursion, AllZip, flat_map}
use Rattle.std.specs.Net.Addr.{segments_of}
use Rattle.std.specs.Net.Text.{ipv4_text, hex_groups_text}
use Rattle.std.specs.Net.Grammar.{IsDotted, IsColonHex}
use Rattle.std.proofs.lemmas.Bool.Decides.{nat_tests}
use Rattle.std.proofs.lemmas.Fmt.{decimal_nonempty}
use Rattle.std.proofs.NetLemmas.Texts.{IsDotted-ipv4_text, IsColonHex-hex_groups_text}
use Rattle.std.proofs.NetLemmas.Alphabet.{All-ipv4_text, All-hex_groups_text}
use Rattle.dns_label.specs.declared.symbol.Symbol.{Symbol}
use Rattle.dns_label.specs.declared.symbol.Symbol.TheVariants.{Char, SimpleEscape, DecimalEscape}
use Rattle.dns_label.specs.Symbol.{IsPrintable, IsNoDigit, spelled, is_printable}
use Rattle.dns_label.specs.Printed.{is_special, printed_symbol, printed_label, printed_labels, printed_name}
use Rattle.dns_label.specs.Octets.{AreOctets, IsOctet}
use Rattle.dns_scan.specs.StringText.{between_quotes, quoted_text, unquoted_text}
use Rattle.dns_scan.specs.Encodings.{encoded_16, encoded_64}
use Rattle.dns_scan.specs.Token.{Token}
use Rattle.dns_text.specs.Tokens.{IsIn, stands_plain}
use Rattle.dns_text.specs.DocumentRows.{AreSymbols, WritesToken, quoted as between, unquoted as bare}
use Rattle.dns_scan.specs.CharStr.{string_wire}
use Rattle.dns_fields.specs.Fields.{Field, number8, number16, number32, ipv4, ipv6, compressible, uncompressed, string, strings, tag, rest_text, rest16, rest64, field_octets, octets, IsField}
use Rattle.dns_fields.specs.Shown.{field_tokens, row_tokens, one_unless_empty}
use Rattle.dns_fields.proofs.PrintedTexts.{IsSafe, safe_decimal, safe_dotted, safe_colons, each_get, segments_small}
use Rattle.dns_fields.proofs.PrintedRows.{escaped_in_words, each_split, wire_octets, safe_16, safe_64}

-- a token is written so
pub record IsWritten (text : List ℕ) : Type 0 where
  pub token : Token
  pub writes : WritesToken token text

pub bare_written : (text : List ℕ) → AreSymbols false text → 0 < length text → IsWritten text
bare_written text are some = record { token = _; writes = bare are some }

between_written : (text : List ℕ) → AreSymbols true text → IsWritten (34 ∷ text ++ 34 ∷ [])
between_written text are = record { token = _; writes = between are }

-- symbols, one after the other
pub no_symbols : {quoted : Bool} → AreSymbols quoted []
no_symbols = record { symbols = []; each = tt; written = refl }

pub one_more : {quoted : Bool} {rest : List ℕ} (symbol : Symbol) → IsIn quoted symbol → AreSymbols quoted rest → AreSymbols quoted (spelled symbol ++ rest)
one_more symbol is are = record {
  symbols = symbol ∷ are.symbols;
  each = (is, are.each);
  written = ap (λ l. spelled symbol ++ l) are.written;
}

-- a text of octets, each by its symbol, before another
each_more : {quoted : Bool} (by : ℕ → Symbol) (text : List ℕ) {rest : List ℕ} → ((octet : ℕ) → octet < 256 → IsIn quoted (by octet))
    → AllByRecursion IsOctet text → AreSymbols quoted rest → AreSymbols quoted (flat_map (λ octet. spelled (by octet)) text ++ rest)
each_more by [] each small are = are
each_more {quoted} by (octet ∷ text) {rest} each small are =
    subst (λ (l : List ℕ). AreSymbols quoted l) (sym (append_assoc (spelled (by octet)) (flat_map (λ octet. spelled (by octet)) text) rest))
    (one_more (by octet) (each octet small.0) (each_more by text each small.1 are))

each_alone : {quoted : Bool} (by : ℕ → Symbol) (text : List ℕ) → ((octet : ℕ) → octet < 256 → IsIn quoted (by octet))
    → AllByRecursion IsOctet text → AreSymbols quoted (flat_map (λ octet. spelled (by octet)) text)
each_alone {quoted} by text each small =
    subst (λ (l : List ℕ). AreSymbols quoted l) (append-nil (flat_map (λ octet. spelled (by octet)) text)) (each_more by text each small no_symbols)

-- words
safe_symbols : (text : List ℕ) → AllByRecursion IsSafe text → AreSymbols false text
safe_symbols [] each = no_symbols
safe_symbols (c ∷ text) each = one_more (Char c) ((each.0.0, each.0.1), each.0.2) (safe_symbols text each.1)

safe_written : (text : List ℕ) → AllByRecursion IsSafe text → 0 < length text → IsWritten text
safe_written text each some = bare_written text (safe_symbols text each) some

-- a symbol by what its octet is
symbol_in : (quoted printable escaped : Bool) (o : ℕ) → o < 256 → (printable ≡ true → IsPrintable o) → (escaped ≡ true → IsNoDigit o)
    → (escaped ≡ false → (o ≢ 92) × (stands_plain quoted o ≡ true))
    → IsIn quoted (if printable then (if escaped then SimpleEscape o else Char o) else DecimalEscape o)
symbol_in quoted true true o small print no_digit plain = ((print refl, no_digit refl), tt)
symbol_in quoted true false o small print no_digit plain = ((print refl, (plain refl).0), (plain refl).1)
symbol_in quoted false escaped o small print no_digit plain = (small, tt)

prints : (o : ℕ) → is_printable o ≡ true → IsPrintable o
prints o is = (grind (arith, nat_tests), grind (arith, nat_tests))

abbrev escaped_in_quotes : ℕ → Bool
escaped_in_quotes octet = (octet == 34) || (octet == 92)

no_digit_quotes : (o : ℕ) → escaped_in_quotes o ≡ true → IsNoDigit o
no_digit_quotes o is = grind (arith, nat_tests)

no_digit_words : (o : ℕ) → escaped_in_words o ≡ true → IsNoDigit o
no_digit_words o is = grind (arith, nat_tests)

not_by : (test : ℕ → Bool) (other : ℕ) → test other ≡ true → (o : ℕ) → test o ≡ false → o ≢ other
not_by test other holds o fails same = let bad : true ≡ false = sym holds ∙ ap test (sym same) ∙ fails in cc

plain_quotes : (o : ℕ) → escaped_in_quotes o ≡ false → stands_plain true o ≡ true
plain_quotes o is = grind (arith, nat_tests)

plain_words : (o : ℕ) → escaped_in_words o ≡ false → stands_plain false o ≡ true
plain_words o is = grind (arith, nat_tests)

quoted_written : (text : List ℕ) → AllByRecursion IsOctet text → IsWritten (quoted_text text)
quoted_written text small =
    between_written (between_quotes text)
    (each_alone (λ o. if is_printable o then (if escaped_in_quotes o then SimpleEscape o else Char o) else DecimalEscape o) text
    (λ o few. symbol_in true (is_printable o) (escaped_in_quotes o) o few (prints o) (no_digit_quotes o)
    (λ is. (not_by escaped_in_quotes 92 refl o is, plain_quotes o is))) small)

-- a symbol has some characters
symbol_some : (symbol : Symbol) (rest : List ℕ) → 0 < length (spelled symbol ++ rest)
symbol_some (Char c) rest = omega arith
symbol_some (SimpleEscape c) rest = omega arith
symbol_some (DecimalEscape n) rest = omega arith

tag_written : (text : List ℕ) → AllByRecursion IsOctet text → (tag text ≡ tag [] → ⊥) → IsWritten (unquoted_text text)
tag_written [] small some = absurd (some refl)
tag_written (c ∷ text) small some =
    bare_written (unquoted_text (c ∷ text))
    (each_alone (λ o. if is_printable o then (if escaped_in_words o then SimpleEscape o else Char o) else DecimalEscape o) (c ∷ text)
    (λ o few. symbol_in false (is_printable o) (escaped_in_words o) o few (prints o) (no_digit_words o)
    (λ is. (not_by escaped_in_words 92 refl o is, plain_words o is))) small)
    (symbol_some _ (unquoted_text text))

-- names
label_symbol : (special visible : Bool) (o : ℕ) → o < 256 → (special ≡ true → IsPrintable o × IsNoDigit o) → (visible ≡ true → IsPrintable o)
    → (special ≡ false → (o ≢ 92) × (stands_plain false o ≡ true))
    → IsIn false (if special then SimpleEscape o else (if visible then Char o else DecimalEscape o))
label_symbol true visible o small both print plain = (both refl, tt)
label_symbol false true o small both print plain = ((print refl, (plain refl).0), (plain refl).1)
label_symbol false false o small both print plain = (small, tt)

special_prints : (o : ℕ) → is_special o ≡ true → IsPrintable o × IsNoDigit o
special_prints o is = ((grind (arith, nat_tests), grind (arith, nat_tests)), grind (arith, nat_tests))

visible_prints : (o : ℕ) → (nat_lt 32 o && nat_lt o 127) ≡ true → IsPrintable o
visible_prints o is = (grind (arith, nat_tests), grind (arith, nat_tests))

plain_label : (o : ℕ) → is_special o ≡ false → stands_plain false o ≡ true
plain_label o is = grind (arith, nat_tests)

octet_printed : (o : ℕ) → o < 256 → IsIn false (printed_symbol o)
octet_printed o few =
    label_symbol (is_special o) (nat_lt 32 o && nat_lt o 127) o few (special_prints o) (visible_prints o)
    (λ is. (not_by is_special 92 refl o is, plain_label o is))

dot_in : IsIn false (Char 46)
dot_in = (((omega arith, omega arith), (λ same. omega (arith, same))), refl)

labels_in : (name : List (List ℕ)) → AllByRecursion AreOctets name → AreSymbols false (printed_labels name)
labels_in [] small = no_symbols
labels_in (label ∷ name) small = each_more printed_symbol label octet_printed small.0 (one_more (Char 46) dot_in (labels_in name small.1))

name_written : (name : List (List ℕ)) → AllByRecursion AreOctets name → IsWritten (printed_name name)
name_written [] small = bare_written (46 ∷ []) (one_more (Char 46) dot_in no_symbols) (omega arith)
name_written (label ∷ name) small =
    bare_written (printed_labels (label ∷ name)) (labels_in (label ∷ name) small)
    (omega (arith, length-append (printed_label label) (46 ∷ printed_labels name)))

-- addresses
some_last : (front last : List ℕ) → 0 < length last → 0 < length (front ++ last)
some_last front last some = omega (arith, some, length-append front last)

dotted_some : (text four : List ℕ) → IsDotted text four → 0 < length text
dotted_some text four is =
    subst (λ (l : List ℕ). 0 < length l) (sym is.spelled)
    (some_last _ (decimal is.d) (decimal_nonempty is.d (let small = is.fit.3 in omega (arith, small))))

colons_some : (text segments : List ℕ) → IsColonHex text segments → 0 < length text
colons_some text [] (inl groups) = absurd (omega (arith, groups.1))
colons_some text (segment ∷ segments) (inl (inl (group, rest, is, one, more), eight)) =
    omega (arith, one.0.0.0, ap (length {A = ℕ}) is, length-append group rest)
colons_some text (segment ∷ segments) (inl (inr (last, four, may, is, dotted, same), eight)) =
    omega (arith, ap (length {A = ℕ}) is, dotted_some last four dotted)
colons_some text segments (inr elided) =
    let marked : List ℕ = elided.head_text ++ 58 ∷ 58 ∷ [] in
    let whole : text ≡ marked ++ elided.tail_text = elided.spelled in
    omega (arith, ap (length {A = ℕ}) whole, length-append elided.head_text (58 ∷ 58 ∷ []), length-append marked elided.tail_text)

strings_written : (texts : List (List ℕ)) → AllByRecursion IsOctet (flat_map string_wire texts) → AllByRecursion IsWritten (map quoted_text texts)
strings_written [] small = tt
strings_written (text ∷ texts) small =
    let both = each_split IsOctet (string_wire text) (flat_map string_wire texts) small in
    (quoted_written text both.0.1, strings_written texts both.1)

pub rest_written : (text : List ℕ) → AllByRecursion IsSafe text → AllByRecursion IsWritten (one_unless_empty text)
rest_written [] each = tt
rest_written (c ∷ text) each = (safe_written (c ∷ text) each (omega arith), tt)

pub number_written : (n : ℕ) → n < 2 ^ 64 → IsWritten (decimal n)
number_written n wide = safe_written (decimal n) (safe_decimal n wide) (decimal_nonempty n wide)

field_written : (field : Field) → IsField field → (field ≡ tag [] → ⊥) → AllByRecursion IsOctet (field_octets field)
    → AllByRecursion IsWritten (field_tokens field)
field_written (number8 n) is some small = (number_written n (omega (arith, is)), tt)
field_written (number16 n) is some small = (number_written n (omega (arith, is)), tt)
field_written (number32 n) is some small = (number_written n (omega (arith, is)), tt)
field_written (ipv4 text) is some small =
    let below = each_get 256 text (omega arith) small in
    (safe_written (ipv4_text text) (safe_dotted (ipv4_text text) (All-ipv4_text text below)) (dotted_some (ipv4_text text) text (IsDotted-ipv4_text text is below)), tt)
field_written (ipv6 text) is some small =
    let segments = segments_small text 8 is small in
    let below = each_get (2 ^ 16) (segments_of text) (omega arith) segments.0 in
    let shown : List ℕ = hex_groups_text (segments_of text) in (
      safe_written shown (safe_colons shown (All-hex_groups_text (segments_of text) below))
          (colons_some shown (segments_of text) (IsColonHex-hex_groups_text (segments_of text) segments.1 below)),
      tt,
    )
field_written (compressible name) is some small = (name_written name (wire_octets name small), tt)
field_written (uncompressed name) is some small = (name_written name (wire_octets name small), tt)
field_written (string text) is some small = (quoted_written text small.1, tt)
field_written (strings texts) is some small = strings_written texts small
field_written (tag text) is some small = (tag_written text small.1 some, tt)
field_written (rest_text text) is some small = (quoted_written text small, tt)
field_written (rest16 text) is some small = rest_written (encoded_16 text) (safe_16 text small)
field_written (rest64 text) is some small = rest_written (encoded_64 text) (safe_64 text small)

all_written : (texts others : List (List ℕ)) → AllByRecursion IsWritten texts → AllByRecursion IsWritten others → AllByRecursion IsWritten (texts ++ others)
all_written [] others these those = those
all_written (text ∷ texts) others these those = (these.0, all_written texts others these.1 those)

row_written : (row : List Field) → AllByRecursion IsField row → AllByRecursion (λ field. field ≡ tag [] → ⊥) row
    → AllByRecursion IsOctet (octets row) → AllByRecursion IsWritten (row_tokens row)
row_written [] each some small = tt
row_written (field ∷ row) each some small =
    let both = each_split IsOctet (field_octets field) (octets row) small in
    all_written (field_tokens field) (row_tokens row) (field_written field each.0 some.0 both.0) (row_written row each.1 some.1 both.1)

pub collected : (texts : List (List ℕ)) → AllByRecursion IsWritten texts → (tokens : List Token) × AllZip WritesToken tokens texts
collected [] each = ([], tt)
collected (text ∷ texts) each = let others = collected texts each.1 in (each.0.token ∷ others.0, (each.0.writes, others.1))

pub row_has_tokens : (row : List Field) → AllByRecursion IsField row → AllByRecursion (λ field. field ≡ tag [] → ⊥) row
    → AllByRecursion IsOctet (octets row) → (tokens : List Token) × AllZip WritesToken tokens (row_tokens row)
row_has_tokens row each some small = collected (row_tokens row) (row_written row each some small)
