-- The tokens that a row is printed as are scanned as it.
use Rattle.std.proofs.Common.{◌≡◌, ◌≢◌, ◌^◌, ◌==◌, ◌||◌, ℕ, Bool, true, false, List, [], ◌∷◌, ◌++◌, map, decimal, refl, sym, ◌∙◌, subst, arith, append_assoc, append-nil}
use Rattle.std.specs.Prelude.{if◌then◌else◌}
use Rattle.std.specs.List.{AllByRecursion, AllZip, flat_map}
use Rattle.std.specs.Net.Addr.{segments_of}
use Rattle.std.specs.Net.Text.{ipv4_text, hex_groups_text}
use Rattle.std.proofs.NetLemmas.Texts.{IsDotted-ipv4_text, IsColonHex-hex_groups_text}
use Rattle.std.proofs.NetLemmas.Alphabet.{All-ipv4_text, All-hex_groups_text}
use Rattle.dns_octets.proofs.Addresses.{octets_of-segments_of}
use Rattle.dns_label.specs.declared.symbol.Symbol.TheVariants.{Char, SimpleEscape, DecimalEscape}
use Rattle.dns_label.specs.Symbol.{spelled, is_printable}
use Rattle.dns_label.specs.Name.{IsName, wire}
use Rattle.dns_label.specs.Printed.{is_special, printed_symbol, printed_label, printed_labels, printed_name}
use Rattle.dns_label.specs.Octets.{AreOctets, IsOctet}
use Rattle.dns_scan.specs.StringText.{Spells, SpellsOnly, between_quotes, quoted_text, unquoted_text}
use Rattle.dns_scan.specs.declared.encoding.base.Base.TheVariants.{Sixteen, SixtyFour}
use Rattle.dns_scan.specs.Encodings.{encoded_16, encoded_64, Decodes16, Decodes64}
use Rattle.dns_scan.specs.Token.{Token, IsWord, IsEntry}
use Rattle.dns_scan.proofs.Encodings.{text_decodes_only, chars-encoded}
use Rattle.dns_text.specs.DocumentRows.{WritesToken}
use Rattle.dns_scan.specs.CharStr.{string_wire}
use Rattle.dns_fields.specs.Fields.{Field, number8, number16, number32, ipv4, ipv6, compressible, uncompressed, string, strings, tag, rest_text, rest16, rest64, kind_of, field_octets, octets, IsField, IsString, IsRow}
use Rattle.dns_fields.specs.Shown.{row_tokens, one_unless_empty}
use Rattle.dns_fields.specs.Scanned.{AreStrings, ScansField, ScansRow, ScansData}
use Rattle.dns_fields.proofs.ComposedRows.{EndWell, Fit, fits}
use Rattle.dns_fields.proofs.PrintedTexts.{NoQuote, IsSafe, bare_token, word_token, quoted_token, safe_decimal, number_back, safe_dotted, safe_colons, each_get, segments_small, safe_decoded}

pub each_split : (P : ℕ → Type 0) (front rest : List ℕ) → AllByRecursion P (front ++ rest) → AllByRecursion P front × AllByRecursion P rest
each_split P [] rest each = (tt, each)
each_split P (first ∷ front) rest each = let on = each_split P front rest each.1 in ((each.0, on.0), on.1)

-- the octets of a name's labels
pub wire_octets : (name : List (List ℕ)) → AllByRecursion IsOctet (wire name) → AllByRecursion AreOctets name
wire_octets [] each = tt
wire_octets (label ∷ parent) each =
    let both = each_split IsOctet label (wire parent) each.1 in (both.0, wire_octets parent both.1)

-- no name is printed with a quote first
label_first : (special visible : Bool) (c : ℕ) (rest : List ℕ) → (special ≡ false → c ≢ 34)
    → NoQuote (spelled (if special then SimpleEscape c else (if visible then Char c else DecimalEscape c)) ++ rest)
label_first true visible c rest other behind is = let e : ◌≡◌ {A = ℕ} 92 34 = cc in omega (arith, e)
label_first false true c rest other behind is = let e : c ≡ 34 = cc in other refl e
label_first false false c rest other behind is = let e : ◌≡◌ {A = ℕ} 92 34 = cc in omega (arith, e)

no_special : (c : ℕ) → is_special c ≡ false → c ≢ 34
no_special c is same = let bad : is_special 34 ≡ false = subst (λ n. is_special n ≡ false) same is in cc

labels_no_quote : (label : List ℕ) (rest : List ℕ) → NoQuote (printed_label label ++ 46 ∷ rest)
labels_no_quote [] rest behind is = let e : ◌≡◌ {A = ℕ} 46 34 = cc in omega (arith, e)
labels_no_quote (c ∷ label) rest behind is =
    label_first (is_special c) _ c (printed_label label ++ 46 ∷ rest) (no_special c) behind
    (sym (append_assoc (spelled (printed_symbol c)) (printed_label label) (46 ∷ rest)) ∙ is)

name_no_quote : (name : List (List ℕ)) → NoQuote (printed_name name)
name_no_quote [] behind is = let e : ◌≡◌ {A = ℕ} 46 34 = cc in omega (arith, e)
name_no_quote (label ∷ parent) behind is = labels_no_quote label (printed_labels parent) behind is

-- nor is a tag
tag_first : (printable escaped : Bool) (c : ℕ) (rest : List ℕ) → (escaped ≡ false → c ≢ 34)
    → NoQuote (spelled (if printable then (if escaped then SimpleEscape c else Char c) else DecimalEscape c) ++ rest)
tag_first true true c rest other behind is = let e : ◌≡◌ {A = ℕ} 92 34 = cc in omega (arith, e)
tag_first true false c rest other behind is = let e : c ≡ 34 = cc in other refl e
tag_first false escaped c rest other behind is = let e : ◌≡◌ {A = ℕ} 92 34 = cc in omega (arith, e)

-- what a word has after a backslash
abbrev pub escaped_in_words : ℕ → Bool
escaped_in_words octet =
    (octet == 32) || ((octet == 34) || ((octet == 40) || ((octet == 41) || ((octet == 59) || (octet == 92)))))

no_escaped : (c : ℕ) → escaped_in_words c ≡ false → c ≢ 34
no_escaped c is same = let bad : escaped_in_words 34 ≡ false = subst (λ n. escaped_in_words n ≡ false) same is in cc

tag_no_quote : (text : List ℕ) → NoQuote (unquoted_text text)
tag_no_quote [] behind is = cc
tag_no_quote (c ∷ text) behind is = tag_first (is_printable c) (escaped_in_words c) c (unquoted_text text) (no_escaped c) behind is

-- what quoted and unquoted tokens spell
module _ (quoted : (text : List ℕ) → AllByRecursion IsOctet text → SpellsOnly (between_quotes text) text) where
  quoted_spells : {token : Token} (text : List ℕ) → AllByRecursion IsOctet text → WritesToken token (quoted_text text) → Spells token.text text
  quoted_spells text each writes =
      subst (λ t. Spells t text) (sym (quoted_token (between_quotes text) writes refl)) (quoted text each).spells

  strings_back : (each : List (List ℕ)) (tokens : List Token) → AllByRecursion IsString each → AllByRecursion IsOctet (flat_map string_wire each)
      → AllZip WritesToken tokens (map quoted_text each) → AreStrings tokens each
  strings_back [] [] short small writes = tt
  strings_back [] (token ∷ tokens) short small writes = absurd writes
  strings_back (text ∷ each) [] short small writes = absurd writes
  strings_back (text ∷ each) (token ∷ tokens) short small writes =
      let both = each_split IsOctet (string_wire text) (flat_map string_wire each) small in (
        record { spells = quoted_spells text both.0.1 writes.0; short = short.0 },
        strings_back each tokens short.1 both.1 writes.1,
      )

unquoted_spells : ((text : List ℕ) → AllByRecursion IsOctet text → SpellsOnly (unquoted_text text) text) → {token : Token} (text : List ℕ)
    → AllByRecursion IsOctet text → WritesToken token (unquoted_text text) → Spells token.text text
unquoted_spells spelled {token} text each writes =
    subst (λ (t : Token). Spells t.text text) (sym (bare_token writes (tag_no_quote text))) (spelled text each).spells

rest_back : (text : List ℕ) (tokens : List Token) → AllByRecursion IsSafe text → AllZip WritesToken tokens (one_unless_empty text ++ [])
    → IsEntry IsWord tokens text
rest_back [] [] safe writes = refl
rest_back [] (token ∷ tokens) safe writes = absurd writes
rest_back (c ∷ text) [] safe writes = absurd writes
rest_back (c ∷ text) (token ∷ []) safe writes = (c ∷ text, [], word_token writes.0 safe, refl, sym (append-nil (c ∷ text)))
rest_back (c ∷ text) (token ∷ (more ∷ tokens)) safe writes = absurd writes.1

pub safe_16 : (octets : List ℕ) → AllByRecursion IsOctet octets → AllByRecursion IsSafe (encoded_16 octets)
safe_16 octets each =
    safe_decoded Sixteen (encoded_16 octets) octets
    (subst (λ l. Decodes16 l octets) (chars-encoded Sixteen octets) (text_decodes_only Sixteen octets each).decodes)

pub safe_64 : (octets : List ℕ) → AllByRecursion IsOctet octets → AllByRecursion IsSafe (encoded_64 octets)
safe_64 octets each =
    safe_decoded SixtyFour (encoded_64 octets) octets
    (subst (λ l. Decodes64 l octets) (chars-encoded SixtyFour octets) (text_decodes_only SixtyFour octets each).decodes)

module _ (names : List ℕ → List (List ℕ) → Type 0) where
  -- a field of one token, and a row after it
  next : (field : Field) (row : List Field) (text : List ℕ) (tokens : List Token) → AllZip WritesToken tokens (text ∷ row_tokens row)
      → ((token : Token) (behind : List Token) → WritesToken token text → ScansField names field (token ∷ behind) behind)
      → ((behind : List Token) → AllZip WritesToken behind (row_tokens row) → ScansRow names row behind [])
      → ScansRow names (field ∷ row) tokens []
  next field row text [] writes first others = absurd writes
  next field row text (token ∷ behind) writes first others = (behind, first token behind writes.0, others behind writes.1)

module _ (in_quotes : (text : List ℕ) → AllByRecursion IsOctet text → SpellsOnly (between_quotes text) text)
    (in_words : (text : List ℕ) → AllByRecursion IsOctet text → SpellsOnly (unquoted_text text) text)
    (names : List ℕ → List (List ℕ) → Type 0)
    (named : (name : List (List ℕ)) → IsName name → AllByRecursion AreOctets name → names (printed_name name) name) where
  row_back : (row : List Field) (tokens : List Token) → AllByRecursion IsField row → EndWell (map kind_of row)
      → AllByRecursion IsOctet (octets row) → AllZip WritesToken tokens (row_tokens row) → ScansRow names row tokens []
  row_back [] [] each well small writes = refl
  row_back [] (token ∷ tokens) each well small writes = absurd writes
  row_back (number8 n ∷ row) tokens each well small writes =
      next names (number8 n) row (decimal n) tokens writes
      (λ token behind one. record {
        text = decimal n;
        takes = record { token = token; is = refl; fits = word_token one (safe_decimal n (omega (arith, each.0))) };
        reads_as = number_back (2 ^ 8) n each.0 (omega (arith, each.0));
      })
      (λ behind others. row_back row behind each.1 well small.1 others)
  row_back (number16 n ∷ row) tokens each well small writes =
      next names (number16 n) row (decimal n) tokens writes
      (λ token behind one. record {
        text = decimal n;
        takes = record { token = token; is = refl; fits = word_token one (safe_decimal n (omega (arith, each.0))) };
        reads_as = number_back (2 ^ 16) n each.0 (omega (arith, each.0));
      })
      (λ behind others. row_back row behind each.1 well (each_split IsOctet (field_octets (number16 n)) (octets row) small).1 others)
  row_back (number32 n ∷ row) tokens each well small writes =
      next names (number32 n) row (decimal n) tokens writes
      (λ token behind one. record {
        text = decimal n;
        takes = record { token = token; is = refl; fits = word_token one (safe_decimal n (omega (arith, each.0))) };
        reads_as = number_back (2 ^ 32) n each.0 (omega (arith, each.0));
      })
      (λ behind others. row_back row behind each.1 well (each_split IsOctet (field_octets (number32 n)) (octets row) small).1 others)
  row_back (ipv4 text ∷ row) tokens each well small writes =
      let both = each_split IsOctet text (octets row) small in
      let below = each_get 256 text (omega arith) both.0 in
      next names (ipv4 text) row (ipv4_text text) tokens writes
      (λ token behind one. (
        ipv4_text text,
        record { token = token; is = refl; fits = word_token one (safe_dotted (ipv4_text text) (All-ipv4_text text below)) },
        IsDotted-ipv4_text text each.0 below,
      ))
      (λ behind others. row_back row behind each.1 well both.1 others)
  row_back (ipv6 text ∷ row) tokens each well small writes =
      let both = each_split IsOctet text (octets row) small in
      let segments = segments_small text 8 each.0 both.0 in
      let below = each_get (2 ^ 16) (segments_of text) (omega arith) segments.0 in
      next names (ipv6 text) row (hex_groups_text (segments_of text)) tokens writes
      (λ token behind one. (
        hex_groups_text (segments_of text),
        segments_of text,
        record { token = token; is = refl; fits = word_token one (safe_colons (hex_groups_text (segments_of text)) (All-hex_groups_text (segments_of text) below)) },
        IsColonHex-hex_groups_text (segments_of text) segments.1 below,
        sym (octets_of-segments_of text 8 each.0 (each_get 256 text (omega arith) both.0)),
      ))
      (λ behind others. row_back row behind each.1 well both.1 others)
  row_back (compressible name ∷ row) tokens each well small writes =
      let both = each_split IsOctet (wire name) (octets row) small in
      next names (compressible name) row (printed_name name) tokens writes
      (λ token behind one. (
        printed_name name,
        (let is = bare_token one (name_no_quote name) in λ i. is i ∷ behind),
        named name each.0 (wire_octets name both.0),
      ))
      (λ behind others. row_back row behind each.1 well both.1 others)
  row_back (uncompressed name ∷ row) tokens each well small writes =
      let both = each_split IsOctet (wire name) (octets row) small in
      next names (uncompressed name) row (printed_name name) tokens writes
      (λ token behind one. (
        printed_name name,
        (let is = bare_token one (name_no_quote name) in λ i. is i ∷ behind),
        named name each.0 (wire_octets name both.0),
      ))
      (λ behind others. row_back row behind each.1 well both.1 others)
  row_back (string text ∷ row) tokens each well small writes =
      let both = each_split IsOctet text (octets row) small.1 in
      next names (string text) row (quoted_text text) tokens writes
      (λ token behind one. record { token = token; is = refl; fits = record { spells = quoted_spells in_quotes text both.0 one; short = each.0 } })
      (λ behind others. row_back row behind each.1 well both.1 others)
  row_back (tag text ∷ row) tokens each well small writes =
      let both = each_split IsOctet text (octets row) small.1 in
      next names (tag text) row (unquoted_text text) tokens writes
      (λ token behind one. record { token = token; is = refl; fits = record { spells = unquoted_spells in_words text both.0 one; short = each.0 } })
      (λ behind others. row_back row behind each.1 well both.1 others)
  row_back (rest_text text ∷ []) tokens each well small writes =
      next names (rest_text text) [] (quoted_text text) tokens writes
      (λ token behind one. record { token = token; is = refl; fits = quoted_spells in_quotes text (each_split IsOctet text [] small).0 one })
      (λ behind others. row_back [] behind tt tt tt others)
  row_back (strings texts ∷ []) tokens each well small writes = (
    [],
    (
      each.0.0,
      strings_back in_quotes texts tokens each.0.1 (each_split IsOctet (flat_map string_wire texts) [] small).0
          (subst (λ (l : List (List ℕ)). AllZip WritesToken tokens l) (append-nil (map quoted_text texts)) writes),
      refl,
    ),
    refl,
  )
  row_back (rest16 text ∷ []) tokens each well small writes =
      let are = (each_split IsOctet text [] small).0 in (
        [],
        (
          encoded_16 text,
          rest_back (encoded_16 text) tokens (safe_16 text are) writes,
          (text_decodes_only Sixteen text are).decodes,
          refl,
        ),
        refl,
      )
  row_back (rest64 text ∷ []) tokens each well small writes =
      let are = (each_split IsOctet text [] small).0 in (
        [],
        (
          encoded_64 text,
          rest_back (encoded_64 text) tokens (safe_64 text are) writes,
          (text_decodes_only SixtyFour text are).decodes,
          refl,
        ),
        refl,
      )
  row_back (strings texts ∷ (field ∷ row)) tokens each well small writes = absurd well
  row_back (rest_text text ∷ (field ∷ row)) tokens each well small writes = absurd well
  row_back (rest16 text ∷ (field ∷ row)) tokens each well small writes = absurd well
  row_back (rest64 text ∷ (field ∷ row)) tokens each well small writes = absurd well

pub data_back : ((text : List ℕ) → AllByRecursion IsOctet text → SpellsOnly (between_quotes text) text)
    → ((text : List ℕ) → AllByRecursion IsOctet text → SpellsOnly (unquoted_text text) text) → (names : List ℕ → List (List ℕ) → Type 0) (rtype : ℕ) (row : List Field) (tokens : List Token) → IsRow rtype row
    → AllByRecursion IsOctet (octets row)
    → ((name : List (List ℕ)) → IsName name → AllByRecursion AreOctets name → names (printed_name name) name)
    → AllZip WritesToken tokens (row_tokens row) → ScansData names rtype row tokens []
data_back in_quotes in_words names rtype row tokens is small named writes = record {
  kinds = is.kinds;
  scanned = row_back in_quotes in_words names named row tokens is.each (subst Fit is.kinds (fits rtype)) small writes;
  short = omega (arith, is.short);
}
