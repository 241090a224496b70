-- What data of any type is printed as: rows of a text, and tokens that are scanned as this data alone.
use Rattle.std.proofs.Common.{◌≡◌, ◌<◌, ◌^◌, ◌==◌, ℕ, Bool, true, false, List, [], ◌∷◌, ◌++◌, length, map, decimal, Option, Some, None, inl, refl, sym, ◌∙◌, ap, subst, arith, append_assoc, append-nil}
use Rattle.std.specs.Prelude.{if◌then◌else◌, ⊤}
use Rattle.std.specs.List.{AllByRecursion, AllZip}
use Rattle.dns_label.specs.declared.symbol.Symbol.TheVariants.{SimpleEscape}
use Rattle.dns_name.specs.Unknown.{UnknownData}
use Rattle.dns_name.specs.UnknownText.{hex_words}
use Rattle.dns_text.specs.ScanBase.TheVariants.{Sixteen}
use Rattle.dns_text.specs.Base.{Decodes}
use Rattle.dns_text.specs.Encodings.{encoded_16}
use Rattle.dns_label.specs.Octets.{IsOctet}
use Rattle.dns_text.specs.Token.{Token, IsEntry, IsWord, marker}
use Rattle.dns_text.specs.UnknownData.{IsUnknownData}
use Rattle.dns_text.proofs.HexWords.{hex_encoded}
use Rattle.dns_text.proofs.Encodings.{encoded_decodes, decodes_one, text_decodes_only}
use Rattle.dns_text.specs.Document.{Piece}
use Rattle.dns_text.specs.Document.Piece.{Token as token_piece, Comment, Close, Newline}
use Rattle.dns_text.specs.DocumentRows.{HasRows, WritesToken}
use Rattle.dns_text.specs.DocumentRows.HasRows.{none, token, comment, open', close, newline}
use Rattle.dns_text.specs.Tokens.{has_feed}
use Rattle.dns_fields.specs.Fields.{Field, octets, IsRow}
use Rattle.dns_fields.specs.Scanned.{ScansData}
use Rattle.dns_fields.specs.Shown.{comments_of, commented, field_tokens, row_tokens, one_unless_empty}
use Rattle.dns_fields.specs.SpelledNames.{SpellOne, SpellPrinted}
use Rattle.dns_fields.proofs.PrintedTexts.{bare_token, word_token, safe_decimal, number_back}
use Rattle.dns_fields.proofs.PrintedRows.{safe_16}
use Rattle.dns_fields.proofs.PrintedTokens.{IsWritten, bare_written, no_symbols, one_more, number_written, rest_written, collected}
use Rattle.dns_fields.proofs.ScannedOnce.{left_one, decoded_one}
use Rattle.dns_fields.proofs.Unmarked.{row_first, unmarked}
use Rattle.dns_rdata.specs.Data.{Data, typed, unknown_data, number_of, document_of, ScansAnyData}
use Rattle.dns_rdata.specs.DataTokens.{IsAnyData, HasNoEmptyTag, tokens_of}

-- There are tokens that are written so.
marker_written : IsWritten (92 ∷ 35 ∷ [])
marker_written =
    bare_written (92 ∷ 35 ∷ [])
    (one_more (SimpleEscape 35) (((omega arith, omega arith), inl (omega arith)), tt) no_symbols) (omega arith)

-- octets have characters in base 16
encoded_some : (octet : ℕ) (text shown : List ℕ) → Decodes Sixteen shown (octet ∷ text) → 0 < length shown
encoded_some octet text [] decodes =
    let none : octet ∷ text ≡ [] = decodes_one Sixteen [] [] (octet ∷ text) (encoded_decodes Sixteen [] tt) decodes in absurd cc
encoded_some octet text (c ∷ shown) decodes = omega arith

one_written : (text : List ℕ) → 0 < length text → AllByRecursion IsWritten (one_unless_empty text) → IsWritten text
one_written [] some each = absurd (omega arith)
one_written (c ∷ text) some each = each.0

words_written : (text : List ℕ) → AllByRecursion IsOctet text → AllByRecursion IsWritten (hex_words text)
words_written [] small = tt
words_written (octet ∷ text) small =
    let shown : List ℕ = encoded_16 (octet ∷ text) in (
      subst IsWritten (hex_encoded (octet ∷ text) small)
          (one_written shown (encoded_some octet text shown (encoded_decodes Sixteen (octet ∷ text) small)) (rest_written shown (safe_16 (octet ∷ text) small))),
      tt,
    )

pub data_written : ((rtype : ℕ) (row : List Field) → IsRow rtype row → AllByRecursion IsOctet (octets row)
    → HasNoEmptyTag (typed rtype row) → (tokens : List Token) × AllZip WritesToken tokens (row_tokens row))
    → (rdata : Data) → IsAnyData rdata → HasNoEmptyTag rdata → (tokens : List Token) × AllZip WritesToken tokens (tokens_of rdata)
data_written row_written (typed number row) is some = row_written number row is.0 is.1 some
data_written row_written (unknown_data unknown) is some =
    collected (tokens_of (unknown_data unknown))
    (marker_written, (number_written (length unknown.octets) (omega (arith, is.0)), words_written unknown.octets is.1))

-- tokens before the first row
tokens_more : (texts : List (List ℕ)) (front : List Token) {depth : ℕ} {pieces : List Piece} {row : List Token} → AllZip WritesToken front texts
    → HasRows depth pieces (row ∷ []) → HasRows depth (map token_piece texts ++ pieces) ((front ++ row) ∷ [])
tokens_more [] [] writes rows = rows
tokens_more [] (first ∷ front) writes rows = absurd writes
tokens_more (text ∷ texts) [] writes rows = absurd writes
tokens_more (text ∷ texts) (first ∷ front) writes rows = token writes.0 (tokens_more texts front writes.1 rows)

-- tokens of texts and of others after them
record Split (texts others : List (List ℕ)) (tokens : List Token) : Type 0 where
  front : List Token
  back : List Token
  is : tokens ≡ front ++ back
  first : AllZip WritesToken front texts
  behind : AllZip WritesToken back others

split : (texts others : List (List ℕ)) (tokens : List Token) → AllZip WritesToken tokens (texts ++ others) → Split texts others tokens
split [] others tokens writes = record { front = []; back = tokens; is = refl; first = tt; behind = writes }
split (text ∷ texts) others [] writes = absurd writes
split (text ∷ texts) others (one ∷ tokens) writes =
    let on = split texts others tokens writes.1 in
    record { front = one ∷ on.front; back = on.back; is = ap (λ l. one ∷ l) on.is; first = (writes.0, on.first); behind = on.behind }

-- comments without a line feed
abbrev NoFeeds : List (Option (List ℕ)) → Type 0
NoFeeds [] = ⊤
NoFeeds (None ∷ comments) = NoFeeds comments
NoFeeds (Some text ∷ comments) = (has_feed text ≡ false) × NoFeeds comments

in_both : (test : Bool) (some other : List (Option (List ℕ))) → NoFeeds some → NoFeeds other → NoFeeds (if test then some else other)
in_both true some other is is' = is
in_both false some other is is' = is'

no_feeds : (rtype : ℕ) → NoFeeds (comments_of rtype)
no_feeds rtype = in_both (rtype == 6) _ _ (refl, (refl, (refl, (refl, (refl, tt))))) tt

-- the end of a block, and of its line
abbrev ends : List Piece
ends = Close ∷ Newline ∷ []

row_ends : HasRows 1 ends ([] ∷ [])
row_ends = close (newline none)

row_of : (tokens : List Token) (texts : List (List ℕ)) → AllZip WritesToken tokens texts → HasRows 1 (map token_piece texts ++ ends) (tokens ∷ [])
row_of tokens texts writes =
    subst (λ (l : List Token). HasRows 1 (map token_piece texts ++ ends) (l ∷ [])) (append-nil tokens) (tokens_more texts tokens writes row_ends)

commented_row : (comments : List (Option (List ℕ))) (row : List Field) (tokens : List Token) → NoFeeds comments
    → AllZip WritesToken tokens (row_tokens row) → HasRows 1 (commented comments row ++ ends) (tokens ∷ [])
commented_row [] row tokens none' writes = row_of tokens (row_tokens row) writes
commented_row (comment' ∷ comments) [] [] none' writes = row_ends
commented_row (comment' ∷ comments) [] (one ∷ tokens) none' writes = absurd writes
commented_row (None ∷ comments) (field ∷ row) tokens none' writes =
    let both = split (field_tokens field) (row_tokens row) tokens writes in
    let pieces : List Piece = map token_piece (field_tokens field) in
    let P : List Piece → Type 0 = λ l. HasRows 1 l ((both.front ++ both.back) ∷ []) in
    subst (λ (l : List Token). HasRows 1 (commented (None ∷ comments) (field ∷ row) ++ ends) (l ∷ [])) (sym both.is)
    (subst P (sym (append_assoc pieces (commented comments row) ends))
    (tokens_more (field_tokens field) both.front both.first (commented_row comments row both.back none' both.behind)))
commented_row (Some text ∷ comments) (field ∷ row) tokens none' writes =
    let both = split (field_tokens field) (row_tokens row) tokens writes in
    let pieces : List Piece = map token_piece (field_tokens field) in
    let P : List Piece → Type 0 = λ l. HasRows 1 l ((both.front ++ both.back) ∷ []) in
    subst (λ (l : List Token). HasRows 1 (commented (Some text ∷ comments) (field ∷ row) ++ ends) (l ∷ [])) (sym both.is)
    (subst P (sym (append_assoc pieces (Comment text ∷ commented comments row) ends))
    (tokens_more (field_tokens field) both.front both.first (comment none'.0 (commented_row comments row both.back none'.1 both.behind))))

-- The document of data, with a line end after it, is one row of these tokens.
pub data_row : (rdata : Data) (tokens : List Token) → AllZip WritesToken tokens (tokens_of rdata)
    → HasRows 0 (document_of rdata ++ Newline ∷ []) (tokens ∷ [])
data_row (typed number row) tokens writes =
    let pieces : List Piece = commented (comments_of number) row in
    open' (subst (λ (l : List Piece). HasRows 1 l (tokens ∷ [])) (sym (append_assoc pieces (Close ∷ []) (Newline ∷ [])))
    (commented_row (comments_of number) row tokens (no_feeds number) writes))
data_row (unknown_data unknown) tokens writes =
    let texts = tokens_of (unknown_data unknown) in
    open' (subst (λ (l : List Piece). HasRows 1 l (tokens ∷ [])) (sym (append_assoc (map token_piece texts) (Close ∷ []) (Newline ∷ [])))
    (row_of tokens texts writes))

-- the marker, the number and the octets
marker_bare : {token : Token} → WritesToken token (92 ∷ 35 ∷ []) → token ≡ marker
marker_bare writes = bare_token writes (λ rest is. let e : ◌≡◌ {A = ℕ} 92 34 = cc in omega (arith, e))

words_back : (text : List ℕ) (tokens : List Token) → AllByRecursion IsOctet text → AllZip WritesToken tokens (hex_words text)
    → IsEntry IsWord tokens (encoded_16 text)
words_back [] [] small writes = refl
words_back [] (one ∷ tokens) small writes = absurd writes
words_back (octet ∷ text) [] small writes = absurd writes
words_back (octet ∷ text) (one ∷ []) small writes =
    let written = subst (WritesToken one) (sym (hex_encoded (octet ∷ text) small)) writes.0 in
    (encoded_16 (octet ∷ text), [], word_token written (safe_16 (octet ∷ text) small), refl, sym (append-nil (encoded_16 (octet ∷ text))))
words_back (octet ∷ text) (one ∷ (more ∷ tokens)) small writes = absurd writes.1

unknown_back : (text : List ℕ) (tokens : List Token) → length text < 2 ^ 16 → AllByRecursion IsOctet text
    → AllZip WritesToken tokens (decimal (length text) ∷ hex_words text) → IsUnknownData tokens text
unknown_back text [] short small writes = absurd writes
unknown_back text (number ∷ words) short small writes = record {
  words = words;
  number = record {
    text = decimal (length text);
    takes = record { token = number; is = refl; fits = word_token writes.0 (safe_decimal (length text) (omega (arith, short))) };
    reads_as = number_back (2 ^ 16) (length text) short (omega (arith, short));
  };
  text = encoded_16 text;
  joined = words_back text words small writes.1;
  decodes = (text_decodes_only Sixteen text small).decodes;
}

module _ (names : List ℕ → List (List ℕ) → Type 0) where
  unknown_data_back : (unknown : UnknownData) (tokens : List Token) → IsAnyData (unknown_data unknown)
      → AllZip WritesToken tokens (tokens_of (unknown_data unknown)) → ScansAnyData names unknown.number (unknown_data unknown) tokens []
  unknown_data_back unknown [] is writes = absurd writes
  unknown_data_back unknown (first ∷ words) is writes =
      let same = marker_bare writes.0 in
      (refl, words, (λ i. same i ∷ words), unknown_back unknown.octets words is.0 is.1 writes.1, refl)

  -- The tokens are scanned as this data,
  pub any_back : ((rtype : ℕ) (row : List Field) (tokens : List Token) → IsRow rtype row → AllByRecursion IsOctet (octets row)
      → SpellPrinted names → AllZip WritesToken tokens (row_tokens row) → ScansData names rtype row tokens [])
      → SpellPrinted names → (rdata : Data) (tokens : List Token) → IsAnyData rdata → AllZip WritesToken tokens (tokens_of rdata)
      → ScansAnyData names (number_of rdata) rdata tokens []
  any_back row_back printed (typed number row) tokens is writes =
      (unmarked (row_tokens row) tokens (row_first row is.0.each is.1) writes, refl, row_back number row tokens is.0 is.1 printed writes)
  any_back row_back printed (unknown_data unknown) tokens is writes = unknown_data_back unknown tokens is writes

  -- and any tokens as one data.
  unknown_one : (words others : List Token) (text other : List ℕ) → words ≡ others → IsUnknownData words text → IsUnknownData others other → text ≡ other
  unknown_one words others text other same is also =
      let also' = subst (λ (l : List Token). IsUnknownData l other) (sym same) also in
      let left : is.words ≡ also'.words = left_one is.number.takes also'.number.takes in
      decoded_one Sixteen is.words is.text also'.text text other is.joined is.decodes
      (subst (λ (l : List Token). IsEntry IsWord l also'.text) (sym left) also'.joined) also'.decodes

  pub any_one : ((rtype : ℕ) (row other : List Field) (tokens left rest : List Token) → SpellOne names → ScansData names rtype row tokens left
      → ScansData names rtype other tokens rest → (row ≡ other) × (left ≡ rest))
      → (rtype : ℕ) (rdata other : Data) (tokens left rest : List Token) → SpellOne names → ScansAnyData names rtype rdata tokens left
      → ScansAnyData names rtype other tokens rest → (rdata ≡ other) × (left ≡ rest)
  any_one row_one rtype (typed number row) (typed number' row') tokens left rest one scans also =
      let same = row_one rtype row row' tokens left rest one scans.2 also.2 in
      let numbers : number ≡ number' = scans.1 ∙ sym also.1 in
      ((λ i. typed (numbers i) (same.0 i)), same.1)
  any_one row_one rtype (typed number row) (unknown_data unknown) tokens left rest one scans also = absurd (scans.0 also.1 also.2)
  any_one row_one rtype (unknown_data unknown) (typed number row) tokens left rest one scans also = absurd (also.0 scans.1 scans.2)
  any_one row_one rtype (unknown_data unknown) (unknown_data unknown') tokens left rest one scans also =
      let both : marker ∷ scans.1 ≡ marker ∷ also.1 = sym scans.2 ∙ also.2 in
      let words : scans.1 ≡ also.1 = cc in
      let text = unknown_one scans.1 also.1 unknown.octets unknown'.octets words scans.3 also.3 in
      let numbers : unknown.number ≡ unknown'.number = scans.0 ∙ sym also.0 in
      ((λ i. unknown_data (record { number = numbers i; octets = text i })), scans.4 ∙ sym also.4)
