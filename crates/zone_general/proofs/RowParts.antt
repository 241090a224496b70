-- A row is its parts: its tokens with the octets before each, and what is after the last one. Parts are a row of any text that begins
-- with them.
use Rattle.std.proofs.Common.{◌≡◌, ◌<◌, ◌≤◌, ℕ, Bool, true, false, List, [], ◌∷◌, ◌++◌, length, if◌then◌else◌, Some, None, refl, sym, ◌∙◌, ap, subst, arith, append_assoc}
use Rattle.std.proofs.lemmas.Bool.{false≢true}
use Rattle.std.proofs.lemmas.Bool.Decides.{nat_tests}
use Rattle.std.specs.List.{AllByRecursion, flat_map}
use Rattle.dns_label.specs.declared.symbol.Symbol.{Symbol}
use Rattle.dns_label.specs.Symbol.{spelled}
use Rattle.dns_scan.specs.Token.{Token}
use Rattle.dns_text.specs.DocumentRows.{AreSymbols}
use Rattle.dns_text.specs.Tokens.{EndsToken, IsIn, Next, Row, from_feed, head_of, stands_plain}
use Rattle.dns_text.specs.Tokens.Head.{Quote}
use Rattle.dns_text.specs.Tokens.Next.{ended, quoted, unquoted}
use Rattle.dns_text.specs.Tokens.Next.{goes as goes_next, comment as comment_next}
use Rattle.dns_text.specs.Tokens.Row.{end, token}
use Rattle.dns_text.proofs.TokenSymbols.{ends_plain, symbol_first, word_head}
use Rattle.zone_general.specs.Parts.{AreParts, BeginsWithEnd, EndsRow, IsComment, IsGap, IsToken, Part, ends_word, row_octets, token_octets, tokens_of}
use Rattle.zone_general.specs.Parts.AreParts.{ended as no_parts, more}
use Rattle.zone_general.specs.Parts.IsComment.{nothing}
use Rattle.zone_general.specs.Parts.IsComment.{comment as commented}
use Rattle.zone_general.specs.Parts.IsGap.{none, goes, comment}
use Rattle.zone_general.proofs.RowGaps.{at_feed, comment_gap, comment_head, ends_next, feed_first, feed_head, gap_next, go_ends, quote_head}

-- the first octet of a token as it is written
pub record TokenFirst (found : Token) : Type 0 where
  pub octet : ℕ
  pub others : List ℕ
  pub is : token_octets found ≡ octet ∷ others
  pub prints : 32 ≤ octet
  pub stands : found.quoted ≡ false → stands_plain false octet ≡ true

word_first : (found : Token) (text : List ℕ) (symbols : List Symbol) → token_octets found ≡ text → AllByRecursion (IsIn false) symbols
    → text ≡ flat_map spelled symbols → 0 < length text → TokenFirst found
word_first found [] symbols is each written some = absurd (omega arith)
word_first found (octet ∷ text) [] is each written some = cc
word_first found (octet ∷ text) (symbol ∷ symbols) is each written some =
    let first = symbol_first false symbol octet text (flat_map spelled symbols) each.0 written in
    record { octet = octet; others = text; is = is; prints = first.0; stands = λ _. first.1 }

quoted_octets : (found : Token) (is_quoted : Bool) → found.quoted ≡ is_quoted
    → token_octets found ≡ (if is_quoted then 34 ∷ (found.text ++ 34 ∷ []) else found.text)
quoted_octets found is_quoted is = ap (λ (b : Bool). if b then 34 ∷ (found.text ++ 34 ∷ []) else found.text) is

pub token_first : (found : Token) → IsToken found → TokenFirst found
token_first found are = by found.quoted refl
  where
    by : (is_quoted : Bool) → found.quoted ≡ is_quoted → TokenFirst found
    by true is = record {
      octet = 34;
      others = found.text ++ 34 ∷ [];
      is = quoted_octets found true is;
      prints = omega arith;
      stands = λ e. absurd (false≢true (sym e ∙ is));
    }
    by false is =
        word_first found found.text are.symbols.symbols (quoted_octets found false is)
        (subst (λ (b : Bool). AllByRecursion (IsIn b) are.symbols.symbols) is are.symbols.each) are.symbols.written (are.some is)

-- A token and what is before it.
pub record TokenCut (inside : Bool) (text : List ℕ) (found : Token) (out : Bool) (rest : List ℕ) : Type 0 where
  pub gap : List ℕ
  pub is_gap : IsGap inside gap out
  pub is_token : IsToken found
  pub ends : found.quoted ≡ false → EndsToken false rest
  pub whole : text ≡ gap ++ (token_octets found ++ rest)

-- with a comment before it
commented_cut : {inside out : Bool} {rest : List ℕ} {found : Token} (text gap : List ℕ) → IsGap inside gap out → IsToken found
    → (found.quoted ≡ false → EndsToken false rest) → from_feed text ≡ gap ++ (token_octets found ++ rest)
    → TokenCut inside (59 ∷ text) found out rest
commented_cut {rest = rest} {found} text [] is_gap is ends whole =
    let first = token_first found is in
    let feed : first.octet ≡ 10 = feed_first text first.octet (first.others ++ rest) (whole ∙ ap (λ l. l ++ rest) first.is) in
    absurd (omega (arith, first.prints, feed))
commented_cut {rest = rest} {found} text (octet ∷ gap) is_gap is ends whole =
    let at = at_feed text in
    let behind = gap ++ (token_octets found ++ rest) in record {
      gap = 59 ∷ (at.comment ++ octet ∷ gap);
      is_gap = comment_gap (feed_first text octet behind whole) at.comment at.no_feed is_gap;
      is_token = is;
      ends = ends;
      whole = ap (λ l. 59 ∷ l) (at.whole ∙ ap (λ l. at.comment ++ l) whole ∙ sym (append_assoc at.comment (octet ∷ gap) (token_octets found ++ rest)));
    }

pub cut_token : {inside : Bool} {text : List ℕ} {found : Token} {out : Bool} {rest : List ℕ} → Next inside text (Some found) out rest
    → TokenCut inside text found out rest
cut_token (goes_next {text = text} octet behind head next) =
    let cut = cut_token next in record {
      gap = octet ∷ cut.gap;
      is_gap = goes head cut.is_gap;
      is_token = cut.is_token;
      ends = cut.ends;
      whole = ap (λ l. octet ∷ l) cut.whole;
    }
cut_token {inside} {found = found} {out = out} {rest = rest} (comment_next {text = text} octet head next) =
    let cut = cut_token next in
    subst (λ (n : ℕ). TokenCut inside (n ∷ text) found out rest) (sym (comment_head inside octet head))
    (commented_cut text cut.gap cut.is_gap cut.is_token cut.ends cut.whole)
cut_token {inside} {rest = rest} (quoted {text = text} {front = front} octet head run) = record {
  gap = [];
  is_gap = none;
  is_token = record {
    symbols = record { symbols = run.symbols; each = run.each; written = run.written };
    some = λ e. absurd (false≢true (sym e));
  };
  ends = λ e. absurd (false≢true (sym e));
  whole =
      let first : octet ≡ 34 = quote_head inside octet head in
      let behind : text ≡ (front ++ 34 ∷ []) ++ rest = run.whole ∙ sym (append_assoc front (34 ∷ []) rest) in
      cc;
}
cut_token (unquoted {text = text} octet head run some) = record {
  gap = [];
  is_gap = none;
  is_token = record {
    symbols = record { symbols = run.symbols; each = run.each; written = run.written };
    some = λ e. some;
  };
  ends = λ e. run.longest;
  whole = run.whole;
}

-- the end of a row
pub record EndCut (inside : Bool) (text rest : List ℕ) : Type 0 where
  pub last : List ℕ
  pub ends : EndsRow inside last
  pub whole : text ≡ last ++ rest

-- with a comment before it
commented_end : (inside : Bool) (text rest gap words : List ℕ) → IsGap inside gap false → IsComment words
    → from_feed text ≡ gap ++ (words ++ 10 ∷ rest) → EndCut inside (59 ∷ text) rest
commented_end true text rest [] words is_gap is_comment whole = elim is_gap [ ]
commented_end false text rest [] _ is_gap nothing whole =
    let at = at_feed text in record {
      last = 59 ∷ (at.comment ++ 10 ∷ []);
      ends = record {
        gap = [];
        comment = 59 ∷ at.comment;
        is_gap = none;
        is_comment = commented at.no_feed;
        written = refl;
      };
      whole = ap (λ l. 59 ∷ l) (at.whole ∙ ap (λ l. at.comment ++ l) whole ∙ sym (append_assoc at.comment (10 ∷ []) rest));
    }
commented_end false text rest [] _ is_gap (commented {text = others} no_feed) whole =
    let bad : 59 ≡ 10 = feed_first text 59 (others ++ 10 ∷ rest) whole in absurd (omega (arith, bad))
commented_end inside text rest (octet ∷ gap) words is_gap is_comment whole =
    let at = at_feed text in
    let behind = words ++ 10 ∷ rest in record {
      last = 59 ∷ (at.comment ++ octet ∷ gap) ++ (words ++ 10 ∷ []);
      ends = record {
        gap = 59 ∷ (at.comment ++ octet ∷ gap);
        comment = words;
        is_gap = comment_gap (feed_first text octet (gap ++ behind) whole) at.comment at.no_feed is_gap;
        is_comment = is_comment;
        written = refl;
      };
      whole = ap (λ l. 59 ∷ l) (at.whole ∙ ap (λ l. at.comment ++ l) whole) ∙ simp append_assoc;
    }

end_whole : (text rest : List ℕ) {inside : Bool} (cut : EndCut inside text rest)
    → text ≡ cut.ends.gap ++ (cut.ends.comment ++ 10 ∷ rest)
end_whole text rest cut = cut.whole ∙ ap (λ l. l ++ rest) cut.ends.written ∙ simp append_assoc

pub cut_end : {inside out : Bool} {text rest : List ℕ} → Next inside text None out rest → EndCut inside text rest
cut_end {inside} {rest = rest} (ended octet head) =
    let is = feed_head inside octet head in
    subst (λ (n : ℕ). EndCut inside (n ∷ rest) rest) (sym is.1) (subst (λ (b : Bool). EndCut b (10 ∷ rest) rest) (sym is.0)
    (record { last = 10 ∷ []; ends = record { gap = []; comment = []; is_gap = none; is_comment = nothing; written = refl }; whole = refl }))
cut_end (goes_next {text = text} octet behind head next) =
    let cut = cut_end next in record {
      last = octet ∷ cut.last;
      ends = record {
        gap = octet ∷ cut.ends.gap;
        comment = cut.ends.comment;
        is_gap = goes head cut.ends.is_gap;
        is_comment = cut.ends.is_comment;
        written = ap (λ l. octet ∷ l) cut.ends.written;
      };
      whole = ap (λ l. octet ∷ l) cut.whole;
    }
cut_end {inside} {rest = rest} (comment_next {text = text} octet head next) =
    let cut = cut_end next in
    subst (λ (n : ℕ). EndCut inside (n ∷ text) rest) (sym (comment_head inside octet head))
    (commented_end inside text rest cut.ends.gap cut.ends.comment cut.ends.is_gap cut.ends.is_comment (end_whole (from_feed text) rest cut))

-- A row as its parts.
pub record RowCut (inside : Bool) (text : List ℕ) (tokens : List Token) (rest : List ℕ) : Type 0 where
  pub parts : List Part
  pub last : List ℕ
  pub are : AreParts inside parts last
  pub tokens_are : tokens_of parts ≡ tokens
  pub whole : text ≡ row_octets parts last ++ rest

-- what may be after an unquoted token begins with an octet that ends it
pub gap_begins : {inside out : Bool} {octet : ℕ} {gap : List ℕ} → IsGap inside (octet ∷ gap) out → ends_word octet ≡ true
gap_begins {inside} {octet = octet} (goes {behind = behind} head first) = go_ends inside behind octet head
gap_begins (comment text no_feed first) = refl

pub begins_at : {octet : ℕ} (rest : List ℕ) → ends_word octet ≡ true → BeginsWithEnd (octet ∷ rest)
begins_at {octet} rest ends = record { octet = octet; rest = rest; is = refl; ends = ends }

comment_begins : {words : List ℕ} (rest : List ℕ) → IsComment words → BeginsWithEnd (words ++ 10 ∷ rest)
comment_begins rest nothing = begins_at rest refl
comment_begins rest (commented {text = words} no_feed) = begins_at (words ++ 10 ∷ rest) refl

end_begins : {inside : Bool} (gap words : List ℕ) → IsGap inside gap false → IsComment words → BeginsWithEnd (gap ++ (words ++ 10 ∷ []))
end_begins [] words is_gap is_comment = comment_begins [] is_comment
end_begins (octet ∷ gap) words is_gap is_comment = begins_at (gap ++ (words ++ 10 ∷ [])) (gap_begins is_gap)

pub ends_begin : {inside : Bool} {last : List ℕ} → EndsRow inside last → BeginsWithEnd last
ends_begin ends = subst BeginsWithEnd (sym ends.written) (end_begins ends.gap ends.comment ends.is_gap ends.is_comment)

-- a word goes on with a symbol
word_goes : (text : List ℕ) (symbols : List Symbol) → AllByRecursion (IsIn false) symbols → text ≡ flat_map spelled symbols
    → 0 < length text → (rest : List ℕ) → EndsToken false (text ++ rest) → ⊥
word_goes text [] each written some rest ends = absurd (omega (arith, ap (length {A = ℕ}) written))
word_goes text (symbol ∷ symbols) each written some rest ends =
    ends symbol (flat_map spelled symbols ++ rest) each.0
    (ap (λ l. l ++ rest) written ∙ append_assoc (spelled symbol) (flat_map spelled symbols) rest)

open_quote : (found : Token) (behind : List ℕ) → IsToken found → EndsToken false (token_octets found ++ behind)
    → found.quoted ≡ true
open_quote found behind are ends = by found.quoted refl
  where
    by : (is_quoted : Bool) → found.quoted ≡ is_quoted → found.quoted ≡ true
    by true is = is
    by false is =
        let each = subst (λ (b : Bool). AllByRecursion (IsIn b) are.symbols.symbols) is are.symbols.each in
        let word = subst (λ l. EndsToken false (l ++ behind)) (quoted_octets found false is) ends in
        absurd (word_goes found.text are.symbols.symbols each are.symbols.written (are.some is) behind word)

part_begins : {inside out : Bool} (gap : List ℕ) (found : Token) (behind rest : List ℕ) → IsGap inside gap out → IsToken found
    → EndsToken false (gap ++ (token_octets found ++ (behind ++ rest))) → BeginsWithEnd (gap ++ (token_octets found ++ behind))
part_begins [] found behind rest is_gap is ends =
    let quote = quoted_octets found true (open_quote found (behind ++ rest) is ends) in
    record { octet = 34; rest = (found.text ++ 34 ∷ []) ++ behind; is = ap (λ l. l ++ behind) quote; ends = refl }
part_begins (octet ∷ gap) found behind rest is_gap is ends = begins_at (gap ++ (token_octets found ++ behind)) (gap_begins is_gap)

pub parts_apart : (part : Part) (parts : List Part) (last : List ℕ)
    → row_octets (part ∷ parts) last ≡ part.gap ++ (token_octets part.token ++ row_octets parts last)
parts_apart part parts last = simp append_assoc

begins : {inside : Bool} {parts : List Part} {last : List ℕ} (rest : List ℕ) → AreParts inside parts last
    → EndsToken false (row_octets parts last ++ rest) → BeginsWithEnd (row_octets parts last)
begins rest (no_parts ends) longest = ends_begin ends
begins rest (more {part = part} {parts = parts} {last = last} is_gap is next others) longest =
    let apart = parts_apart part parts last in
    let front : row_octets (part ∷ parts) last ++ rest ≡ part.gap ++ (token_octets part.token ++ (row_octets parts last ++ rest)) =
    simp append_assoc in
    subst BeginsWithEnd (sym apart)
    (part_begins part.gap part.token (row_octets parts last) rest is_gap is (subst (λ (l : List ℕ). EndsToken false l) front longest))

-- Each row is its parts.
pub cut_row : {inside : Bool} {text rest : List ℕ} {tokens : List Token} → Row inside text tokens rest → RowCut inside text tokens rest
cut_row (end next) =
    let cut = cut_end next in record { parts = []; last = cut.last; are = no_parts cut.ends; tokens_are = refl; whole = cut.whole }
cut_row {text = text} {rest = rest} (token {found = found} out behind next row) =
    let cut = cut_token next in
    let on = cut_row row in
    let part : Part = record { gap = cut.gap; token = found } in
    let word : found.quoted ≡ false → BeginsWithEnd (row_octets on.parts on.last) =
    λ e. begins rest on.are (subst (λ (l : List ℕ). EndsToken false l) on.whole (cut.ends e)) in
    let apart : row_octets (part ∷ on.parts) on.last ++ rest ≡ cut.gap ++ (token_octets found ++ (row_octets on.parts on.last ++ rest)) =
    simp append_assoc in record {
      parts = part ∷ on.parts;
      last = on.last;
      are = more {part = part} cut.is_gap cut.is_token word on.are;
      tokens_are = ap (λ l. found ∷ l) on.tokens_are;
      whole = cut.whole ∙ ap (λ l. cut.gap ++ (token_octets found ++ l)) on.whole ∙ sym apart;
    }

-- such an octet ends a word
pub no_word : (octet : ℕ) → ends_word octet ≡ true → 32 ≤ octet → stands_plain false octet ≡ true → ⊥
no_word octet ends prints stands = grind (arith, nat_tests)

word_ends : {octets : List ℕ} (rest : List ℕ) → BeginsWithEnd octets → EndsToken false (octets ++ rest)
word_ends {octets} rest begins symbol behind is at =
    let whole : begins.octet ∷ (begins.rest ++ rest) ≡ spelled symbol ++ behind = sym (ap (λ l. l ++ rest) begins.is) ∙ at in
    let first = symbol_first false symbol begins.octet (begins.rest ++ rest) behind is whole in
    no_word begins.octet begins.ends first.0 first.1

-- a token before any text that ends it
word_next : (inside : Bool) (text behind : List ℕ) (symbols : List Symbol) → AllByRecursion (IsIn false) symbols
    → text ≡ flat_map spelled symbols → 0 < length text → EndsToken false behind
    → Next inside (text ++ behind) (Some (record { quoted = false; text = text })) inside behind
word_next inside [] behind symbols each written some ends = absurd (omega arith)
word_next inside (octet ∷ text) behind [] each written some ends = cc
word_next inside (octet ∷ text) behind (symbol ∷ symbols) each written some ends =
    let first = symbol_first false symbol octet text (flat_map spelled symbols) each.0 written in
    unquoted octet (word_head inside octet first.0 first.1)
    (record { symbols = symbol ∷ symbols; each = each; written = written; whole = refl; longest = ends }) some

quote_is : (inside : Bool) → head_of inside 34 ≡ Quote
quote_is true = refl
quote_is false = refl

token_next : (inside is_quoted : Bool) (text behind : List ℕ) → AreSymbols is_quoted text → (is_quoted ≡ false → 0 < length text)
    → (is_quoted ≡ false → EndsToken false behind)
    → Next inside ((if is_quoted then 34 ∷ (text ++ 34 ∷ []) else text) ++ behind) (Some (record { quoted = is_quoted; text = text })) inside behind
token_next inside true text behind are some ends =
    quoted 34 (quote_is inside) (record {
      symbols = are.symbols;
      each = are.each;
      written = are.written;
      whole = append_assoc text (34 ∷ []) behind;
      longest = ends_plain true 34 behind refl;
    })
token_next inside false text behind are some ends = word_next inside text behind are.symbols are.each are.written (some refl) (ends refl)

-- The first of parts is the next token.
pub record PartsNext (inside : Bool) (part : Part) (parts : List Part) (last rest : List ℕ) : Type 0 where
  pub out : Bool
  pub next : Next inside (row_octets (part ∷ parts) last ++ rest) (Some part.token) out (row_octets parts last ++ rest)
  pub are : AreParts out parts last

pub parts_next : {inside : Bool} {part : Part} {parts : List Part} {last : List ℕ} → AreParts inside (part ∷ parts) last → (rest : List ℕ)
    → PartsNext inside part parts last rest
parts_next {inside} (more {out = out} {part = part} {parts = parts} {last = last} is_gap is begins others) rest =
    let behind = row_octets parts last ++ rest in
    let apart : part.gap ++ (token_octets part.token ++ behind) ≡ row_octets (part ∷ parts) last ++ rest = simp append_assoc in
    let next = token_next out part.token.quoted part.token.text behind is.symbols is.some (λ e. word_ends rest (begins e)) in
    record {
      out = out;
      next = subst (λ (l : List ℕ). Next inside l (Some part.token) out behind) apart (gap_next (token_octets part.token ++ behind) is_gap next);
      are = others;
    }

pub parts_end : {inside : Bool} {last : List ℕ} → AreParts inside [] last → (rest : List ℕ) → Next inside (last ++ rest) None false rest
parts_end (no_parts ends) rest = ends_next rest ends

-- Parts are a row.
pub parts_row : (parts : List Part) {inside : Bool} {last : List ℕ} → AreParts inside parts last → (rest : List ℕ)
    → Row inside (row_octets parts last ++ rest) (tokens_of parts) rest
parts_row [] are rest = end (parts_end are rest)
parts_row (part ∷ parts) {last = last} are rest =
    let first = parts_next are rest in token first.out (row_octets parts last ++ rest) first.next (parts_row parts first.are rest)

-- The octets of a row, which are one before any text.
pub record RowAlone (text : List ℕ) (tokens : List Token) (rest : List ℕ) : Type 0 where
  pub octets : List ℕ
  pub whole : text ≡ octets ++ rest
  pub is : (more : List ℕ) → Row false (octets ++ more) tokens more

pub row_alone : {text rest : List ℕ} {tokens : List Token} → Row false text tokens rest → RowAlone text tokens rest
row_alone row =
    let cut = cut_row row in
    let octets = row_octets cut.parts cut.last in record {
      octets = octets;
      whole = cut.whole;
      is = λ more. subst (λ (l : List Token). Row false (octets ++ more) l more) cut.tokens_are (parts_row cut.parts cut.are more);
    }
