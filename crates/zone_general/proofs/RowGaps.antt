-- What is between the tokens of a row: what each octet there means, and how a text goes on after it.
use Rattle.std.proofs.Common.{◌≡◌, ◌==◌, ℕ, Bool, true, false, List, [], ◌∷◌, ◌++◌, Option, None, if◌then◌else◌, refl, sym, ◌∙◌, ap, subst, arith, append_assoc}
use Rattle.std.proofs.lemmas.Bool.Decides.{Decides-eqb, nat_tests}
use Rattle.dns_scan.specs.Token.{Token}
use Rattle.dns_text.specs.Tokens.{Next, from_feed, has_feed, head_of}
use Rattle.dns_text.specs.Tokens.Head.{Go, Comment, Feed, Quote}
use Rattle.dns_text.specs.Tokens.Next.{ended}
use Rattle.dns_text.specs.Tokens.Next.{goes as goes_next, comment as comment_next}
use Rattle.dns_text.proofs.RowSteps.{from_feed-append}
use Rattle.zone_general.specs.Parts.{EndsRow, IsComment, IsGap, ends_word}
use Rattle.zone_general.specs.Parts.IsComment.{nothing}
use Rattle.zone_general.specs.Parts.IsComment.{comment as commented}
use Rattle.zone_general.specs.Parts.IsGap.{none, goes, comment}

-- the octets that mean these
pub comment_head : (inside : Bool) (octet : ℕ) → head_of inside octet ≡ Comment → octet ≡ 59
comment_head true octet head = grind (arith, nat_tests)
comment_head false octet head = grind (arith, nat_tests)

pub feed_head : (inside : Bool) (octet : ℕ) → head_of inside octet ≡ Feed → (inside ≡ false) × (octet ≡ 10)
feed_head true octet head = (grind (arith, nat_tests), grind (arith, nat_tests))
feed_head false octet head = (refl, grind (arith, nat_tests))

pub quote_head : (inside : Bool) (octet : ℕ) → head_of inside octet ≡ Quote → octet ≡ 34
quote_head true octet head = grind (arith, nat_tests)
quote_head false octet head = grind (arith, nat_tests)

-- white space and parentheses end a word
pub go_ends : (inside behind : Bool) (octet : ℕ) → head_of inside octet ≡ Go behind → ends_word octet ≡ true
go_ends true behind octet head = grind (arith, nat_tests)
go_ends false behind octet head = grind (arith, nat_tests)

-- one gap, and then another
pub gap_append : {inside middle out : Bool} {front gap : List ℕ} → IsGap inside front middle → IsGap middle gap out → IsGap inside (front ++ gap) out
gap_append none more = more
gap_append (goes head first) more = goes head (gap_append first more)
gap_append {out = out} {gap = gap} (comment {gap = behind} text no_feed first) more =
    subst (λ (l : List ℕ). IsGap true (59 ∷ l) out) (sym (append_assoc text (10 ∷ behind) gap)) (comment text no_feed (gap_append first more))

-- what follows a gap
pub gap_next : {inside behind out : Bool} {gap rest : List ℕ} (text : List ℕ) {found : Option Token} → IsGap inside gap behind
    → Next behind text found out rest → Next inside (gap ++ text) found out rest
gap_next text none next = next
gap_next text (goes head gap) next = goes_next _ _ head (gap_next text gap next)
gap_next {out = out} {rest = rest} text {found} (comment {gap = gap} words no_feed first) next =
    let skipped : from_feed ((words ++ 10 ∷ gap) ++ text) ≡ 10 ∷ gap ++ text =
    ap from_feed (append_assoc words (10 ∷ gap) text) ∙ from_feed-append words (10 ∷ gap ++ text) no_feed in
    comment_next 59 refl (subst (λ (l : List ℕ). Next true l found out rest) (sym skipped) (gap_next text first next))

-- the end of a row
comment_ends : {comment : List ℕ} (rest : List ℕ) → IsComment comment → Next false (comment ++ 10 ∷ rest) None false rest
comment_ends rest nothing = ended 10 refl
comment_ends rest (commented {text} no_feed) =
    comment_next 59 refl (subst (λ (l : List ℕ). Next false l None false rest) (sym (from_feed-append text (10 ∷ rest) no_feed)) (ended 10 refl))

pub ends_next : {inside : Bool} {last : List ℕ} (rest : List ℕ) → EndsRow inside last → Next inside (last ++ rest) None false rest
ends_next {inside} {last} rest ends =
    let apart : last ++ rest ≡ ends.gap ++ (ends.comment ++ 10 ∷ rest) =
    ap (λ l. l ++ rest) ends.written ∙ append_assoc ends.gap (ends.comment ++ 10 ∷ []) rest
    ∙ ap (λ l. ends.gap ++ l) (append_assoc ends.comment (10 ∷ []) rest) in
    subst (λ (l : List ℕ). Next inside l None false rest) (sym apart)
    (gap_next (ends.comment ++ 10 ∷ rest) ends.is_gap (comment_ends rest ends.is_comment))

-- the end of a row after a gap
pub gap_ends : {inside behind : Bool} {gap last : List ℕ} → IsGap inside gap behind → EndsRow behind last → EndsRow inside (gap ++ last)
gap_ends {gap = gap} first ends = record {
  gap = gap ++ ends.gap;
  comment = ends.comment;
  is_gap = gap_append first ends.is_gap;
  is_comment = ends.is_comment;
  written = ap (λ l. gap ++ l) ends.written ∙ sym (append_assoc gap ends.gap (ends.comment ++ 10 ∷ []));
}

-- a comment's text, up to its line feed
pub record AtFeed (text : List ℕ) : Type 0 where
  pub comment : List ℕ
  pub no_feed : has_feed comment ≡ false
  pub whole : text ≡ comment ++ from_feed text

more_comment : (octet : ℕ) (text : List ℕ) (feed : Bool) → (octet == 10) ≡ feed → AtFeed text → AtFeed (octet ∷ text)
more_comment octet text true is behind = record {
  comment = [];
  no_feed = refl;
  whole = ap (λ (b : Bool). if b then octet ∷ text else from_feed text) (sym is);
}
more_comment octet text false is behind = record {
  comment = octet ∷ behind.comment;
  no_feed = ap (λ (b : Bool). if b then true else has_feed behind.comment) is ∙ behind.no_feed;
  whole =
      ap (λ l. octet ∷ l) behind.whole
      ∙ ap (λ (b : Bool). octet ∷ (behind.comment ++ (if b then octet ∷ text else from_feed text))) (sym is);
}

pub at_feed : (text : List ℕ) → AtFeed text
at_feed [] = record { comment = []; no_feed = refl; whole = refl }
at_feed (octet ∷ text) = more_comment octet text (octet == 10) refl (at_feed text)

feed_next : (octet : ℕ) (text : List ℕ) (first : ℕ) (rest : List ℕ) (feed : Bool) → (octet == 10) ≡ feed
    → (if feed then octet ∷ text else from_feed text) ≡ first ∷ rest → (from_feed text ≡ first ∷ rest → first ≡ 10) → first ≡ 10
feed_next octet text first rest true is at behind = let e : octet ≡ first = cc in sym e ∙ (Decides-eqb octet 10).0 is
feed_next octet text first rest false is at behind = behind at

pub feed_first : (text : List ℕ) (first : ℕ) (rest : List ℕ) → from_feed text ≡ first ∷ rest → first ≡ 10
feed_first [] first rest at = cc
feed_first (octet ∷ text) first rest at = feed_next octet text first rest (octet == 10) refl at (feed_first text first rest)

-- a gap may have a comment before a line feed, inside parentheses
pub comment_gap : {inside out : Bool} {octet : ℕ} {gap : List ℕ} → octet ≡ 10 → (text : List ℕ) → has_feed text ≡ false
    → IsGap inside (octet ∷ gap) out → IsGap inside (59 ∷ (text ++ octet ∷ gap)) out
comment_gap {inside = true} {out = out} {octet = octet} {gap = gap} is text no_feed first =
    subst (λ (n : ℕ). IsGap true (59 ∷ (text ++ n ∷ gap)) out) (sym is)
    (comment text no_feed (subst (λ (n : ℕ). IsGap true (n ∷ gap) out) is first))
comment_gap {inside = false} {octet = octet} is text no_feed (goes {behind = behind} head first) =
    let bad : Feed ≡ Go behind = ap (head_of false) (sym is) ∙ head in cc
