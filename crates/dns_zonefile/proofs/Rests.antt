-- What a text goes on with after white space, or after a comment without its line feed.
use Rattle.std.proofs.Common.{◌≡◌, ◌≢◌, ◌↔◌, ◌++◌, ◌∙◌, ◌==◌, ◌&&◌, ℕ, Bool, true, false, not, List, [], ◌∷◌, Option, Some, None, if◌then◌else◌, refl, ap, subst, sym}
use Rattle.std.specs.List.{list_all}
use Rattle.std.proofs.lemmas.Bool.Decides.{Decides-eqb}
use Rattle.dns_scan.specs.Token.{Token}
use Rattle.dns_text.specs.Rows.{BeginsWithRows, IsText, TokenRow, is_led}
use Rattle.dns_text.specs.Tokens.{Head, Next, Row, from_feed, has_feed, head_of, is_end, is_gap}
use Rattle.dns_text.specs.Tokens.Head.{Go, Comment, Feed, Quote, Word, Refused}
use Rattle.dns_text.proofs.OneRow.{no_row_at_end}
use Rattle.dns_zonefile.specs.Entries.{AreEntries, HasEntries}
use Rattle.dns_zonefile.specs.Entry.{Context, Entry}
use Rattle.dns_zonefile.proofs.OneEntry.{entry_has_tokens}

-- the same token or end of a row comes next, and both texts end here or neither
record Alike (text other : List ℕ) : Type 0 where
  pub to : (found : Option Token) (out : Bool) (rest : List ℕ) → Next false text found out rest → Next false other found out rest
  pub back : (found : Option Token) (out : Bool) (rest : List ℕ) → Next false other found out rest → Next false text found out rest
  pub ends : is_end text ≡ is_end other

alike-self : (text : List ℕ) → Alike text text
alike-self text = record { to = λ found out rest next. next; back = λ found out rest next. next; ends = refl }

turned : {text other : List ℕ} → Alike text other → Alike other text
turned alike = record { to = alike.back; back = alike.to; ends = sym alike.ends }

joined : {text between other : List ℕ} → Alike text between → Alike between other → Alike text other
joined one two = record {
  to = λ found out rest next. two.to found out rest (one.to found out rest next);
  back = λ found out rest next. one.back found out rest (two.back found out rest next);
  ends = one.ends ∙ two.ends;
}

-- white space says nothing outside parentheses
abbrev mark_of : ℕ → Head
mark_of octet =
    if octet == 10 then Feed
    else (if octet == 40 then Go true
    else (if octet == 41 then Refused else (if octet == 59 then Comment else (if octet == 34 then Quote else Word))))

gap-head : (octet : ℕ) → is_gap octet ≡ true → head_of false octet ≡ Go false
gap-head octet is = ap (λ (b : Bool). if b then Go false else mark_of octet) is

gap-passed : {found : Option Token} {out : Bool} {text rest : List ℕ} (octet : ℕ) → head_of false octet ≡ Go false
    → Next false (octet ∷ text) found out rest → Next false text found out rest
gap-passed octet is (Next.ended c head) = let bad : Feed ≡ Go false = sym head ∙ is in absurd cc
gap-passed {found} {out} {rest = rest} octet is (Next.goes {text = text} c behind head next) =
    let both : Go behind ≡ Go false = sym head ∙ is in
    let same : behind ≡ false = cc in
    subst (λ (b : Bool). Next b text found out rest) same next
gap-passed octet is (Next.comment c head next) = let bad : Comment ≡ Go false = sym head ∙ is in absurd cc
gap-passed octet is (Next.quoted c head run) = let bad : Quote ≡ Go false = sym head ∙ is in absurd cc
gap-passed octet is (Next.unquoted c head run some) = let bad : Word ≡ Go false = sym head ∙ is in absurd cc

alike-gap : (octet : ℕ) (text other : List ℕ) → is_gap octet ≡ true → Alike text other → Alike (octet ∷ text) other
alike-gap octet text other is alike =
    let head : head_of false octet ≡ Go false = gap-head octet is in record {
      to = λ found out rest next. alike.to found out rest (gap-passed octet head next);
      back = λ found out rest next. Next.goes octet false head (alike.back found out rest next);
      ends = ap (λ (b : Bool). if b then is_end text else (if octet == 59 then not (has_feed text) else false)) is ∙ alike.ends;
    }

-- a comment says nothing up to its line feed
comment-passed : {found : Option Token} {out : Bool} {text rest : List ℕ} → Next false (59 ∷ text) found out rest
    → Next false (from_feed text) found out rest
comment-passed (Next.ended octet is) = absurd cc
comment-passed (Next.goes octet behind is next) = absurd cc
comment-passed (Next.comment octet is next) = next
comment-passed (Next.quoted octet is run) = absurd cc
comment-passed (Next.unquoted octet is run some) = absurd cc

end-after : (text : List ℕ) → not (has_feed text) ≡ is_end (from_feed text)
end-after [] = refl
end-after (octet ∷ text) = by (octet == 10) refl (end-after text)
  where
    by : (feed : Bool) → (octet == 10) ≡ feed → not (has_feed text) ≡ is_end (from_feed text)
        → not (if feed then true else has_feed text) ≡ is_end (if feed then octet ∷ text else from_feed text)
    by true is behind =
        let at : 10 ≡ octet = sym ((Decides-eqb octet 10).0 is) in subst (λ (n : ℕ). false ≡ is_end (n ∷ text)) at refl
    by false is behind = behind

alike-comment : (text : List ℕ) → Alike (59 ∷ text) (from_feed text)
alike-comment text = record {
  to = λ found out rest next. comment-passed next;
  back = λ found out rest next. Next.comment 59 refl next;
  ends = end-after text;
}

no-feed : (rest more : List ℕ) → has_feed rest ≡ false → from_feed (rest ++ more) ≡ from_feed more
no-feed [] more none = refl
no-feed (octet ∷ rest) more none = by (octet == 10) refl none (no-feed rest more)
  where
    by : (feed : Bool) → (octet == 10) ≡ feed → (if feed then true else has_feed rest) ≡ false
        → (has_feed rest ≡ false → from_feed (rest ++ more) ≡ from_feed more) → from_feed (octet ∷ (rest ++ more)) ≡ from_feed more
    by true is none behind = absurd cc
    by false is none behind =
        ap (λ (b : Bool). if b then octet ∷ (rest ++ more) else from_feed (rest ++ more)) is ∙ behind none

clear : (b : Bool) → not b ≡ true → b ≡ false
clear true is = absurd cc
clear false is = refl

-- after a rest of white space
spaces : (rest more : List ℕ) → list_all is_gap rest ≡ true → Alike (rest ++ more) more
spaces [] more each = alike-self more
spaces (octet ∷ rest) more each = by (is_gap octet) refl each (spaces rest more)
  where
    by : (gap : Bool) → is_gap octet ≡ gap → (gap && list_all is_gap rest) ≡ true
        → (list_all is_gap rest ≡ true → Alike (rest ++ more) more) → Alike (octet ∷ (rest ++ more)) more
    by true is each behind = alike-gap octet (rest ++ more) more is (behind each)
    by false is each behind = absurd cc

blank_led-by : (rest more : List ℕ) → rest ≢ [] → list_all is_gap rest ≡ true → is_led (rest ++ more) ≡ true
blank_led-by [] more some each = absurd (some refl)
blank_led-by (octet ∷ rest) more some each = by (is_gap octet) refl each
  where
    by : (gap : Bool) → is_gap octet ≡ gap → (gap && list_all is_gap rest) ≡ true → is_gap octet ≡ true
    by true is each = is
    by false is each = absurd cc

-- after a rest with a comment
comments : (rest more : List ℕ) → is_end rest ≡ true → list_all is_gap rest ≡ false → Alike (rest ++ more) (from_feed more)
comments [] more ends each = absurd cc
comments (octet ∷ rest) more ends each = by (is_gap octet) refl ends each (comments rest more)
  where
    mark : (b : Bool) → (octet == 59) ≡ b → (if b then not (has_feed rest) else false) ≡ true
        → Alike (octet ∷ (rest ++ more)) (from_feed more)
    mark true is ends =
        let at : 59 ≡ octet = sym ((Decides-eqb octet 59).0 is) in
        let left : from_feed (rest ++ more) ≡ from_feed more = no-feed rest more (clear (has_feed rest) ends) in
        subst (λ (n : ℕ). Alike (n ∷ (rest ++ more)) (from_feed more)) at
        (subst (λ (l : List ℕ). Alike (59 ∷ (rest ++ more)) l) left (alike-comment (rest ++ more)))
    mark false is ends = absurd cc

    by : (gap : Bool) → is_gap octet ≡ gap → (if gap then is_end rest else (if octet == 59 then not (has_feed rest) else false)) ≡ true
        → (gap && list_all is_gap rest) ≡ false
        → (is_end rest ≡ true → list_all is_gap rest ≡ false → Alike (rest ++ more) (from_feed more))
        → Alike (octet ∷ (rest ++ more)) (from_feed more)
    by true is ends each behind = alike-gap octet (rest ++ more) (from_feed more) is (behind ends each)
    by false is ends each behind = mark (octet == 59) refl ends

row-alike : {text other rest : List ℕ} {tokens : List Token} → Alike text other → Row false text tokens rest → Row false other tokens rest
row-alike {rest = rest} alike (Row.end next) = Row.end (alike.to None false rest next)
row-alike alike (Row.token {found = found} out behind next row) = Row.token out behind (alike.to (Some found) out behind next) row

-- the entries are the same if white space leads both texts, or neither
blank_led-rows : {text other rest : List ℕ} {rows : List TokenRow} → Alike text other → is_led text ≡ is_led other → BeginsWithRows text rows rest
    → is_end rest ≡ true → IsText other rows
blank_led-rows {other = other} alike blank_led BeginsWithRows.none ends =
    record { rest = other; begins = BeginsWithRows.none; ends = sym alike.ends ∙ ends }
blank_led-rows {other = other} {rest = rest} alike blank_led (BeginsWithRows.more {tokens = tokens} {rows = rows} row behind) ends = record {
  rest = rest;
  begins = subst (λ (b : Bool). BeginsWithRows other (record { blank_led = b; tokens = tokens } ∷ rows) rest) (sym blank_led)
      (BeginsWithRows.more (row-alike alike row) behind);
  ends = ends;
}

blank_led-entries : {start : Context} {text other : List ℕ} {entries : List Entry} → Alike text other → is_led text ≡ is_led other
    → HasEntries start text entries → HasEntries start other entries
blank_led-entries alike blank_led has = record {
  rows = has.rows;
  is_text = blank_led-rows alike blank_led has.is_text.begins has.is_text.ends;
  after = has.after;
  are = has.are;
}

-- and if a row at either has no token
abbrev IsBare : List ℕ → Type 0
IsBare text = (tokens : List Token) (rest : List ℕ) → Row false text tokens rest → tokens ≡ []

abbrev row_of : Bool → List Token → TokenRow
row_of blank_led tokens = record { blank_led = blank_led; tokens = tokens }

bare-blank_led : {start after : Context} {all rows : List TokenRow} {entries : List Entry} (blank_led other : Bool)
    → all ≡ row_of blank_led [] ∷ rows → AreEntries start all entries after → AreEntries start (row_of other [] ∷ rows) entries after
bare-blank_led blank_led other same AreEntries.none = absurd cc
bare-blank_led {start} {after} {rows = rows} {entries = entries} blank_led other same (AreEntries.bare {rows = behind} are) =
    let there : behind ≡ rows = cc in
    AreEntries.bare (subst (λ (r : List TokenRow). AreEntries start r entries after) there are)
bare-blank_led blank_led other same (AreEntries.entry {row = row} is are) =
    let first : row ≡ row_of blank_led [] = cc in
    absurd (entry_has_tokens is (ap (λ (r : TokenRow). r.tokens) first))

bare-on : {start after : Context} {text other rest : List ℕ} {rows : List TokenRow} {entries : List Entry} → Alike text other → IsBare text
    → BeginsWithRows text rows rest → is_end rest ≡ true → AreEntries start rows entries after → HasEntries start other entries
bare-on {after = after} {other = other} alike bare BeginsWithRows.none ends are = record {
  rows = [];
  is_text = record { rest = other; begins = BeginsWithRows.none; ends = sym alike.ends ∙ ends };
  after = after;
  are = are;
}
bare-on {start} {after} {text} {other} {rest} {entries = entries} alike bare (BeginsWithRows.more {tokens = tokens} {rows = rows} row behind) ends are =
    let none : tokens ≡ [] = bare _ _ row in record {
      rows = row_of (is_led other) tokens ∷ rows;
      is_text = record { rest = rest; begins = BeginsWithRows.more (row-alike alike row) behind; ends = ends };
      after = after;
      are = subst (λ (t : List Token). AreEntries start (row_of (is_led other) t ∷ rows) entries after) (sym none)
          (bare-blank_led (is_led text) (is_led other)
          (ap (λ (t : List Token). row_of (is_led text) t ∷ rows) none) are);
    }

bare-entries : {start : Context} {text other : List ℕ} {entries : List Entry} → Alike text other → IsBare text
    → HasEntries start text entries → HasEntries start other entries
bare-entries alike bare has = bare-on alike bare has.is_text.begins has.is_text.ends has.are

-- a line feed ends a row without tokens
feed-ends : {found : Token} {out : Bool} {text rest : List ℕ} → Next false (10 ∷ text) (Some found) out rest → ⊥
feed-ends (Next.goes octet behind is next) = absurd cc
feed-ends (Next.comment octet is next) = absurd cc
feed-ends (Next.quoted octet is run) = absurd cc
feed-ends (Next.unquoted octet is run some) = absurd cc

feed-row : {tokens : List Token} {text rest : List ℕ} → Row false (10 ∷ text) tokens rest → tokens ≡ []
feed-row (Row.end next) = refl
feed-row (Row.token out behind next row) = absurd (feed-ends next)

feed-bare : (text : List ℕ) → IsBare (10 ∷ text)
feed-bare text = λ tokens rest row. feed-row row

bare-from : (text : List ℕ) → IsBare (from_feed text)
bare-from [] = λ tokens rest row. absurd (no_row_at_end refl row)
bare-from (octet ∷ text) = by (octet == 10) refl (bare-from text)
  where
    by : (feed : Bool) → (octet == 10) ≡ feed → IsBare (from_feed text) → IsBare (if feed then octet ∷ text else from_feed text)
    by true is behind =
        let at : 10 ≡ octet = sym ((Decides-eqb octet 10).0 is) in subst (λ (n : ℕ). IsBare (n ∷ text)) at (feed-bare text)
    by false is behind = behind

pub after_spaces : {start : Context} {entries : List Entry} (rest more : List ℕ) → rest ≢ [] → list_all is_gap rest ≡ true
    → HasEntries start (rest ++ more) entries ↔ HasEntries start (32 ∷ more) entries
after_spaces rest more some each =
    let alike : Alike (rest ++ more) (32 ∷ more) = joined (spaces rest more each) (turned (alike-gap 32 more more refl (alike-self more))) in
    let blank_led : is_led (rest ++ more) ≡ is_led (32 ∷ more) = blank_led-by rest more some each in
    (blank_led-entries alike blank_led, blank_led-entries (turned alike) (sym blank_led))

pub after_comment : {start : Context} {entries : List Entry} (rest more : List ℕ) → is_end rest ≡ true → list_all is_gap rest ≡ false
    → HasEntries start (rest ++ more) entries ↔ HasEntries start (from_feed more) entries
after_comment rest more ends each =
    let alike : Alike (rest ++ more) (from_feed more) = comments rest more ends each in
    let bare : IsBare (rest ++ more) = λ tokens behind row. bare-from more tokens behind (row-alike alike row) in
    (bare-entries alike bare, bare-entries (turned alike) (bare-from more))
