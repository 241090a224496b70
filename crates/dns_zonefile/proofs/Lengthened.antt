-- The rows and entries of a text are also those of a longer text that begins with it.
use Rattle.std.proofs.Common.{◌≡◌, ◌<◌, ◌++◌, ◌∙◌, ℕ, ◌==◌, Bool, true, false, List, [], ◌∷◌, Option, if◌then◌else◌, IfSome, length, append_assoc, refl, ap, subst, sym, arith}
use Rattle.std.specs.List.{AllByRecursion, flat_map}
use Rattle.dns_label.specs.declared.symbol.Symbol.{Symbol}
use Rattle.dns_label.specs.declared.symbol.Symbol.TheVariants.{Char, SimpleEscape, DecimalEscape}
use Rattle.dns_label.specs.Symbol.{spelled}
use Rattle.dns_scan.specs.Token.{Token}
use Rattle.dns_text.specs.Rows.{BeginsWithRows, TokenRow, is_led}
use Rattle.dns_text.specs.Tokens.{EndsToken, IsIn, IsRun, Next, Row, from_feed}
use Rattle.dns_text.proofs.OneRow.{no_row_at_end}
use Rattle.dns_text.proofs.TokenSymbols.{ends_plain}
use Rattle.dns_zonefile.specs.Entries.{AreEntries, HasEntries}
use Rattle.dns_zonefile.specs.Entry.{Context, Entry}
use Rattle.dns_zonefile.proofs.OneList.{one_list}
use Rattle.dns_zonefile.proofs.RowFronts.{all_rows}

-- what comes next begins with an octet
record Begins (text : List ℕ) : Type 0 where
  pub octet : ℕ
  pub rest : List ℕ
  pub is : text ≡ octet ∷ rest

next-begins : {inside out : Bool} {text rest : List ℕ} {found : Option Token} → Next inside text found out rest → Begins text
next-begins (Next.ended {rest = rest} octet is) = record { octet = octet; rest = rest; is = refl }
next-begins (Next.goes {text = text} octet behind is next) = record { octet = octet; rest = text; is = refl }
next-begins (Next.comment {text = text} octet is next) = record { octet = octet; rest = text; is = refl }
next-begins (Next.quoted {text = text} octet is run) = record { octet = octet; rest = text; is = refl }
next-begins (Next.unquoted {text = text} octet is run some) = record { octet = octet; rest = text; is = refl }

row-begins : {inside : Bool} {text rest : List ℕ} {tokens : List Token} → Row inside text tokens rest → Begins text
row-begins (Row.end next) = next-begins next
row-begins (Row.token out behind next row) = next-begins next

-- a comment ends at its line feed
feed-on : (text more : List ℕ) → Begins (from_feed text) → from_feed (text ++ more) ≡ from_feed text ++ more
feed-on [] more begins = let bad : ⊥ = (let is : [] ≡ begins.octet ∷ begins.rest = begins.is in cc) in absurd bad
feed-on (octet ∷ text) more begins = by (octet == 10) refl (feed-on text more)
  where
    by : (feed : Bool) → (octet == 10) ≡ feed → (Begins (from_feed text) → from_feed (text ++ more) ≡ from_feed text ++ more)
        → from_feed (octet ∷ (text ++ more)) ≡ from_feed (octet ∷ text) ++ more
    by true is rest =
        ap (λ (b : Bool). if b then octet ∷ (text ++ more) else from_feed (text ++ more)) is
        ∙ sym (ap (λ (b : Bool). (if b then octet ∷ text else from_feed text) ++ more) is)
    by false is rest =
        let same : from_feed (octet ∷ text) ≡ from_feed text = ap (λ (b : Bool). if b then octet ∷ text else from_feed text) is in
        ap (λ (b : Bool). if b then octet ∷ (text ++ more) else from_feed (text ++ more)) is
        ∙ rest (record { octet = begins.octet; rest = begins.rest; is = sym same ∙ begins.is }) ∙ sym (ap (λ (l : List ℕ). l ++ more) same)

-- a run of some symbols begins with one
run-begins : {text front rest : List ℕ} → IsRun false text front rest → 0 < length front → EndsToken false text → ⊥
run-begins {text} {front} {rest} run some ends = by run.symbols run.each run.written
  where
    by : (symbols : List Symbol) → AllByRecursion (IsIn false) symbols → front ≡ flat_map spelled symbols → ⊥
    by [] each written = let none : length front ≡ 0 = ap (λ (l : List ℕ). length l) written in omega (arith, none, some)
    by (symbol ∷ symbols) each written =
        ends symbol (flat_map spelled symbols ++ rest) each.0
        (run.whole ∙ ap (λ (l : List ℕ). l ++ rest) written ∙ append_assoc (spelled symbol) (flat_map spelled symbols) rest)

-- no token that has ended is followed by a backslash: a symbol would begin there, or nothing comes next
no-backslash : {inside out : Bool} {text rest : List ℕ} {found : Option Token} → Next inside (92 ∷ text) found out rest
    → EndsToken false (92 ∷ text) → ⊥
no-backslash (Next.ended octet is) ends = absurd cc
no-backslash (Next.goes octet behind is next) ends = absurd cc
no-backslash (Next.comment octet is next) ends = absurd cc
no-backslash (Next.quoted octet is run) ends = absurd cc
no-backslash (Next.unquoted octet is run some) ends = run-begins run some ends

-- a token ends at the same place in a longer text
ends-on : {inside out : Bool} {text rest : List ℕ} {found : Option Token} (more : List ℕ) → Next inside text found out rest
    → EndsToken false text → EndsToken false (text ++ more)
ends-on {inside} {out} {text} {rest} {found} more next ends = by (next-begins next)
  where
    by : Begins text → EndsToken false (text ++ more)
    by begins (Char c) behind is at =
        let here : begins.octet ∷ (begins.rest ++ more) ≡ c ∷ behind = sym (ap (λ (l : List ℕ). l ++ more) begins.is) ∙ at in
        let first : begins.octet ≡ c = cc in
        ends (Char c) begins.rest is (begins.is ∙ ap (λ (n : ℕ). n ∷ begins.rest) first)
    by begins (SimpleEscape c) behind is at =
        let here : begins.octet ∷ (begins.rest ++ more) ≡ 92 ∷ c ∷ behind = sym (ap (λ (l : List ℕ). l ++ more) begins.is) ∙ at in
        let first : begins.octet ≡ 92 = cc in
        let same : text ≡ 92 ∷ begins.rest = begins.is ∙ ap (λ (n : ℕ). n ∷ begins.rest) first in
        no-backslash (subst (λ (l : List ℕ). Next inside l found out rest) same next) (subst (λ (l : List ℕ). EndsToken false l) same ends)
    by begins (DecimalEscape n) behind is at =
        let here : begins.octet ∷ (begins.rest ++ more) ≡ spelled (DecimalEscape n) ++ behind = sym (ap (λ (l : List ℕ). l ++ more) begins.is) ∙ at in
        let first : begins.octet ≡ 92 = cc in
        let same : text ≡ 92 ∷ begins.rest = begins.is ∙ ap (λ (n : ℕ). n ∷ begins.rest) first in
        no-backslash (subst (λ (l : List ℕ). Next inside l found out rest) same next) (subst (λ (l : List ℕ). EndsToken false l) same ends)

-- the same comes next, if a token that comes next has ended
next-on : {inside out : Bool} {text rest : List ℕ} {found : Option Token} (more : List ℕ)
    → IfSome found (λ token. EndsToken false rest → EndsToken false (rest ++ more)) → Next inside text found out rest
    → Next inside (text ++ more) found out (rest ++ more)
next-on more ends (Next.ended octet is) = Next.ended octet is
next-on more ends (Next.goes octet behind is next) = Next.goes octet behind is (next-on more ends next)
next-on {inside} {out} {found = found} more ends (Next.comment {text = text} {rest = rest} octet is next) =
    Next.comment octet is
    (subst (λ (l : List ℕ). Next inside l found out (rest ++ more)) (sym (feed-on text more (next-begins next))) (next-on more ends next))
next-on more ends (Next.quoted {front = front} {rest = rest} octet is run) =
    Next.quoted octet is (record {
      symbols = run.symbols;
      each = run.each;
      written = run.written;
      whole = ap (λ (l : List ℕ). l ++ more) run.whole ∙ append_assoc front (34 ∷ rest) more;
      longest = ends_plain true 34 (rest ++ more) refl;
    })
next-on more ends (Next.unquoted {front = front} {rest = rest} octet is run some) =
    Next.unquoted octet is (record {
      symbols = run.symbols;
      each = run.each;
      written = run.written;
      whole = ap (λ (l : List ℕ). l ++ more) run.whole ∙ append_assoc front rest more;
      longest = ends run.longest;
    }) some

row-ends-on : {inside : Bool} {text rest : List ℕ} {tokens : List Token} (more : List ℕ) → Row inside text tokens rest
    → EndsToken false text → EndsToken false (text ++ more)
row-ends-on more (Row.end next) = ends-on more next
row-ends-on more (Row.token out behind next row) = ends-on more next

row-on : {inside : Bool} {text rest : List ℕ} {tokens : List Token} (more : List ℕ) → Row inside text tokens rest
    → Row inside (text ++ more) tokens (rest ++ more)
row-on more (Row.end next) = Row.end (next-on more tt next)
row-on more (Row.token out behind next row) = Row.token out (behind ++ more) (next-on more (row-ends-on more row) next) (row-on more row)

rows-on : {text rest : List ℕ} {rows : List TokenRow} (more : List ℕ) → BeginsWithRows text rows rest
    → BeginsWithRows (text ++ more) rows (rest ++ more)
rows-on more BeginsWithRows.none = BeginsWithRows.none
rows-on {rest = rest} more (BeginsWithRows.more {text = text} {tokens = tokens} {rows = rows} row begins) =
    let blank_led : is_led (text ++ more) ≡ is_led text =
    ap (λ (l : List ℕ). is_led (l ++ more)) (row-begins row).is ∙ sym (ap (λ (l : List ℕ). is_led l) (row-begins row).is) in
    subst (λ (b : Bool). BeginsWithRows (text ++ more) (record { blank_led = b; tokens = tokens } ∷ rows) (rest ++ more)) blank_led
    (BeginsWithRows.more (row-on more row) (rows-on more begins))

-- the entries of the first rows, and of the others
pub record Parted (context : Context) (front others : List TokenRow) (all : List Entry) (after : Context) : Type 0 where
  pub first : List Entry
  pub between : Context
  pub behind : List Entry
  pub is : all ≡ first ++ behind
  pub begins : AreEntries context front first between
  pub goes_on : AreEntries between others behind after

pub parted : {context after : Context} {rows : List TokenRow} (front : List TokenRow) {others : List TokenRow} {all : List Entry}
    → rows ≡ front ++ others → AreEntries context rows all after → Parted context front others all after
parted {context} {after} [] {all = all} same are = record {
  first = [];
  between = context;
  behind = all;
  is = refl;
  begins = AreEntries.none;
  goes_on = subst (λ (r : List TokenRow). AreEntries context r all after) same are;
}
parted (row ∷ front) same AreEntries.none = absurd cc
parted {context} (row ∷ front) {others} same (AreEntries.bare {blank_led = blank_led} {rows = rows} are) =
    let first : record { blank_led = blank_led; tokens = [] } ≡ row = cc in
    let behind : rows ≡ front ++ others = cc in
    let at = parted front behind are in record {
      first = at.first;
      between = at.between;
      behind = at.behind;
      is = at.is;
      begins = subst (λ (r : TokenRow). AreEntries context (r ∷ front) at.first at.between) first (AreEntries.bare at.begins);
      goes_on = at.goes_on;
    }
parted {context} (row ∷ front) {others} same (AreEntries.entry {row = one} {rows = rows} {entry = entry} is are) =
    let first : one ≡ row = cc in
    let behind : rows ≡ front ++ others = cc in
    let at = parted front behind are in record {
      first = entry ∷ at.first;
      between = at.between;
      behind = at.behind;
      is = ap (λ (l : List Entry). entry ∷ l) at.is;
      begins = subst (λ (r : TokenRow). AreEntries context (r ∷ front) (entry ∷ at.first) at.between) first (AreEntries.entry is at.begins);
      goes_on = at.goes_on;
    }

pub lengthened : {start after : Context} {text rest : List ℕ} {rows : List TokenRow} {entries all : List Entry} (more : List ℕ)
    → BeginsWithRows text rows rest → AreEntries start rows entries after → HasEntries start (text ++ more) all
    → (behind : List Entry) × (all ≡ entries ++ behind) × HasEntries after (rest ++ more) behind
lengthened {after = after} {rows = rows} {entries = entries} more begins are has =
    let there = all_rows has.is_text.begins (λ tokens behind. no_row_at_end has.is_text.ends) (rows-on more begins) in
    let at = parted rows there.is has.are in
    let one = one_list refl refl at.begins are in (
      at.behind,
      at.is ∙ ap (λ (l : List Entry). l ++ at.behind) one.0,
      record {
        rows = there.behind;
        is_text = record { rest = has.is_text.rest; begins = there.begins; ends = has.is_text.ends };
        after = has.after;
        are = subst (λ (c : Context). AreEntries c there.behind at.behind has.after) one.1 at.goes_on;
      },
    )
