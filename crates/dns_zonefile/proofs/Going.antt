-- Readers that go over rows.
use Rattle.std.proofs.Common.{◌≡◌, ◌≢◌, ◌<◌, ◌+◌, ◌++◌, ◌∙◌, ℕ, Bool, true, false, List, [], ◌∷◌, Some, None, Ok, Err, drop, length, map, refl, subst, sym, arith, length-append}
use Rattle.dns_text.specs.Rows.{BeginsWithRows, TokenRow}
use Rattle.dns_text.specs.Tokens.{is_end}
use Rattle.dns_entry_scanner.specs.RowFound.{IsRowAt}
use Rattle.dns_entry_scanner.specs.TokenSpan.{token_in}
use Rattle.dns_entry_scanner.specs.declared.token_span.TokenSpan.{TokenSpan}
use Rattle.dns_entry_scanner.specs.EntryError.{is_memory}
use Rattle.dns_entry_scanner.specs.declared.entry_error.EntryError.{EntryError}
use Rattle.dns_zonefile.specs.Entries.{AreEntries}
use Rattle.dns_zonefile.specs.Entry.{Context, Entry, IsEntry}
use Rattle.dns_zonefile.specs.Entry.Entry.{Directive}
use Rattle.dns_zonefile.specs.Reader.{AreDirectives, Gives, GoesOver, IsRefusedAt, Reader, left_of}
use Rattle.dns_zonefile.specs.Seen.{entry_of, row_of}
use Rattle.dns_zonefile.specs.declared.entry.Entry as found
use Rattle.dns_zonefile.specs.declared.entry.Entry.TheVariants as entries

pub begins-on : {text mid rest : List ℕ} {rows others : List TokenRow} → BeginsWithRows text rows mid → BeginsWithRows mid others rest
    → BeginsWithRows text (rows ++ others) rest
begins-on BeginsWithRows.none others = others
begins-on (BeginsWithRows.more row begins) others = BeginsWithRows.more row (begins-on begins others)

pub are-on : {context mid after : Context} {rows others : List TokenRow} {entries more : List Entry} → AreEntries context rows entries mid
    → AreEntries mid others more after → AreEntries context (rows ++ others) (entries ++ more) after
are-on AreEntries.none more = more
are-on (AreEntries.bare are) more = AreEntries.bare (are-on are more)
are-on (AreEntries.entry is are) more = AreEntries.entry is (are-on are more)

pub goes-nowhere : (reader : Reader) → GoesOver reader [] reader
goes-nowhere reader = record {
  rows = [];
  begins = BeginsWithRows.none;
  are = AreEntries.none;
  count = omega arith;
  text = refl;
}

pub goes-on : {old mid new : Reader} {entries more : List Entry} → GoesOver old entries mid → GoesOver mid more new
    → GoesOver old (entries ++ more) new
goes-on {old} {mid} {new} {entries} {more} first next =
    let first_count = first.count in
    let next_count = next.count in record {
      rows = first.rows ++ next.rows;
      begins = begins-on first.begins next.begins;
      are = are-on first.are next.are;
      count = omega (arith, first_count, next_count, length-append entries more);
      text = next.text ∙ first.text;
    }

pub directives-on : (entries more : List Entry) → AreDirectives entries → AreDirectives more → AreDirectives (entries ++ more)
directives-on [] more are others = others
directives-on (entry ∷ entries) more are others = (are.0, directives-on entries more are.1 others)

-- rows without a result were read before
abbrev pub HasPassed : Reader → Reader → Type 0
HasPassed old now = (directives : List Entry) × AreDirectives directives × GoesOver old directives now

pub passed-nowhere : (reader : Reader) → HasPassed reader reader
passed-nowhere reader = ([], tt, goes-nowhere reader)

pub passed-on : {old mid new : Reader} {entries : List Entry} → HasPassed old mid → AreDirectives entries → GoesOver mid entries new
    → HasPassed old new
passed-on {entries = entries} passed are goes =
    (passed.0 ++ entries, directives-on passed.0 entries passed.1 are, goes-on passed.2 goes)

-- a record or an include is no directive
pub no-directive : {N : Type 0} (name : N → List (List ℕ)) (entry : found.Entry N) → entry_of name (Some entry) ≡ Directive → ⊥
no-directive name (entries.Record rr) is = let no : ⊥ = cc in no
no-directive name (entries.Include path origin) is = let no : ⊥ = cc in no

-- the result after them
pub given-behind : {old mid new : Reader} {entry : Entry} → HasPassed old mid → (entry ≡ Directive → ⊥) → GoesOver mid (entry ∷ []) new
    → Gives old (Ok (Some entry)) new
given-behind passed other goes = Gives.given passed.0 passed.1 other (goes-on passed.2 goes)

pub ended-behind : {old new : Reader} → HasPassed old new → is_end (left_of new) ≡ true → Gives old (Ok None) new
ended-behind passed ends = Gives.ended passed.1 passed.2 ends

pub refused-behind : {old new : Reader} (error : EntryError) → HasPassed old new → (is_memory error ≡ false → IsRefusedAt new)
    → Gives old (Err error) new
refused-behind {old} {new} error passed refused = by (is_memory error) refl
  where
    by : (b : Bool) → is_memory error ≡ b → Gives old (Err error) new
    by true is = Gives.out_of_memory passed.1 passed.2 is
    by false is = Gives.refused passed.1 passed.2 (refused is) is

length-zero : {A : Type 0} (all : List A) → length all ≡ 0 → all ≡ []
length-zero [] none = refl
length-zero (item ∷ others) none = absurd (omega (arith, none))

-- the row of the same tokens
pub same-row : {text text' : List ℕ} {spans spans' : List TokenSpan} {blank_led : Bool} → text ≡ text' → spans ≡ spans'
    → row_of blank_led (map (λ span. token_in text span) spans) ≡ row_of blank_led (map (λ span. token_in text' span) spans')
same-row {blank_led = blank_led} texts all = λ i. row_of blank_led (map (λ span. token_in (texts i) span) (all i))

-- one row
module _ (text : List ℕ) (place next : ℕ) (spans : List TokenSpan) (blank_led : Bool) (row : IsRowAt text place spans next blank_led) where
  begins-there : BeginsWithRows (drop place text) (row_of blank_led (map (λ span. token_in text span) spans) ∷ []) (drop next text)
  begins-there =
      subst (λ (l : Bool). BeginsWithRows (drop place text) (row_of l (map (λ span. token_in text span) spans) ∷ []) (drop next text)) (sym row.leads)
      (BeginsWithRows.more row.row BeginsWithRows.none)

  pub goes-bare : (context : Context) (count : ℕ) → length spans ≡ 0
      → GoesOver (record { text = text; place = place; context = context; count = count }) []
      (record { text = text; place = next; context = context; count = count })
  goes-bare context count none = record {
    rows = row_of blank_led (map (λ span. token_in text span) spans) ∷ [];
    begins = begins-there;
    are = subst (λ (s : List TokenSpan). AreEntries context (row_of blank_led (map (λ span. token_in text span) s) ∷ []) [] context)
        (sym (length-zero spans none)) (AreEntries.bare AreEntries.none);
    count = omega arith;
    text = refl;
  }

  pub goes-entry : (context after : Context) (count : ℕ) (entry : Entry)
      → IsEntry context (row_of blank_led (map (λ span. token_in text span) spans)) entry after
      → GoesOver (record { text = text; place = place; context = context; count = count }) (entry ∷ [])
      (record { text = text; place = next; context = after; count = count + 1 })
  goes-entry context after count entry is = record {
    rows = row_of blank_led (map (λ span. token_in text span) spans) ∷ [];
    begins = begins-there;
    are = AreEntries.entry is AreEntries.none;
    count = omega arith;
    text = refl;
  }

  some-tokens : 0 < length spans → map (λ span. token_in text span) spans ≢ []
  some-tokens some = by spans some
    where
      by : (all : List TokenSpan) → 0 < length all → map (λ span. token_in text span) all ≢ []
      by [] some none = omega (arith, some)
      by (span ∷ others) some none = let no : ⊥ = cc in no

  pub refused-row : (context : Context) (count : ℕ) → 0 < length spans
      → ((entry : Entry) (after : Context) → IsEntry context (row_of blank_led (map (λ span. token_in text span) spans)) entry after → ⊥)
      → IsRefusedAt (record { text = text; place = place; context = context; count = count })
  refused-row context count some none = IsRefusedAt.no_entry begins-there (some-tokens some) none
