-- The row of the entry that breaks a rule.
use Rattle.std.proofs.Common.{◌≡◌, ◌<◌, ◌+◌, ◌++◌, ◌∙◌, ℕ, min, Bool, true, false, List, [], ◌∷◌, Option, Some, None, Result, Ok, Err, drop, length, map, cond, refl, ap, arith, length-append}
use Rattle.std.specs.Prelude.{count_by, IfOk}
use Rattle.std.proofs.lemmas.List.Sums.{sum_by-append}
use Rattle.dns_scan.specs.Token.{Token}
use Rattle.dns_text.specs.Rows.{BeginsWithRows, TokenRow, is_led}
use Rattle.dns_text.proofs.OneRow.{no_row_at_end}
use Rattle.dns_entry_scanner.specs.RowFound.{IsFoundAt, IsRowAt, NoRow}
use Rattle.dns_entry_scanner.specs.declared.row.RowFound.{RowFound}
use Rattle.dns_entry_scanner.specs.declared.row.RowFound.TheVariants.{Row as Found, End, Broken}
use Rattle.dns_entry_scanner.specs.TokenSpan.{token_in}
use Rattle.dns_entry_scanner.specs.declared.token_span.TokenSpan.{TokenSpan}
use Rattle.dns_zonefile.specs.Entries.{AreEntries}
use Rattle.dns_zonefile.specs.Entry.{Context, Entry}
use Rattle.dns_zonefile.proofs.Going.{begins-on}
use Rattle.dns_zonefile.proofs.OneEntry.{entry_has_tokens}
use Rattle.dns_zonefile.proofs.RowFronts.{all_rows}
use Rattle.zone.specs.ZoneText.{IsZoneFault, Reaches}
use Rattle.zone.specs.declared.zone_error.ZoneError.{ZoneError}
use Rattle.zone.specs.declared.zone_error.ZoneError.TheVariants as zone_error
use Rattle.zone_reasons.specs.declared.located.Located.{Located}
use Rattle.zone_explain.specs.EntryRow.{HasPassed, IsEntryRow, IsFaultRow, breaks_entry, number_of}
use Rattle.zone_explain.specs.Explained.{BeginsAt, IsRulePlace, any_tokens, behind_blanks, has_tokens}

some_true : (tokens : List Token) → (tokens ≡ [] → ⊥) → any_tokens tokens ≡ true
some_true [] some = absurd (some refl)
some_true (token ∷ tokens) some = refl

-- so many rows are entries
pub entries_counted : {context after : Context} {rows : List TokenRow} {entries : List Entry} → AreEntries context rows entries after
    → count_by has_tokens rows ≡ length entries
entries_counted AreEntries.none = refl
entries_counted (AreEntries.bare are) = entries_counted are
entries_counted (AreEntries.entry {row = row} {rows = rows} {entries = entries} is are) =
    let one : cond (has_tokens row) 1 0 ≡ 1 = ap (λ (b : Bool). cond {A = ℕ} b 1 0) (some_true row.tokens (entry_has_tokens is)) in
    omega (arith, one, sum_by-append (λ (r : TokenRow). cond (has_tokens r) 1 0) (row ∷ []) rows, entries_counted are)

pub spans_true : (text : List ℕ) (spans : List TokenSpan) → 0 < length spans → any_tokens (map (λ span. token_in text span) spans) ≡ true
spans_true text [] some = absurd (omega (arith, some))
spans_true text (span ∷ spans) some = refl

spans_counted : (text : List ℕ) (spans : List TokenSpan)
    → cond (any_tokens (map (λ span. token_in text span) spans)) 1 0 ≡ min 1 (length spans)
spans_counted text [] = refl
spans_counted text (span ∷ spans) = omega arith

pub passes_nothing : (text : List ℕ) (start count : ℕ) → count ≡ 0 → HasPassed text start start count
passes_nothing text start count is = record { rows = []; begins = BeginsWithRows.none; counted = is }

pub passes_also : {text : List ℕ} {start place count same : ℕ} → HasPassed text start place count → same ≡ count → HasPassed text start place same
passes_also passed is = record { rows = passed.rows; begins = passed.begins; counted = is ∙ passed.counted }

pub passes_row : {text : List ℕ} {start place next count behind : ℕ} {spans : List TokenSpan} {blank_led : Bool} → HasPassed text start place count
    → IsRowAt text place spans next blank_led → behind ≡ count + min 1 (length spans) → HasPassed text start next behind
passes_row {text} {place = place} {spans = spans} passed at is =
    let row : TokenRow = record { blank_led = is_led (drop place text); tokens = map (λ span. token_in text span) spans } in
    record {
      rows = passed.rows ++ row ∷ [];
      begins = begins-on passed.begins (BeginsWithRows.more at.row BeginsWithRows.none);
      counted = omega (
        arith,
        is,
        passed.counted,
        spans_counted text spans,
        sum_by-append (λ (r : TokenRow). cond (has_tokens r) 1 0) passed.rows (row ∷ []),
      );
    }

-- where there is no row
pub no_row : (text : List ℕ) (place : ℕ) (spans : List TokenSpan) (found : RowFound)
    → ((next : ℕ) (blank_led : Bool) → found ≡ Found next blank_led → ⊥) → IsFoundAt text place spans found → NoRow (drop place text)
no_row text place spans (Found next blank_led) other at = absurd (other next blank_led refl)
no_row text place spans End other at = λ tokens rest row. no_row_at_end at row
no_row text place spans Broken other at = at.1

-- Where an entry breaks the rule although it reads, it is reached, and the place is that of this entry.
data Breaks (text : List ℕ) (origin : Option (List (List ℕ))) (class : ℕ) (fault : ZoneError) : Type 0 where
  reached : {n : ℕ} {before : List Entry} {entry : Entry} → number_of fault ≡ Some n → Reaches text origin class n before entry
      → ((place : ℕ) → BeginsAt text n place → IsRulePlace text fault place) → Breaks text origin class fault
  other : ((place : ℕ) → IsRulePlace text fault place) → Breaks text origin class fault

breaks : {text : List ℕ} {origin : Option (List (List ℕ))} {class : ℕ} (fault : ZoneError) → IsZoneFault text origin class fault
    → Breaks text origin class fault
breaks zone_error.ClassAny is = other (λ place. tt)
breaks (zone_error.Text n) is = other (λ place. tt)
breaks (zone_error.Include n) is = reached refl is.3 (λ place there. there)
breaks (zone_error.Untyped n) is = reached refl is.2.2 (λ place there. there)
breaks (zone_error.FirstNotSoa n) is = reached refl is.1.2 (λ place there. there)
breaks (zone_error.SecondSoa n) is = reached refl is.3.2 (λ place there. there)
breaks (zone_error.OutOfZone n) is = reached refl is.3.2 (λ place there. there)
breaks (zone_error.Unspellable n) is = reached refl is.2.2 (λ place there. there)
breaks zone_error.NoSoa is = other (λ place. tt)
breaks zone_error.OutOfMemory is = other (λ place. tt)

-- the entry of the row
pub found_at : (text : List ℕ) (class place start : ℕ) (fault : ZoneError) (spans : List TokenSpan) (blank_led : Bool)
    → IsFaultRow text class fault place spans (Some blank_led) → drop start text ≡ behind_blanks (drop place text)
    → IsRulePlace text fault start
found_at text class place start fault spans blank_led is there = by (breaks fault is.breaks)
  where
    row : IsEntryRow text 0 is.n place spans (Some blank_led)
    row = is.row

    by : Breaks text is.origin class fault → IsRulePlace text fault start
    by (other all) = all start
    by (reached {n = m} same reaches needs) =
        let numbered = is.numbered in
        let numbers : m ≡ is.n = cc in
        needs start (record {
          rows = row.0.rows;
          row = record { blank_led = is_led (drop place text); tokens = map (λ span. token_in text span) spans };
          left = drop place text;
          rest = drop row.2.0 text;
          begins = row.0.begins;
          counted = omega (arith, numbers, reaches.counted, row.0.counted);
          entry = BeginsWithRows.more row.2.1.row BeginsWithRows.none;
          some = spans_true text spans row.1;
          place_is = there;
        })

-- the rows reach as far as the entry
pub stopped_at : (text : List ℕ) (class place start : ℕ) (fault : ZoneError) (spans : List TokenSpan)
    → IsFaultRow text class fault place spans None → IsRulePlace text fault start
stopped_at text class place start fault spans is = by (breaks fault is.breaks)
  where
    stopped : IsEntryRow text 0 is.n place spans None
    stopped = is.row

    by : Breaks text is.origin class fault → IsRulePlace text fault start
    by (other all) = all start
    by (reached {n = m} {before = before} {entry = entry} same reaches needs) =
        let numbered = is.numbered in
        let numbers : m ≡ is.n = cc in
        let passed = stopped.1.1 in
        let rows = all_rows passed.begins stopped.0 reaches.begins in
        absurd (omega (
          arith,
          numbers,
          reaches.counted,
          stopped.1.2,
          passed.counted,
          ap (count_by has_tokens) rows.is,
          sum_by-append (λ (r : TokenRow). cond (has_tokens r) 1 0) reaches.rows rows.behind,
          entries_counted reaches.are,
          length-append before (entry ∷ []),
        ))

-- a rule that breaks at no entry's start
any : (text : List ℕ) (place : ℕ) (fault : ZoneError) → breaks_entry fault ≡ false → IsRulePlace text fault place
any text place zone_error.ClassAny none = tt
any text place (zone_error.Text n) none = tt
any text place (zone_error.Include n) none = absurd cc
any text place (zone_error.Untyped n) none = absurd cc
any text place (zone_error.FirstNotSoa n) none = absurd cc
any text place (zone_error.SecondSoa n) none = absurd cc
any text place (zone_error.OutOfZone n) none = absurd cc
any text place (zone_error.Unspellable n) none = absurd cc
any text place zone_error.NoSoa none = tt
any text place zone_error.OutOfMemory none = tt

pub any_place : {E : Type 0} (P : Type 0) (text : List ℕ) (fault : ZoneError) (result : Result Located E)
    → breaks_entry fault ≡ false → IfOk result (λ located. P → IsRulePlace text fault located.start)
any_place P text fault (Ok located) none = λ _. any text located.start fault none
any_place P text fault (Err error) none = tt

pub no_start : {E : Type 0} (P : Located → Type 0) (fault : ZoneError) (result : Result Located E) → breaks_entry fault ≡ false
    → IfOk result (λ located. breaks_entry fault ≡ true → P located)
no_start P fault (Ok located) none = λ some. absurd cc
no_start P fault (Err error) none = tt
