-- The walk over each fault of a zone's text.
use Rattle.std.proofs.Common.{◌≡◌, ◌≢◌, ◌<◌, ◌≤◌, ◌+◌, ◌-◌, ◌++◌, ◌==◌, ◌∙◌, ℕ, suc, Bool, true, false, if◌then◌else◌, List, [], ◌∷◌, Option, Some, None, Result, Ok, Err, Box, Global, box_value, drop, length, map, cond, refl, sym, ap, subst, arith, length-append}
use Rattle.std.specs.Prelude.{⊤, count_by, IfOk, OnOk, IfSome, IfNone}
use Rattle.std.proofs.lemmas.List.Sums.{sum_by-append}
use Rattle.dns_label.specs.Name.{IsName}
use Rattle.dns_text.specs.Rows.{BeginsWithRows, TokenRow, is_led}
use Rattle.dns_text.specs.Tokens.{Row, is_end}
use Rattle.dns_text.proofs.OneRow.{no_row_at_end}
use Rattle.dns_header.specs.Record.{RecordOf}
use Rattle.dns_rdata.specs.Data.{Data}
use Rattle.dns_message.specs.Held.{record_of}
use Rattle.dns_entry_scanner.specs.RowFound.{IsRowAt, NoRow}
use Rattle.dns_entry_scanner.specs.EntryError.{is_memory}
use Rattle.dns_entry_scanner.specs.TokenSpan.{token_in}
use Rattle.dns_entry_scanner.specs.declared.entry_error.EntryError.{EntryError}
use Rattle.dns_entry_scanner.specs.declared.token_span.TokenSpan.{TokenSpan}
use Rattle.dns_entry_scanner.proofs.Rows.{row_shorter}
use Rattle.dns_zonefile.specs.Composed.{HandsOn, included}
use Rattle.dns_zonefile.specs.declared.entry.ComposedEntry.{ComposedEntry}
use Rattle.dns_zonefile.specs.declared.entry.ComposedEntry.TheVariants as composed
use Rattle.dns_zonefile.specs.declared.entry.IncludedFile.{IncludedFile}
use Rattle.dns_zonefile.specs.Entry.{Entry}
use Rattle.dns_zonefile.specs.Entry.Entry.{Include, Resource}
use Rattle.dns_zonefile.specs.PassedOver.{IsPassed, PassesOver}
use Rattle.dns_entry_scanner.specs.Lines.{behind_line, line_at}
use Rattle.dns_zonefile.specs.Reader.{Gives, GoesOver, IsRefusedAt, Reader, left_of}
use Rattle.dns_zonefile.proofs.RowFronts.{all_rows}
use Rattle.zone_records.specs.Record.{Record}
use Rattle.zone.specs.Reading.{BreaksRule, IsCheckFault, MayStandUnder}
use Rattle.zone.specs.ZoneText.{IsWellTyped}
use Rattle.zone.specs.declared.zone_error.ZoneError.{ZoneError}
use Rattle.zone.specs.declared.zone_error.ZoneError.TheVariants as zone_error
use Rattle.zone.proofs.KeptContexts.{entries_named}
use Rattle.zone.proofs.ReaderSteps.{HandsOver}
use Rattle.zone_explain.specs.AllFaults.{AreFaults, Finds, Front, IsLastAt, apex_for, front_after, front_refused}
use Rattle.zone_explain.specs.EntryRow.{IsEntryRow, breaks_entry}
use Rattle.zone_explain.specs.Explained.{behind_blanks, has_tokens}
use Rattle.zone_explain.specs.Walk.{GoesOn, Leads, StartsAt, front_of}
use Rattle.zone_explain.specs.declared.explain.walk.Front.{Front as Shown}
use Rattle.zone_explain.specs.declared.explain.walk.Front.TheVariants as shown
use Rattle.zone_explain.specs.declared.explain.Finding.{Finding}
use Rattle.zone_explain.specs.declared.explain.walk.Start.{Start}
use Rattle.zone_explain.specs.declared.explain.walk.Step.{Step}
use Rattle.zone_explain.specs.declared.explain.walk.Step.TheVariants as step
use Rattle.zone_explain.proofs.EntryRows.{entries_counted, spans_true}

-- what holds of a value, if there is one
pub with_both : {T E P Q R : Type 0} (result : Result T E) → OnOk result P → OnOk result Q → (P → Q → R) → OnOk result R
with_both (Ok value) p q both = both p q
with_both (Err error) p q both = tt

pub if_both : {T E Q : Type 0} {P R : T → Type 0} (result : Result T E) → IfOk result P → OnOk result Q → ((value : T) → P value → Q → R value)
    → IfOk result R
if_both (Ok value) p q both = both value p q
if_both (Err error) p q both = tt

pub if_ok : {T E : Type 0} {P R : T → Type 0} (result : Result T E) → IfOk result P → ((value : T) → P value → R value) → IfOk result R
if_ok (Ok value) p each = each value p
if_ok (Err error) p each = tt

left_is : {text : List ℕ} {start : Start} {old : Reader} → StartsAt text start old → left_of old ≡ drop start.place text
left_is at = λ i. drop (at.place_is i) (at.text_is i)

-- the rows that the reader went over
record Went (text : List ℕ) (start : Start) (new : Reader) : Type 0 where
  rows : List TokenRow
  begins : BeginsWithRows (drop start.place text) rows (left_of new)
  counted : new.count ≡ start.count + count_by has_tokens rows
  some : 1 ≤ count_by has_tokens rows

went : {text : List ℕ} {start : Start} {old new : Reader} {entry : Entry} → StartsAt text start old → Gives old (Ok (Some entry)) new → Went text start new
went {new = new} at (Gives.given directives {entry = entry} are other goes) =
    let entries = directives ++ entry ∷ [] in
    let tokens : count_by has_tokens goes.rows ≡ length entries = entries_counted goes.are in
    let count = goes.count in
    let before = at.count_is in
    let long = length-append directives (entry ∷ []) in record {
      rows = goes.rows;
      begins = subst (λ (l : List ℕ). BeginsWithRows l goes.rows (left_of new)) (left_is at) goes.begins;
      counted = omega (arith, tokens, count, before);
      some = omega (arith, tokens, long);
    }

-- the last entry begins where its row does
pub last_at : (text : List ℕ) (old new : Reader) (entry : Entry) (start : Start) (n place found : ℕ) (spans : List TokenSpan) (blank_led : Option Bool)
    → IsEntryRow text start.place n place spans blank_led → StartsAt text start old → Gives old (Ok (Some entry)) new
    → n ≡ new.count - start.count → (blank_led ≢ None → drop found text ≡ behind_blanks (drop place text)) → IsLastAt old new found
last_at text old new entry start n place found spans (Some blank_led) row at gives is there =
    let all = went at gives in
    let before = at.count_is in
    let some_led : Some blank_led ≢ None = λ none. absurd cc in record {
      rows = row.0.rows;
      row = record { blank_led = is_led (drop place text); tokens = map (λ span. token_in text span) spans };
      left = drop place text;
      rest = drop row.2.0 text;
      begins = subst (λ (l : List ℕ). BeginsWithRows l row.0.rows (drop place text)) (sym (left_is at)) row.0.begins;
      counted = omega (arith, is, before, all.counted, all.some, row.0.counted);
      entry = BeginsWithRows.more row.2.1.row BeginsWithRows.none;
      some = spans_true text spans row.1;
      place_is = ap (λ (t : List ℕ). drop found t) at.text_is ∙ there some_led;
    }
last_at text old new entry start n place found spans None row at gives is there =
    let all = went at gives in
    let passed = row.1.1 in
    let rows = all_rows passed.begins row.0 all.begins in
    absurd (omega (
      arith,
      is,
      all.counted,
      all.some,
      row.1.2,
      passed.counted,
      ap (count_by has_tokens) rows.is,
      sum_by-append (λ (r : TokenRow). cond (has_tokens r) 1 0) all.rows rows.behind,
    ))

-- What the reader goes over keeps its text, and its origin is a name.
pub text_kept : {old new : Reader} {given : Result (Option Entry) EntryError} → Gives old given new → new.text ≡ old.text
text_kept (Gives.given directives are other goes) = goes.text
text_kept (Gives.ended are goes ends) = goes.text
text_kept (Gives.refused are goes at real) = goes.text
text_kept (Gives.out_of_memory are goes memory) = goes.text

pub named_kept : {old new : Reader} {given : Result (Option Entry) EntryError} → IfSome old.context.origin IsName → Gives old given new
    → IfSome new.context.origin IsName
named_kept named (Gives.given directives are other goes) = entries_named named goes.are
named_kept named (Gives.ended are goes ends) = entries_named named goes.are
named_kept named (Gives.refused are goes at real) = entries_named named goes.are
named_kept named (Gives.out_of_memory are goes memory) = entries_named named goes.are

rows_shorter : {text rest : List ℕ} {rows : List TokenRow} → BeginsWithRows text rows rest → length rest ≤ length text
rows_shorter BeginsWithRows.none = omega arith
rows_shorter (BeginsWithRows.more row others) = omega (arith, row_shorter row, rows_shorter others)

-- a rule that a check finds broken
pub check_breaks : (unknown : Bool) (number : ℕ) (apex : Option (List (List ℕ))) (r : Record) (fault : ZoneError) → (fault ≡ zone_error.OutOfMemory → ⊥)
    → IsCheckFault unknown number apex r fault → BreaksRule number apex r fault × (breaks_entry fault ≡ true)
check_breaks unknown number apex r zone_error.ClassAny other broken = absurd broken
check_breaks unknown number apex r (zone_error.Text n) other broken = absurd broken
check_breaks unknown number apex r (zone_error.Include n) other broken = absurd broken
check_breaks unknown number apex r (zone_error.Untyped n) other broken = (broken, refl)
check_breaks unknown number apex r (zone_error.FirstNotSoa n) other broken = (broken, refl)
check_breaks unknown number apex r (zone_error.SecondSoa n) other broken = (broken, refl)
check_breaks unknown number apex r (zone_error.OutOfZone n) other broken = (broken, refl)
check_breaks unknown number apex r (zone_error.Unspellable n) other broken = (broken, refl)
check_breaks unknown number apex r zone_error.NoSoa other broken = absurd broken
check_breaks unknown number apex r zone_error.OutOfMemory other broken = absurd (other refl)

-- where a record leads
pub kept_leads : {old new : Reader} {before after : Front} {rr : RecordOf (List (List ℕ)) Data} → Gives old (Ok (Some (Resource rr))) new
    → IsWellTyped (record_of rr) × MayStandUnder (apex_for before (record_of rr)) (record_of rr) → after ≡ front_after before (record_of rr)
    → Leads old before step.Kept new after
kept_leads {new = new} gives keeps is = λ findings rest.
    AreFaults.keeps gives keeps.0 keeps.1 (subst (λ (front : Front). AreFaults new front findings) is rest)

pub breaks_leads : {old new : Reader} {before after : Front} {rr : RecordOf (List (List ℕ)) Data} {fault : ZoneError} {finding : Finding}
    → Gives old (Ok (Some (Resource rr))) new → BreaksRule new.count (apex_for before (record_of rr)) (record_of rr) fault
    → Finds old.text fault finding → IsLastAt old new finding.located.start → after ≡ front_after before (record_of rr)
    → Leads old before (step.Found finding) new after
breaks_leads {new = new} gives breaks finds last is = λ findings rest.
    AreFaults.breaks gives breaks finds last (subst (λ (front : Front). AreFaults new front findings) is rest)

-- where an entry leads that is passed over
feed_shorter : (feed : Bool) (text behind : List ℕ) → length behind ≤ length text → length (if feed then text else behind) ≤ length text
feed_shorter true text behind most = omega arith
feed_shorter false text behind most = most

behind_shorter : (text : List ℕ) → length (behind_line text) ≤ length text
behind_shorter [] = omega arith
behind_shorter (octet ∷ text) = omega (arith, feed_shorter (octet == 10) text (behind_line text) (behind_shorter text))

line_shorter : (text : List ℕ) → is_end text ≡ false → length (behind_line text) < length text
line_shorter [] more = absurd cc
line_shorter (octet ∷ text) more = omega (arith, feed_shorter (octet == 10) text (behind_line text) (behind_shorter text))

passed_shorter : {at : Reader} {left : List ℕ} → IsRefusedAt at → IsPassed (left_of at) left → length left < length (left_of at)
passed_shorter refused (IsPassed.row tokens row) = row_shorter row
passed_shorter {at} (IsRefusedAt.broken more none) (IsPassed.line stops is) =
    let same = ap (length {A = ℕ}) is in omega (arith, same, line_shorter (left_of at) more)
passed_shorter (IsRefusedAt.no_entry (BeginsWithRows.more row others) some not) (IsPassed.line stops is) = absurd (stops _ _ row)

pub record PassedOn (at new : Reader) : Type 0 where
  pub count : new.count ≡ at.count + 1
  pub text : new.text ≡ at.text
  pub context : new.context ≡ at.context
  pub shorter : length (left_of new) < length (left_of at)

pub passed_on : {at new : Reader} → IsRefusedAt at → PassesOver at new → PassedOn at new
passed_on refused (PassesOver.over is text context count) =
    record { count = count; text = text; context = context; shorter = passed_shorter refused is }
passed_on (IsRefusedAt.broken more none) (PassesOver.ended ends same) = let differ : false ≡ true = sym more ∙ ends in absurd cc
passed_on (IsRefusedAt.no_entry (BeginsWithRows.more row others) some not) (PassesOver.ended ends same) = absurd (no_row_at_end ends row)

pub refused_leads : {old at new : Reader} {before after : Front} {why : EntryError} {finding : Finding} (number : ℕ) → Gives old (Err why) at
    → is_memory why ≡ false → PassesOver at new → number ≡ at.count + 1 → Finds old.text (zone_error.Text number) finding
    → after ≡ front_refused before
    → Leads old before (step.Found finding) new after × (length (left_of new) < length (left_of old))
refused_leads {old} {new = new} {finding = finding} number (Gives.refused {directives = directives} are goes at real) is passes counted finds shows =
    let passed = passed_on at passes in
    let count = passed.count in
    let same : number ≡ new.count = omega (arith, counted, count) in (
      (λ findings rest.
          AreFaults.refused (Gives.refused {directives = directives} are goes at real) at passes
          (subst (λ n. Finds old.text (zone_error.Text n) finding) same finds)
          (subst (λ (front : Front). AreFaults new front findings) shows rest)),
      omega (arith, passed.shorter, rows_shorter goes.begins),
    )
refused_leads number (Gives.out_of_memory are goes memory) is passes counted finds shows =
    let differ : true ≡ false = sym memory ∙ is in absurd cc

pub none_there : {A P : Type 0} (found : Option A) → ((value : A) → found ≡ Some value → ⊥) → IfNone found P → P
none_there (Some value) other none = absurd (other value refl)
none_there None other none = none

pub refused_same : (front : Shown) → (front ≡ shown.Unseen → ⊥) → front_of front ≡ front_refused (front_of front)
refused_same shown.Unseen other = absurd (other refl)
refused_same shown.Missing other = refl
refused_same (shown.Under apex line) other = refl

-- where an include leads
pub include_leads : {old new : Reader} {front : Front} {path : List ℕ} {origin : Option (List (List ℕ))} {finding : Finding}
    → Gives old (Ok (Some (Include path origin))) new → Finds old.text (zone_error.Include new.count) finding
    → IsLastAt old new finding.located.start → Leads old front (step.Found finding) new front
include_leads gives finds last = λ findings rest. AreFaults.includes gives finds last rest

-- what a reader that appends octets gives
handed_none : {old octets : List ℕ} {found : Result (Option Entry) EntryError} {result : Result (Option ComposedEntry) EntryError} → result ≡ Ok None
    → HandsOn old found result octets → found ≡ Ok None
handed_none same (HandsOn.resource held whole) = absurd cc
handed_none same HandsOn.include = absurd cc
handed_none same HandsOn.ended = refl
handed_none same HandsOn.refused = absurd cc

pub gives_none : {reader new : Reader} {old octets : List ℕ} {result : Result (Option ComposedEntry) EntryError} → result ≡ Ok None
    → HandsOver reader old result new octets → Gives reader (Ok None) new
gives_none {reader} {new} same hands = subst (λ (f : Result (Option Entry) EntryError). Gives reader f new) (handed_none same hands.2) hands.1

handed_file : {old octets : List ℕ} {found : Result (Option Entry) EntryError} {file : Box IncludedFile Global}
    → HandsOn old found (Ok (Some (composed.Include file))) octets → found ≡ Ok (Some (included (box_value file)))
handed_file HandsOn.include = refl

pub gives_file : {reader new : Reader} {old octets : List ℕ} {result : Result (Option ComposedEntry) EntryError} {file : Box IncludedFile Global}
    → result ≡ Ok (Some (composed.Include file)) → HandsOver reader old result new octets → Gives reader (Ok (Some (included (box_value file)))) new
gives_file {reader} {new} {old} {octets} same hands =
    let handed = subst (λ (r : Result (Option ComposedEntry) EntryError). HandsOn old hands.0 r octets) same hands.2 in
    subst (λ (f : Result (Option Entry) EntryError). Gives reader f new) (handed_file handed) hands.1

pub goes_on : (old new : Reader) (next : Step) → (next ≡ step.Ended → ⊥) → length (left_of new) < length (left_of old) → GoesOn old next new
goes_on old new step.Ended other shorter = tt
goes_on old new step.Kept other shorter = shorter
goes_on old new (step.Found finding) other shorter = shorter

handed_reason : {old octets : List ℕ} {found : Result (Option Entry) EntryError} {why : EntryError} → HandsOn old found (Err why) octets
    → found ≡ Err why
handed_reason HandsOn.refused = refl

pub gives_refused : {reader new : Reader} {old octets : List ℕ} {result : Result (Option ComposedEntry) EntryError} {why : EntryError}
    → result ≡ Err why → HandsOver reader old result new octets → Gives reader (Err why) new
gives_refused {reader} {new} {old} {octets} same hands =
    let handed = subst (λ (r : Result (Option ComposedEntry) EntryError). HandsOn old hands.0 r octets) same hands.2 in
    subst (λ (f : Result (Option Entry) EntryError). Gives reader f new) (handed_reason handed) hands.1
