-- A zone's text in which one row is replaced by another.
use Rattle.std.proofs.Common.{◌≡◌, ℕ, List, [], ◌∷◌, ◌++◌, Option, append_assoc, sym, ◌∙◌, ap, subst}
use Rattle.std.specs.List.{AllByRecursion}
use Rattle.dns_text.specs.Rows.{BeginsWithRows, TokenRow}
use Rattle.dns_text.specs.Rows.BeginsWithRows.{none as no_rows, more as more_rows}
use Rattle.dns_text.proofs.OneRow.{no_row_at_end}
use Rattle.dns_zonefile.specs.Entries.{AreEntries}
use Rattle.dns_zonefile.specs.Entries.AreEntries.{none, bare, entry}
use Rattle.dns_zonefile.specs.Entry.{Context, Entry, IsEntry}
use Rattle.dns_zonefile.specs.Entry.Entry.{Directive, Include, Resource}
use Rattle.dns_zonefile.proofs.OneEntry.{entry_has_tokens, one_entry}
use Rattle.dns_zonefile.proofs.RowFronts.{all_rows}
use Rattle.zone_records.specs.Held.{record_of}
use Rattle.zone_records.specs.Record.{Record}
use Rattle.zone_records.specs.Zone.{IsZoneFront}
use Rattle.zone.specs.ZoneText.{IsWellTyped, IsZoneText, NamesNoFile, records_in, start_of}
use Rattle.zone.proofs.UnknownRows.{MakesAs}

-- The rows are entries of the same records.
record Kept (context : Context) (rows : List TokenRow) (all : List Entry) (after : Context) : Type 0 where
  entries : List Entry
  are : AreEntries context rows entries after
  records_are : records_in entries ≡ records_in all
  one_file : AllByRecursion NamesNoFile all → AllByRecursion NamesNoFile entries

one_more : (found : Entry) (entries all : List Entry) → records_in entries ≡ records_in all → records_in (found ∷ entries) ≡ records_in (found ∷ all)
one_more (Resource rr) entries all same = ap (λ (l : List Record). record_of rr ∷ l) same
one_more (Include path origin) entries all same = same
one_more Directive entries all same = same

-- the first rows are the same
same_row : {context next between after : Context} {row row' : TokenRow} {found found' : Entry} {rows others : List TokenRow} {all : List Entry}
    → row' ≡ row → IsEntry context row found next → IsEntry context row' found' between → AreEntries between rows all after
    → (AreEntries next rows all after → Kept next others all after) → Kept context (row ∷ others) (found' ∷ all) after
same_row {context} {between = between} {after = after} {found' = found'} {rows = rows} {others = others} {all = all} first is is' are kept =
    let there = subst (λ (r : TokenRow). IsEntry context r found' between) first is' in
    let one = one_entry is there in
    let rest = kept (subst (λ (c : Context). AreEntries c rows all after) (sym one.1) are) in
    record {
      entries = found' ∷ rest.entries;
      are = entry there (subst (λ (c : Context). AreEntries c others rest.entries after) one.1 rest.are);
      records_are = one_more found' rest.entries all rest.records_are;
      one_file = λ each. (each.0, rest.one_file each.1);
    }

kept : {start context after : Context} {rows found : List TokenRow} {entries all : List Entry} (row other : TokenRow) (more : List TokenRow)
    → (row.tokens ≡ [] → ⊥) → MakesAs context row other → AreEntries start rows entries context → found ≡ rows ++ row ∷ more
    → AreEntries start found all after → Kept start (rows ++ other ∷ more) all after
kept row other more some makes none is none = absurd cc
kept row other more some makes none is (bare {blank_led = blank_led} are) =
    let first : record { blank_led = blank_led; tokens = [] } ≡ row = cc in absurd (some (sym (ap (λ (r : TokenRow). r.tokens) first)))
kept {context = context} {after = after} row other more some makes none is (entry {next = next} {row = row'} {rows = rows} {entry = found} {entries = all} has are) =
    let first : row' ≡ row = cc in
    let behind : rows ≡ more = cc in
    let made = makes found next (subst (λ (r : TokenRow). IsEntry context r found next) first has) in
    record {
      entries = made.entry ∷ all;
      are = entry made.is (subst (λ (l : List TokenRow). AreEntries next l all after) behind are);
      records_are = made.records_are all;
      one_file = λ each. (made.one_file each.0, each.1);
    }
kept row other more some makes (bare begins) is none = absurd cc
kept row other more some makes (bare {rows = rows} begins) is (bare {rows = rows'} are) =
    let behind : rows' ≡ rows ++ row ∷ more = cc in
    let rest = kept row other more some makes begins behind are in
    record { entries = rest.entries; are = bare rest.are; records_are = rest.records_are; one_file = rest.one_file }
kept row other more some makes (bare {blank_led = blank_led} begins) is (entry {row = row'} has are) =
    let first : row' ≡ record { blank_led = blank_led; tokens = [] } = cc in absurd (entry_has_tokens has (ap (λ (r : TokenRow). r.tokens) first))
kept row other more some makes (entry has begins) is none = absurd cc
kept row other more some makes (entry {row = row'} has begins) is (bare {blank_led = blank_led} are) =
    let first : record { blank_led = blank_led; tokens = [] } ≡ row' = cc in
    absurd (entry_has_tokens has (sym (ap (λ (r : TokenRow). r.tokens) first)))
kept row other more some makes (entry {row = row'} {rows = rows} has begins) is (entry {row = row''} {rows = rows'} has' are) =
    let first : row'' ≡ row' = cc in
    let behind : rows' ≡ rows ++ row ∷ more = cc in
    same_row first has has' are (λ there. kept row other more some makes begins behind there)

-- rows after others
rows_append : {text rest left : List ℕ} {rows others : List TokenRow} → BeginsWithRows text rows rest → BeginsWithRows rest others left
    → BeginsWithRows text (rows ++ others) left
rows_append no_rows behind = behind
rows_append (more_rows first rows) behind = more_rows first (rows_append rows behind)

-- A row may replace another that makes the same.
pub row_replaced : {text other rest : List ℕ} {origin : Option (List (List ℕ))} {class : ℕ} {records : List Record} {rows : List TokenRow}
    {entries : List Entry} {context : Context} (row other_row : TokenRow) → (row.tokens ≡ [] → ⊥) → MakesAs context row other_row
    → AreEntries (start_of origin class) rows entries context → BeginsWithRows text (rows ++ row ∷ []) rest
    → BeginsWithRows other (rows ++ other_row ∷ []) rest → IsZoneText text origin class records → IsZoneText other origin class records
row_replaced {other = other} {rows = rows} row other_row some makes are begins other_begins zone =
    let is = zone.has.is_text in
    let all = all_rows is.begins (λ tokens behind. no_row_at_end is.ends) begins in
    let behind = all.behind in
    let here = kept row other_row behind some makes are (all.is ∙ append_assoc rows (row ∷ []) behind) zone.has.are in
    record {
      class_known = zone.class_known;
      entries = here.entries;
      has = record {
        rows = rows ++ other_row ∷ behind;
        is_text = record {
          rest = is.rest;
          begins =
              subst (λ (l : List TokenRow). BeginsWithRows other l is.rest) (append_assoc rows (other_row ∷ []) behind)
              (rows_append other_begins all.begins);
          ends = is.ends;
        };
        after = zone.has.after;
        are = here.are;
      };
      keep = record {
        one_file = here.one_file zone.keep.one_file;
        each = subst (λ (l : List Record). AllByRecursion IsWellTyped l) (sym here.records_are) zone.keep.each;
        front = subst IsZoneFront (sym here.records_are) zone.keep.front;
      };
      are = zone.are ∙ sym here.records_are;
      zone = zone.zone;
    }
