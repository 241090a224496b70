-- The printed text of a zone is a zone's text.
use Rattle.std.proofs.Common.{◌≡◌, ◌≢◌, ℕ, List, [], ◌∷◌, ◌++◌, Option, Some, map, refl, sym, ◌∙◌, ap, subst}
use Rattle.std.specs.List.{AllByRecursion}
use Rattle.dns_label.specs.Octets.{AreOctets}
use Rattle.dns_scan.specs.StringText.{SpellsOnly, between_quotes, unquoted_text}
use Rattle.dns_scan.specs.Token.{Token}
use Rattle.dns_text.specs.Document.{Layout, Piece, document_text}
use Rattle.dns_text.specs.Document.Piece.{Newline}
use Rattle.dns_text.specs.DocumentRows.{HasRows}
use Rattle.dns_text.specs.DocumentRows.HasRows.{none as no_rows}
use Rattle.dns_text.specs.Rows.{IsText, unled}
use Rattle.dns_text.proofs.DocumentSplits.{document_splits}
use Rattle.dns_zonefile.specs.Entries.{AreEntries}
use Rattle.dns_zonefile.specs.Entries.AreEntries.{none as no_entries, entry}
use Rattle.dns_zonefile.specs.Entry.{Context, Entry}
use Rattle.dns_zonefile.specs.Entry.Entry.{Resource}
use Rattle.zone_records.specs.Record.{Record}
use Rattle.zone_records.specs.Records.{AreRecordsOf, IsRecordOf}
use Rattle.zone_records.specs.Zone.{IsZone, IsZoneFront, any_class}
use Rattle.zone.specs.Printed.{IsPrinted}
use Rattle.zone.specs.Printed.IsPrinted.{none as no_record, more as more_records}
use Rattle.zone.specs.ZoneText.{IsWellTyped, IsZoneText, NamesNoFile, records_in, start_of}
use Rattle.zone.proofs.JoinedDocuments.{document_joined, rows_joined}
use Rattle.zone.proofs.PrintedRecords.{behind, record_stated}

-- The text is that of a document of rows, and these are entries that are the records.
record AreStated (layout : Layout) (context : Context) (records : List Record) (text : List ℕ) : Type 0 where
  document : List Piece
  rows : List (List Token)
  has : HasRows 0 document rows
  text_is : text ≡ document_text layout document
  entries : List Entry
  after : Context
  are : AreEntries context (map unled rows) entries after
  records_are : records ≡ records_in entries
  one_file : AllByRecursion NamesNoFile entries

each_well_typed : (class : ℕ) (records : List Record) → AllByRecursion (IsRecordOf class) records → AllByRecursion IsWellTyped records
each_well_typed class [] each = tt
each_well_typed class (r ∷ records) each =
    (record { data_is = each.0.sendable.data_is; spellable = each.0.sendable.spellable }, each_well_typed class records each.1)

zone_front : (records : List Record) → IsZone records → IsZoneFront records
zone_front [] is = absurd is
zone_front (soa ∷ others) is = is

-- what the texts of strings spell
module _ (in_quotes : (text : List ℕ) → AreOctets text → SpellsOnly (between_quotes text) text)
    (in_words : (text : List ℕ) → AreOctets text → SpellsOnly (unquoted_text text) text) where
  records_stated : (layout : Layout) (class : ℕ) (context : Context) {records : List Record} {text : List ℕ}
      → AllByRecursion (IsRecordOf class) records → IsPrinted layout records text → context.class ≡ Some class
      → AreStated layout context records text
  records_stated layout class context each no_record at = record {
    document = [];
    rows = [];
    has = no_rows;
    text_is = refl;
    entries = [];
    after = context;
    are = no_entries;
    records_are = refl;
    one_file = tt;
  }
  records_stated layout class context each (more_records {r = r} {rest = rest} document shown printed whole) at =
      let class_is : r.class ≡ class = each.0.sendable.class_is in
      let first = record_stated in_quotes in_words class r document each.0 shown in
      let others = records_stated layout class (behind context r) each.1 printed (ap Some class_is) in
      record {
        document = (document ++ Newline ∷ []) ++ others.document;
        rows = first.tokens ∷ others.rows;
        has = rows_joined first.rows others.has;
        text_is =
            whole ∙ ap (λ (l : List ℕ). document_text layout (document ++ Newline ∷ []) ++ l) others.text_is
            ∙ sym (document_joined first.rows layout others.document);
        entries = Resource first.rr ∷ others.entries;
        after = others.after;
        are = entry (first.entry context (at ∙ ap Some (sym class_is))) others.are;
        records_are = λ i. first.is i ∷ others.records_are i;
        one_file = (tt, others.one_file);
      }

  pub zone_text_made : (layout : Layout) (origin : Option (List (List ℕ))) (class : ℕ) (records : List Record) (text : List ℕ) → class ≢ any_class
      → AreRecordsOf class records → IsPrinted layout records text → IsZoneText text origin class records
  zone_text_made layout origin class records text known are printed =
      let all = records_stated layout class (start_of origin class) are.each printed refl in
      let splits = document_splits layout all.document all.rows all.has in
      record {
        class_known = known;
        entries = all.entries;
        has = record {
          rows = map unled all.rows;
          is_text = subst (λ (l : List ℕ). IsText l (map unled all.rows)) (sym all.text_is) splits;
          after = all.after;
          are = all.are;
        };
        keep = record {
          one_file = all.one_file;
          each = subst (λ (l : List Record). AllByRecursion IsWellTyped l) all.records_are (each_well_typed class records are.each);
          front = subst IsZoneFront all.records_are (zone_front records are.zone);
        };
        are = all.records_are;
        zone = are.zone;
      }
