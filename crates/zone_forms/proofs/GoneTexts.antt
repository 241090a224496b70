-- Texts that go to others, row by row: the entries of both.
use Rattle.std.proofs.Common.{◌≡◌, ℕ, true, List, [], ◌∷◌, subst, sym}
use Rattle.dns_text.specs.Rows.{BeginsWithRows, TokenRow}
use Rattle.dns_text.specs.Tokens.{is_end}
use Rattle.dns_zonefile.proofs.Going.{begins-on}
use Rattle.dns_zonefile.specs.Entries.{AreEntries}
use Rattle.dns_zonefile.specs.Entry.{Context, Entry}
use Rattle.zone_general.proofs.RewrittenParts.{row_begins}
use Rattle.zone_general.specs.LongerEntries.{AreLongerEntries, HasLongerEntries, IsLongerEntry}
use Rattle.dns_text.specs.Document.{Layout}
use Rattle.zone_forms.specs.Presented.{GoesPresented, IsGeneralOf, IsPresentedOf}
use Rattle.zone_forms.specs.Presented.GoesPresented.{same, presented}
use Rattle.zone_general.specs.Rewritten.{AreRow, GoesGeneral}
use Rattle.zone_forms.specs.Going.{GoesTo}
use Rattle.zone_forms.specs.Going.GoesTo.{ended, bare, more}

-- a relation between rows and their entries
abbrev pub Told : Type 1
Told = Context → TokenRow → List ℕ → List ℕ → Entry → Context → Type 0

-- a text with its rows, which are these entries
record Reads (Are : Context → List TokenRow → List Entry → Context → Type 0) (context : Context) (text : List ℕ) (entries : List Entry) (after : Context) : Type 0 where
  rows : List TokenRow
  rest : List ℕ
  begins : BeginsWithRows text rows rest
  ends : is_end rest ≡ true
  are : Are context rows entries after

pub bare_longer : {context after : Context} {rows : List TokenRow} {entries : List Entry} (row : TokenRow) → row.tokens ≡ []
    → AreLongerEntries context rows entries after → AreLongerEntries context (row ∷ rows) entries after
bare_longer {context} {after} {rows} {entries} row none are =
    subst (λ tokens. AreLongerEntries context (record { blank_led = row.blank_led; tokens = tokens } ∷ rows) entries after) (sym none) (AreLongerEntries.bare are)

bare_plain : {context after : Context} {rows : List TokenRow} {entries : List Entry} (row : TokenRow) → row.tokens ≡ []
    → AreEntries context rows entries after → AreEntries context (row ∷ rows) entries after
bare_plain {context} {after} {rows} {entries} row none are =
    subst (λ tokens. AreEntries context (record { blank_led = row.blank_led; tokens = tokens } ∷ rows) entries after) (sym none) (AreEntries.bare are)

-- the text's entries by the longer table
read_rows : (Goes : Told) → ((context : Context) (row : TokenRow) (octets new : List ℕ) (entry : Entry) (next : Context)
    → Goes context row octets new entry next → IsLongerEntry context row entry next)
    → {start after : Context} {text new : List ℕ} {entries : List Entry} → GoesTo Goes start text new entries after
    → Reads AreLongerEntries start text entries after
read_rows Goes longer (ended {rest = rest} is) =
    record { rows = []; rest = rest; begins = BeginsWithRows.none; ends = is; are = AreLongerEntries.none }
read_rows Goes longer (bare {text = text} {row = row} octets is none goes) =
    let others = read_rows Goes longer goes in record {
      rows = row ∷ others.rows;
      rest = others.rest;
      begins = begins-on (row_begins is text) others.begins;
      ends = others.ends;
      are = bare_longer row none others.are;
    }
read_rows Goes longer (more {context = context} {next = next} {text = text} {row = row} {entry = entry} octets other is some told goes) =
    let others = read_rows Goes longer goes in record {
      rows = row ∷ others.rows;
      rest = others.rest;
      begins = begins-on (row_begins is text) others.begins;
      ends = others.ends;
      are = AreLongerEntries.entry (longer context row octets other entry next told) others.are;
    }

longer_text : {start after : Context} {text : List ℕ} {entries : List Entry} → Reads AreLongerEntries start text entries after
    → HasLongerEntries start text entries
longer_text {after = after} reads = record {
  rows = reads.rows;
  is_text = record { rest = reads.rest; begins = reads.begins; ends = reads.ends };
  after = after;
  are = reads.are;
}

-- the other text's entries
general_rows : {start after : Context} {text new : List ℕ} {entries : List Entry} → GoesTo GoesGeneral start text new entries after
    → Reads AreEntries start new entries after
general_rows (ended {rest = rest} is) =
    record { rows = []; rest = rest; begins = BeginsWithRows.none; ends = is; are = AreEntries.none }
general_rows (bare {new = new} {row = row} octets is none goes) =
    let others = general_rows goes in record {
      rows = row ∷ others.rows;
      rest = others.rest;
      begins = begins-on (row_begins is new) others.begins;
      ends = others.ends;
      are = bare_plain row none others.are;
    }
general_rows (more {new = new} octets other is some told goes) =
    let others = general_rows goes in record {
      rows = told.general ∷ others.rows;
      rest = others.rest;
      begins = begins-on (row_begins told.are new) others.begins;
      ends = others.ends;
      are = AreEntries.entry told.so others.are;
    }

longer_general : (context : Context) (row : TokenRow) (octets new : List ℕ) (entry : Entry) (next : Context)
    → GoesGeneral context row octets new entry next → IsLongerEntry context row entry next
longer_general context row octets new entry next told = record { general = told.general; is = told.is; so = told.so }

pub general_gone : {start after : Context} {text new : List ℕ} {entries : List Entry} → GoesTo GoesGeneral start text new entries after
    → IsGeneralOf start text new
general_gone {start} {after} {text} {new} {entries} goes =
    let written = general_rows goes in record {
      entries = entries;
      after = after;
      goes = goes;
      read = longer_text (read_rows GoesGeneral longer_general goes);
      written = record {
        rows = written.rows;
        is_text = record { rest = written.rest; begins = written.begins; ends = written.ends };
        after = after;
        are = written.are;
      };
    }

longer_presented : {layout : Layout} {context : Context} {row : TokenRow} {octets new : List ℕ} {entry : Entry} {next : Context}
    → GoesPresented layout context row octets new entry next → IsLongerEntry context row entry next
longer_presented (same longer none) = longer
longer_presented (presented shown longer among has marked scans are written is back) = longer

-- the row that is printed, with the same entry
record Printed (context : Context) (new : List ℕ) (entry : Entry) (next : Context) : Type 0 where
  row : TokenRow
  are : AreRow new row
  longer : IsLongerEntry context row entry next

printed_row : {layout : Layout} {context : Context} {row : TokenRow} {octets new : List ℕ} {entry : Entry} {next : Context} → AreRow octets row
    → GoesPresented layout context row octets new entry next → Printed context new entry next
printed_row {row = row} is (same longer none) = record { row = row; are = is; longer = longer }
printed_row is (presented {printed = printed} shown longer among has marked scans are written so back) =
    record { row = printed; are = so; longer = back }

presented_rows : {layout : Layout} {start after : Context} {text new : List ℕ} {entries : List Entry}
    → GoesTo (GoesPresented layout) start text new entries after → Reads AreLongerEntries start new entries after
presented_rows (ended {rest = rest} is) =
    record { rows = []; rest = rest; begins = BeginsWithRows.none; ends = is; are = AreLongerEntries.none }
presented_rows (bare {new = new} {row = row} octets is none goes) =
    let others = presented_rows goes in record {
      rows = row ∷ others.rows;
      rest = others.rest;
      begins = begins-on (row_begins is new) others.begins;
      ends = others.ends;
      are = bare_longer row none others.are;
    }
presented_rows (more {new = new} octets other is some told goes) =
    let others = presented_rows goes in
    let printed = printed_row is told in record {
      rows = printed.row ∷ others.rows;
      rest = others.rest;
      begins = begins-on (row_begins printed.are new) others.begins;
      ends = others.ends;
      are = AreLongerEntries.entry printed.longer others.are;
    }

pub presented_gone : {layout : Layout} {start after : Context} {text new : List ℕ} {entries : List Entry}
    → GoesTo (GoesPresented layout) start text new entries after → IsPresentedOf layout start text new
presented_gone {layout} {start} {after} {text} {new} {entries} goes = record {
  entries = entries;
  after = after;
  goes = goes;
  read = longer_text (read_rows (GoesPresented layout) (λ context row octets other entry next told. longer_presented told) goes);
  written = longer_text (presented_rows goes);
}
