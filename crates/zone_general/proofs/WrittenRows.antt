-- A row whose octets were written with its data in general form.
use Rattle.std.proofs.Common.{◌≡◌, ◌≤◌, ℕ, List, length, arith, refl, subst}
use Rattle.dns_label.specs.Octets.{AreOctets}
use Rattle.dns_name.specs.UnknownText.{unknown_text}
use Rattle.dns_scan.specs.Token.{Token}
use Rattle.dns_text.specs.Rows.{TokenRow}
use Rattle.dns_entry_scanner.specs.NameInText.{SpellsUnder}
use Rattle.dns_zonefile.specs.Entry.{Context, Entry, IsEntry}
use Rattle.dns_zonefile.specs.Statement.{Names}
use Rattle.zone_general.specs.LongerEntries.{IsLongerEntry}
use Rattle.zone_general.specs.LongerRow.{HasType, IsGeneralRow, ScansLonger, Stands, known_word}
use Rattle.zone_general.specs.LongerRow.IsGeneralRow.{same, further}
use Rattle.zone_general.specs.Readable.{HasGeneralRow}
use Rattle.zone_general.specs.Rewritten.{AreRow, GoesGeneral, Rewrites}
use Rattle.zone_general.specs.Rewritten.IsWrittenAs.{same as written_same, further as written_otherwise}
use Rattle.zone_general.specs.Seen.{HasTypeAt, IsFound, RewritesAt, WritesGeneral, octets_in, row_in}
use Rattle.zone_general.specs.declared.found_row.FoundRow.{FoundRow}
use Rattle.zone_general.specs.declared.stated_type.RowType.{RowType}
use Rattle.zone_general.proofs.GeneralRows.{general_row, rewrites_row}
use Rattle.zone_general.proofs.KnownWords.{type_word_below}
use Rattle.zone_general.proofs.LongerRows.{general_of}
use Rattle.zone_general.proofs.RowTypes.{data_at}

pub rewrites_same : (row : FoundRow) (place : ℕ) {word word' text text' new new' : List ℕ} → word ≡ word' → text ≡ text' → new ≡ new'
    → RewritesAt row place word text new → RewritesAt row place word' text' new'
rewrites_same row place {word} {word'} {text} {text'} {new} {new'} words texts news so =
    subst (λ (l : List ℕ). RewritesAt row place word' text' l) news
    (subst (λ (l : List ℕ). RewritesAt row place word' l new) texts (subst (λ (l : List ℕ). RewritesAt row place l text new) words so))

module _ (row : FoundRow) {kind : RowType} (has : HasTypeAt (row_in row) kind) (found : IsFound row) {new word : List ℕ}
    (word_is : (front : List Token) (stated : Token) (rtype : ℕ) (data' : List Token) → HasType (row_in row) front stated rtype data'
    → word ≡ known_word stated rtype) where
  rewrites_known : {text : List ℕ} → RewritesAt row kind.index word text new
      → Rewrites (row_in row) has.front has.word has.data' (known_word has.word kind.rtype) text (octets_in row) new
  rewrites_known so =
      rewrites_row found has.has has.place
      (rewrites_same row kind.index (word_is has.front has.word kind.rtype has.data' has.has) refl refl so)

  known_row : (content : List ℕ) → AreOctets content → length content ≤ 65535 → RewritesAt row kind.index word (unknown_text content) new
      → AreRow new (general_of (row_in row) has.front has.word kind.rtype content)
  known_row content are short so =
      let small = type_word_below has.word.text kind.rtype has.has.type.reads in
      general_row content has.has (rewrites_known so) (omega (arith, small)) are (omega (arith, short))

module _ (row : FoundRow) {kind : RowType} (has : HasTypeAt (row_in row) kind) (found : IsFound row) {new : List ℕ} where
  -- they are the general row
  pub is_row : {names : Names} (writes : WritesGeneral names row kind new) → AreRow new (general_of (row_in row) has.front has.word kind.rtype writes.content)
  is_row writes = known_row row has found writes.word_is writes.content writes.octets writes.short writes.so

-- and the row is its entry
pub goes_general : {context after : Context} {entry : Entry} (row : FoundRow) {kind : RowType} (has : HasTypeAt (row_in row) kind)
    (found : IsFound row) {new : List ℕ} (writes : WritesGeneral (SpellsUnder context.origin) row kind new) → (Stands (row_in row) → ⊥)
    → IsEntry context (general_of (row_in row) has.front has.word kind.rtype writes.content) entry after
    → GoesGeneral context (row_in row) (octets_in row) new entry after
goes_general {context} row {kind} has found writes not is = record {
  general = general_of (row_in row) has.front has.word kind.rtype writes.content;
  is = further not has.has (subst (λ (l : List Token). ScansLonger (SpellsUnder context.origin) kind.rtype l writes.content) (data_at row has) writes.scans);
  so = is;
  are = is_row row has found writes;
  written = written_otherwise (known_word has.word kind.rtype) writes.content not has.has.is refl (rewrites_known row has found writes.word_is writes.so);
}

-- the entry of a row that stands
pub standing_entry : {context after : Context} {row : TokenRow} {entry : Entry} → Stands row → IsLongerEntry context row entry after
    → IsEntry context row entry after
standing_entry {context} {after} {row} {entry} stands is = by is.is is.so
  where
    by : {general : TokenRow} → IsGeneralRow (SpellsUnder context.origin) row general → IsEntry context general entry after
        → IsEntry context row entry after
    by (same still) so = so
    by (further not has scanned) so = absurd (not stands)

pub goes_stands : {context after : Context} {row : TokenRow} {octets : List ℕ} {entry : Entry} → Stands row → AreRow octets row
    → IsEntry context row entry after → GoesGeneral context row octets octets entry after
goes_stands {row = row} stands are is =
    record { general = row; is = same stands; so = is; are = are; written = written_same refl }

-- its general row is written, entry or not
pub has_general : {context : Context} (row : FoundRow) {kind : RowType} (has : HasTypeAt (row_in row) kind) (found : IsFound row) {new : List ℕ}
    (writes : WritesGeneral (SpellsUnder context.origin) row kind new) → (Stands (row_in row) → ⊥) → HasGeneralRow context (row_in row) (octets_in row) new
has_general {context} row {kind} has found writes not = record {
  general = general_of (row_in row) has.front has.word kind.rtype writes.content;
  is = further not has.has (subst (λ (l : List Token). ScansLonger (SpellsUnder context.origin) kind.rtype l writes.content) (data_at row has) writes.scans);
  are = is_row row has found writes;
  written = written_otherwise (known_word has.word kind.rtype) writes.content not has.has.is refl (rewrites_known row has found writes.word_is writes.so);
}
