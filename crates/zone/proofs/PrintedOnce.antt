-- A zone's records have one printed text under each layout.
use Rattle.std.proofs.Common.{◌≡◌, ℕ, List, [], ◌∷◌, ◌++◌, Some, None, map, refl, sym, ◌∙◌, ap}
use Rattle.std.specs.List.{AllByRecursion}
use Rattle.dns_text.specs.Document.{Layout, Piece, document_text}
use Rattle.dns_text.specs.Document.Piece.{Newline}
use Rattle.dns_header.specs.Shown.{record_document}
use Rattle.dns_rdata.specs.Data.{document_of, typed, unknown_data}
use Rattle.dns_rdata.specs.DataOctets.{IsDataDocument}
use Rattle.dns_rdata.specs.Fields.{Field, IsData, kind_of, kinds_of}
use Rattle.dns_rdata.specs.Fields.IsData.{typed as of_fields, unknown}
use Rattle.dns_rdata.proofs.ComposedRows.{same_octets}
use Rattle.zone_records.specs.Printed.{IsDocument, ShowsData}
use Rattle.zone_records.specs.Printed.ShowsData.{fields, untold}
use Rattle.zone_records.specs.Record.{Record}
use Rattle.zone_records.specs.Records.{IsRecordOf}
use Rattle.zone.specs.Printed.{IsPrinted}
use Rattle.zone.specs.Printed.IsPrinted.{none as no_record, more as more_records}

-- the document of data
both_kinds : {rtype : ℕ} {data' : List ℕ} {document : List Piece} → IsDataDocument rtype data' document → kinds_of rtype ≡ None → ⊥
both_kinds shown none = let bad : None ≡ Some (map kind_of shown.row) = sym none ∙ shown.is_row.kinds in cc

one_data_document : {rtype : ℕ} {data' : List ℕ} {document other : List Piece} → ShowsData rtype data' document → ShowsData rtype data' other
    → document ≡ other
one_data_document {rtype = rtype} (fields this) (fields that) =
    let rows = same_octets rtype that.row this.row that.is_row this.is_row (sym that.octets_are ∙ this.octets_are) in
    this.is ∙ ap (λ (row : List Field). document_of (typed rtype row)) rows ∙ sym that.is
one_data_document (fields this) (untold none that) = absurd (both_kinds this none)
one_data_document (untold none this) (fields that) = absurd (both_kinds that none)
one_data_document (untold none this) (untold none' that) = this ∙ sym that

one_document : (r : Record) (d e : List Piece) → IsDocument r d → IsDocument r e → d ≡ e
one_document r d e is is' =
    is.is ∙ ap (record_document r.owner r.ttl r.class r.rtype) (one_data_document is.data_is is'.data_is) ∙ sym is'.is

pub one_printed : (layout : Layout) {records : List Record} {a b : List ℕ} → IsPrinted layout records a → IsPrinted layout records b → a ≡ b
one_printed layout no_record no_record = refl
one_printed layout (more_records {r = r} {rest = behind} document is others whole) (more_records document' is' others' whole') =
    let same = one_document r document document' is is' in
    let rest = one_printed layout others others' in
    whole ∙ ap (λ (d : List Piece). document_text layout (d ++ Newline ∷ []) ++ behind) same
    ∙ ap (λ (l : List ℕ). document_text layout (document' ++ Newline ∷ []) ++ l) rest ∙ sym whole'

-- every record has a document
data_document : (rtype : ℕ) (data' : List ℕ) → IsData rtype data' → (document : List Piece) × ShowsData rtype data' document
data_document rtype data' (of_fields row is octets_are) =
    (document_of (typed rtype row), fields (record { row = row; is_row = is; octets_are = octets_are; is = refl }))
data_document rtype data' (unknown none short) = (document_of (unknown_data (record { number = rtype; octets = data' })), untold none refl)

document_made : (class : ℕ) (r : Record) → IsRecordOf class r → (document : List Piece) × IsDocument r document
document_made class r is =
    let made = data_document r.rtype r.rdata is.sendable.data_is in
    (record_document r.owner r.ttl r.class r.rtype made.0, record { data_document = made.0; data_is = made.1; is = refl })

pub some_printed : (layout : Layout) (class : ℕ) (records : List Record) → AllByRecursion (IsRecordOf class) records
    → (text : List ℕ) × IsPrinted layout records text
some_printed layout class [] each = ([], no_record)
some_printed layout class (r ∷ records) each =
    let first = document_made class r each.0 in
    let rest = some_printed layout class records each.1 in
    (document_text layout (first.0 ++ Newline ∷ []) ++ rest.0, more_records first.0 first.1 rest.1 refl)
