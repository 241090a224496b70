-- A record whose data is that of its type has parts as a writer writes it, and only these.
use Rattle.std.proofs.Common.{◌≡◌, ℕ, List, [], map, Some, None, sym, ap, ◌∙◌, subst, inl, inr, refl}
use Rattle.dns_name.specs.Page.{Parts}
use Rattle.dns_name.specs.Page.Parts.{End, Octets}
use Rattle.dns_rdata.specs.Fields.{Field, kind_of, octets, IsRow, IsData}
use Rattle.dns_rdata.specs.Fields.IsData.{typed, unknown}
use Rattle.dns_rdata.specs.Reading.{ReadsRow}
use Rattle.dns_rdata.proofs.ComposedRows.{row_parses, row_read_once, same_octets}
use Rattle.dns_message.specs.Record.{Record, IsWritten, record_parts, written_parts}
use Rattle.dns_message.specs.Record.IsWritten.{fields, untold}
use Rattle.dns_message.proofs.DecidedFields.{Decided, RowAt, row_decided}

-- the parts of the record's data: those of the row that its octets are, or the octets
abbrev written_by : (r : Record) → Decided (RowAt r.rtype r.rdata 0) → Parts
written_by r (inl at) = record_parts r (written_parts at.row)
written_by r (inr none) = record_parts r (Octets r.rdata End)

-- the parts as a writer writes the record
pub written_item : Record → Parts
written_item r = written_by r (row_decided r.rtype r.rdata 0)

-- a row without pointers is read as it
plain_row : (r : Record) (row : List Field) → IsRow r.rtype row → r.rdata ≡ octets row → ReadsRow r.rtype r.rdata 0 row
plain_row r row is_row is =
    let P : List ℕ → Type 0 = λ text. ReadsRow r.rtype text 0 row in subst P (sym is) (row_parses r.rtype [] row is_row)

by_written : (r : Record) (decided : Decided (RowAt r.rtype r.rdata 0)) → IsData r.rtype r.rdata → IsWritten r (written_by r decided)
by_written r (inl at) (typed row is_row is) =
    let one : at.row ≡ row = row_read_once r.rtype r.rdata 0 at.row row at.reads (plain_row r row is_row is) in
    fields at.row at.reads.is_row (is ∙ ap octets (sym one))
by_written r (inr none) (typed row is_row is) = absurd (none (record { row = row; reads = plain_row r row is_row is }))
by_written r (inl at) (unknown none short) =
    let no : Some (map kind_of at.row) ≡ None = sym at.reads.is_row.kinds ∙ none in absurd cc
by_written r (inr other) (unknown none short) = untold none

pub item_written : (r : Record) → IsData r.rtype r.rdata → IsWritten r (written_item r)
unfolding written_item
item_written r is = by_written r (row_decided r.rtype r.rdata 0) is

parts_one : (r : Record) {parts others : Parts} → IsWritten r parts → IsWritten r others → parts ≡ others
parts_one r (fields row is_row is) (fields other is_row' is') =
    let one : other ≡ row = same_octets r.rtype row other is_row is_row' (sym is ∙ is') in
    ap (λ row. record_parts r (written_parts row)) (sym one)
parts_one r (fields row is_row is) (untold none) = let no : Some (map kind_of row) ≡ None = sym is_row.kinds ∙ none in absurd cc
parts_one r (untold none) (fields row is_row is) = let no : Some (map kind_of row) ≡ None = sym is_row.kinds ∙ none in absurd cc
parts_one r (untold none) (untold none') = refl

pub written_one : (r : Record) (parts others : Parts) → IsWritten r parts → IsWritten r others → parts ≡ others
written_one r parts others = parts_one r
