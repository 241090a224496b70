-- The text of records that are chosen from a list.
use Rattle.std.proofs.Common.{◌≡◌, ◌+◌, ℕ, Bool, true, false, Some, List, [], ◌∷◌, ◌++◌, take, refl, sym, ap, ◌∙◌, subst, append_assoc, append-nil}
use Rattle.std.proofs.Math.Bool.{beq}
use Rattle.std.specs.Prelude.{filter, not, slice_get}
use Rattle.std.specs.Prelude.{if◌then◌else◌}
use Rattle.std.proofs.lemmas.List.Elements.{filter-append}
use Rattle.dns_text.specs.Document.{Layout, document_text}
use Rattle.dns_text.specs.Document.Piece.{Newline}
use Rattle.std.specs.List.{AllByRecursion}
use Rattle.zone_records.specs.Record.{Record}
use Rattle.zone_records.specs.Typed.{HasLawfulData}
use Rattle.zone_canonical.specs.Canonical.{HasCanonicalForm}
use Rattle.zone_records.proofs.Indexed.{take-next}
use Rattle.zone.specs.Printed.{IsPrinted}
use Rattle.zone.specs.Printed.IsPrinted.{none, more}
use Rattle.zone.specs.Printing.{AddsRecord}
use Rattle.zone_tool.specs.Sorted.{AddsRecords}

-- what has a canonical form has lawful data
pub lawful_data : (records : List Record) → AllByRecursion HasCanonicalForm records → AllByRecursion HasLawfulData records
lawful_data [] each = tt
lawful_data (r ∷ records) each = (each.0.data_is, lawful_data records each.1)

-- the test of the code is that of the definition
pub one_of : (is are_soas : Bool) → (if are_soas then is else not is) ≡ beq is are_soas
one_of true true = refl
one_of true false = refl
one_of false true = refl
one_of false false = refl

-- the texts of two lists, one after the other
printed_both : (layout : Layout) (records others : List Record) (text rest : List ℕ) → IsPrinted layout records text → IsPrinted layout others rest
    → IsPrinted layout (records ++ others) (text ++ rest)
printed_both layout records others text rest none is' = is'
printed_both layout records others text rest (more {records = records'} {rest = rest'} document shown is written) is' =
    more document shown (printed_both layout records' others rest' rest is is')
    (ap (λ l. l ++ rest) written ∙ append_assoc (document_text layout (document ++ Newline ∷ [])) rest' rest)

pub adds_one : (layout : Layout) (r : Record) (old new : List ℕ) → AddsRecord layout r old new → AddsRecords layout (r ∷ []) old new
adds_one layout r old new adds = record {
  text = document_text layout (adds.document ++ Newline ∷ []);
  printed = more adds.document adds.is none (sym (append-nil (document_text layout (adds.document ++ Newline ∷ []))));
  added = adds.added;
}

pub adds_nothing : (layout : Layout) (text : List ℕ) → AddsRecords layout [] text text
adds_nothing layout text = record { text = []; printed = none; added = sym (append-nil text) }

adds_both : (layout : Layout) (records others : List Record) (old between new : List ℕ) → AddsRecords layout records old between
    → AddsRecords layout others between new → AddsRecords layout (records ++ others) old new
adds_both layout records others old between new adds adds' = record {
  text = adds.text ++ adds'.text;
  printed = printed_both layout records others adds.text adds'.text adds.printed adds'.printed;
  added = adds'.added ∙ ap (λ l. l ++ adds'.text) adds.added ∙ append_assoc old adds.text adds'.text;
}

-- one record more, which is chosen or not
pub adds_next : (layout : Layout) (test : Record → Bool) (records : List Record) (index : ℕ) (r : Record) (chosen : Bool) (old between new : List ℕ)
    → slice_get records index ≡ Some r → test r ≡ chosen → AddsRecords layout (filter test (take index records)) old between
    → AddsRecords layout (if chosen then r ∷ [] else []) between new → AddsRecords layout (filter test (take (index + 1) records)) old new
adds_next layout test records index r chosen old between new at is adds adds' =
    let front = filter test (take index records) in
    let next = ap (filter test) (take-next records index r at) ∙ filter-append test (take index records) (r ∷ [])
    ∙ ap (λ (b : Bool). front ++ (if b then r ∷ [] else [])) is in
    rw next (adds_both layout front (if chosen then r ∷ [] else []) old between new adds adds')

-- the texts of two lists, the first of them at the start
pub printed_from_start : (layout : Layout) (records others : List Record) (old between new : List ℕ) → old ≡ []
    → AddsRecords layout records old between → AddsRecords layout others between new → IsPrinted layout (records ++ others) new
printed_from_start layout records others old between new empty adds adds' =
    let both = adds_both layout records others old between new adds adds' in
    subst (IsPrinted layout (records ++ others)) (sym (both.added ∙ ap (λ l. l ++ both.text) empty)) both.printed
