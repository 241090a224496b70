-- The text of records as it grows.
use Rattle.std.proofs.Common.{◌≡◌, ◌+◌, ◌≤◌, ℕ, Some, List, [], ◌∷◌, ◌++◌, length, take, refl, sym, ◌∙◌, ap, subst, append_assoc, append-nil}
use Rattle.std.specs.Prelude.{slice_get}
use Rattle.std.proofs.lemmas.List.{take_all}
use Rattle.dns_text.specs.Document.{Layout, document_text}
use Rattle.dns_text.specs.Document.Piece.{Newline}
use Rattle.zone_records.specs.Record.{Record}
use Rattle.zone_records.proofs.Indexed.{take-next}
use Rattle.zone.specs.Printing.{AddsRecord}
use Rattle.zone.specs.Printed.{IsPrinted}
use Rattle.zone.specs.Printed.IsPrinted.{none, more}

-- one record more
printed_push : {layout : Layout} {records : List Record} {text new : List ℕ} (r : Record) → IsPrinted layout records text
    → AddsRecord layout r text new → IsPrinted layout (records ++ r ∷ []) new
printed_push {layout = layout} r none adds =
    more adds.document adds.is none (adds.added ∙ sym (append-nil (document_text layout (adds.document ++ Newline ∷ []))))
printed_push {layout = layout} r (more {rest = rest} document is others whole) adds =
    let front = document_text layout (document ++ Newline ∷ []) in
    let last = document_text layout (adds.document ++ Newline ∷ []) in
    let behind = printed_push r others (record { document = adds.document; is = adds.is; added = refl }) in
    more document is behind (adds.added ∙ ap (λ l. l ++ last) whole ∙ append_assoc front rest last)

module _ (layout : Layout) (records : List Record) where
  pub printed_none : (text : List ℕ) → text ≡ [] → IsPrinted layout (take 0 records) text
  printed_none text is = subst (λ (l : List ℕ). IsPrinted layout [] l) (sym is) none

  pub printed_more : (i : ℕ) (r : Record) (text new : List ℕ) → slice_get records i ≡ Some r → IsPrinted layout (take i records) text
      → AddsRecord layout r text new → IsPrinted layout (take (i + 1) records) new
  printed_more i r text new at so_far adds =
      subst (λ (l : List Record). IsPrinted layout l new) (sym (take-next records i r at)) (printed_push r so_far adds)

  pub printed_all : (i : ℕ) (text : List ℕ) → length records ≤ i → IsPrinted layout (take i records) text → IsPrinted layout records text
  printed_all i text past printed = subst (λ (l : List Record). IsPrinted layout l text) (take_all i records past) printed
