-- The lines of changes, and that there are none exactly if nothing changed.
use Rattle.std.proofs.Common.{◌≡◌, ◌+◌, ℕ, Some, List, [], ◌∷◌, ◌++◌, length, take, refl, sym, ap, ◌∙◌, subst, arith, append_assoc, append-nil}
use Rattle.std.specs.Prelude.{slice_get}
use Rattle.zone_records.proofs.Indexed.{take-next}
use Rattle.dns_text.specs.Document.{document_text}
use Rattle.dns_text.specs.Document.Piece.{Newline}
use Rattle.dns_text.specs.Layout.{layout_of}
use Rattle.dns_text.specs.declared.layout.DisplayKind.TheVariants.{Simple}
use Rattle.zone.specs.Printing.{AddsRecord}
use Rattle.zone_canonical.specs.Changes.{changed}
use Rattle.zone_canonical.specs.declared.change_list.Change.{Change}
use Rattle.zone_tool.specs.Differences.{AddsChange, IsChangeText, line_of, sign_of}
use Rattle.zone_tool.specs.Differences.IsChangeText.{more, none}

-- one line more
text_push : (changes : List Change) (change : Change) (front text : List ℕ) → IsChangeText changes front → AddsChange change front text
    → IsChangeText (changes ++ change ∷ []) text
text_push changes change front text none adds =
    more adds.document adds.is none (adds.line ∙ sym (append-nil (line_of change adds.document)))
text_push changes change front text (more {change = first} {changes = others} {rest = rest} document shown is written) adds =
    let line = line_of change adds.document in
    more document shown (text_push others change rest (rest ++ line) is (record { document = adds.document; is = adds.is; line = refl }))
    (adds.line ∙ ap (λ l. l ++ line) written ∙ append_assoc (line_of first document) rest line)

pub text_more : (changes : List Change) (index : ℕ) (change : Change) (front text : List ℕ) → slice_get changes index ≡ Some change
    → IsChangeText (take index changes) front → AddsChange change front text → IsChangeText (take (index + 1) changes) text
text_more changes index change front text at is adds =
    subst (λ l. IsChangeText l text) (sym (take-next changes index change at)) (text_push (take index changes) change front text is adds)

-- there is no line exactly if there is no change
pub no_lines : (changes : List Change) (text : List ℕ) → IsChangeText changes text → (text ≡ [] → changes ≡ []) × (changes ≡ [] → text ≡ [])
no_lines changes text none = (λ empty. refl, λ nothing. refl)
no_lines changes text (more document shown is written) = (λ empty. absurd (omega (arith, ap (length {A = ℕ}) (sym written ∙ empty))), λ nothing. absurd cc)

-- the line of a change, after its sign
pub adds_line : (change : Change) (old signed new : List ℕ) → signed ≡ old ++ sign_of change ∷ []
    → AddsRecord (layout_of Simple) (changed change) signed new → AddsChange change old new
adds_line change old signed new signed_is adds =
    let line = document_text (layout_of Simple) (adds.document ++ Newline ∷ []) in
    record {
      document = adds.document;
      is = adds.is;
      line = adds.added ∙ ap (λ l. l ++ line) signed_is ∙ append_assoc old (sign_of change ∷ []) line;
    }
