-- Texts that spell a name and leave its last dot out.
use Rattle.std.proofs.Common.{◌≡◌, ◌<◌, ◌≤◌, ℕ, List, [], ◌∷◌, ◌++◌, length, sym, ◌∙◌, ap, subst, arith}
use Rattle.std.specs.Prelude.{Result, Ok, Err, IfErr, ◌↔◌}
use Rattle.std.specs.List.{AllByRecursion}
use Rattle.dns_label.specs.declared.symbol.Symbol.TheVariants.{Char}
use Rattle.dns_label.specs.Symbol.{IsSymbol}
use Rattle.dns_label.specs.Name.{IsLabel}
use Rattle.dns_label.specs.NameText.{HasParts, parts_of}
use Rattle.dns_wire.specs.Draft.{IsReadAs}
use Rattle.dns_wire.specs.Text.{LacksLastDot}
use Rattle.dns_wire.specs.declared.text.FromStrError.{FromStrError}
use Rattle.dns_wire.specs.declared.text.FromStrError.TheVariants.{Presentation, ShortBuf}
use Rattle.dns_wire.specs.declared.text.PresentationError.{PresentationError}
use Rattle.dns_wire.specs.declared.text.PresentationError.TheVariants as presentation
use Rattle.dns_wire.specs.declared.text.draft.NameDraft.{NameDraft}
use Rattle.dns_wire.proofs.Drafts.{draft-len, labels_more}
use Rattle.dns_wire.proofs.Parts.{parts_one}
use Rattle.dns_wire.proofs.Texts.{last_label}
use Rattle.dns_wire.proofs.Wire.{length-labels_wire_more, length-wire_is}

-- a label was open at the end
pub open_lacks : (text : List ℕ) (draft : NameDraft) (read : IsReadAs text draft) → 0 < length read.begun → LacksLastDot text
open_lacks text draft read some =
    let all = draft.whole in
    let few = draft.few in
    let short = draft.short in
    let full = draft.full in
    let at = read.holds.place in
    let size = draft-len draft.octets draft.len read.done read.begun (omega arith) read.holds.written in
    let each = labels_more read.done read.begun read.holds.labels (record { some = some; short = omega arith }) in
    let no_more : 254 < draft.len → ⊥ = λ over. omega (arith, full over) in
    let size_more = length-labels_wire_more read.done read.begun in
    let size_wire = length-wire_is (read.done ++ read.begun ∷ []) in (
      read.done ++ read.begun ∷ [],
      record { parts = read.has; each = each },
      record { labels = each; short = omega arith },
    )

-- no label was open
pub dotted_lacks : (text : List ℕ) (draft : NameDraft) (read : IsReadAs text draft) → read.begun ≡ [] → LacksLastDot text → ⊥
dotted_lacks text draft read none lacks =
    let e : lacks.0 ≡ read.done ++ [] ∷ [] = read.only lacks.0 lacks.1.parts ∙ ap (λ t. read.done ++ t ∷ []) none in
    let R : List (List ℕ) → Type 0 = λ n. AllByRecursion IsLabel n in
    let label = last_label read.done [] (subst R e lacks.1.each) in omega (arith, label.some)

pub root_lacks : (text : List ℕ) → text ≡ 46 ∷ [] → LacksLastDot text → ⊥
root_lacks text is lacks =
    let plain : (32 ≤ 46) × (46 ≤ 126) = (omega arith, omega arith) in
    let each : AllByRecursion IsSymbol (Char 46 ∷ []) = ((plain, λ (e : 46 ≡ 92). omega arith), tt) in
    let P : List ℕ → Type 0 = λ t. HasParts t lacks.0 in
    let e : lacks.0 ≡ parts_of (Char 46 ∷ []) = parts_one (Char 46 ∷ []) each lacks.0 (subst P is lacks.1.parts) in
    let R : List (List ℕ) → Type 0 = λ n. AllByRecursion IsLabel n in
    let label = (subst R e lacks.1.each).0 in omega (arith, label.some)

-- any other error, for a text that does not leave the dot out
module _ {T : Type 0} (text : List ℕ) (result : Result T FromStrError) (none : LacksLastDot text → ⊥) where
  pub told_other : (result ≡ Err (Presentation presentation.RelativeName) → ⊥)
      → IfErr result (λ error. (error ≡ Presentation presentation.RelativeName) ↔ LacksLastDot text)
  told_other not = by_case result not
    where
      by_case : (result : Result T FromStrError) → (result ≡ Err (Presentation presentation.RelativeName) → ⊥)
          → IfErr result (λ error. (error ≡ Presentation presentation.RelativeName) ↔ LacksLastDot text)
      by_case (Ok value) not = tt
      by_case (Err error) not = (λ is. absurd (not (ap (λ e. Err e) is)), λ lacks. absurd (none lacks))

  pub told_short : result ≡ Err ShortBuf → IfErr result (λ error. (error ≡ Presentation presentation.RelativeName) ↔ LacksLastDot text)
  told_short short = told_other (λ is. let e : Err ShortBuf ≡ Err (Presentation presentation.RelativeName) = sym short ∙ is in cc)

  pub told_read : {U : Type 0} (read : Result U PresentationError) (error : PresentationError) → read ≡ Err error
      → result ≡ Err (Presentation error) → (read ≡ Err presentation.RelativeName → ⊥)
      → IfErr result (λ error. (error ≡ Presentation presentation.RelativeName) ↔ LacksLastDot text)
  told_read read error was made not =
      told_other (λ is.
      let e : Err (Presentation error) ≡ Err (Presentation presentation.RelativeName) = sym made ∙ is in
      let same : error ≡ presentation.RelativeName = cc in
      not (was ∙ ap (λ e. Err e) same))
