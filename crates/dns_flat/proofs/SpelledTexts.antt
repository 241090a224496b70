-- Why no name was made of a text with its last dot or without it.
use Rattle.std.proofs.Common.{ℕ, true, List, ◌++◌, refl, subst, append-nil}
use Rattle.std.specs.Prelude.{Option, Result, Ok, Err, IfErr}
use Rattle.std.specs.Iterator.{Drains}
use Rattle.dns_flat.specs.RelativeText.{SpellsEither}
use Rattle.dns_flat.specs.SpelledText.{IsNotSpelled, IsNotSpelledBy}
use Rattle.dns_wire.specs.Text.{IsFault}
use Rattle.dns_wire.specs.declared.text.FromStrError.{FromStrError}
use Rattle.dns_wire.specs.declared.text.FromStrError.TheVariants.{Presentation, ShortBuf}

-- there is no room or no memory
pub spelled_short : (text : List ℕ) (error : FromStrError) → (IsFault error → ⊥) → SpellsEither text → IsNotSpelled text error
spelled_short text (Presentation error) sound spells = absurd (sound tt)
spelled_short text ShortBuf sound spells = spells

-- all was taken
pub drained_spelled : {C T : Type 0} (steps : C → Option ℕ → C → Type 0) (R : List ℕ → Type 0) (start : C) (text : List ℕ)
    (result : Result T FromStrError) → Drains steps start text → R text
    → IfErr result (λ error. (text : List ℕ) → R text → IsNotSpelled text error) → IfErr result (IsNotSpelledBy steps start)
drained_spelled steps R start text (Ok value) gave is refused = tt
drained_spelled steps R start text (Err ShortBuf) gave is refused = (text, gave, refused text is)
drained_spelled steps R start text (Err (Presentation error)) gave is refused = record {
  taken = text;
  ended = true;
  gave = (gave.1.0, gave.1.1, λ all. (gave.0, gave.1.2));
  none = λ rest ends spells.
      let P : List ℕ → Type 0 = λ r. SpellsEither (text ++ r) in
      let Q : List ℕ → Type 0 = λ t. SpellsEither t in
      refused text is (subst Q (append-nil text) (subst P (ends refl) spells));
}
