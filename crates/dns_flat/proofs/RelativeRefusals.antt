-- Why no relative name was made of an iterator's items.
use Rattle.std.proofs.Common.{ℕ, true, List, ◌++◌, refl, subst, append-nil, inl, inr}
use Rattle.std.specs.Prelude.{Option, Result, Ok, Err, IfErr}
use Rattle.std.specs.Iterator.{Drains}
use Rattle.dns_label.specs.NameText.IsNameText.{absolute, relative}
use Rattle.dns_wire.specs.Draft.{IsReadable}
use Rattle.dns_flat.specs.RelativeText.{SpellsEither, IsNoRelative, IsNoRelativeBy}
use Rattle.dns_label.specs.NameText.IsRelativeNameText.{empty, labels}
use Rattle.dns_wire.specs.declared.text.FromStrError.TheVariants.{Presentation, ShortBuf}
use Rattle.dns_flat.specs.declared.text.relative.RelativeFromStrError.{RelativeFromStrError}
use Rattle.dns_flat.specs.declared.text.relative.RelativeFromStrError.TheVariants.{FromStr, AbsoluteName}

pub either_readable : (text : List ℕ) → SpellsEither text → IsReadable text
either_readable text (inl (name, empty none)) = inl none
either_readable text (inl (name, labels is is_name)) = inr (name, relative is is_name)
either_readable text (inr (name, is)) = inr (name, absolute is)

-- all was taken
pub drained_relative : {C T : Type 0} (steps : C → Option ℕ → C → Type 0) (R : List ℕ → Type 0) (start : C) (text : List ℕ)
    (result : Result T RelativeFromStrError) → Drains steps start text → R text
    → IfErr result (λ error. (text : List ℕ) → R text → IsNoRelative text error) → IfErr result (IsNoRelativeBy steps start)
drained_relative steps R start text (Ok value) gave is refused = tt
drained_relative steps R start text (Err AbsoluteName) gave is refused = (text, gave, refused text is)
drained_relative steps R start text (Err (FromStr ShortBuf)) gave is refused = (text, gave, refused text is)
drained_relative steps R start text (Err (FromStr (Presentation error))) gave is refused = record {
  taken = text;
  ended = true;
  gave = (gave.1.0, gave.1.1, λ all. (gave.0, gave.1.2));
  none = λ rest ends spells.
      let P : List ℕ → Type 0 = λ r. SpellsEither (text ++ r) in
      let Q : List ℕ → Type 0 = λ t. SpellsEither t in
      refused text is (subst Q (append-nil text) (subst P (ends refl) spells));
}
