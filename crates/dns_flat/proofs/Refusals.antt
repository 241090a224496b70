-- Why no name was made of an iterator's items.
use Rattle.std.proofs.Common.{ℕ, true, List, ◌++◌, refl, subst, append-nil}
use Rattle.std.specs.Prelude.{Option, Result, Ok, Err, IfOk, IfErr}
use Rattle.std.specs.List.{AllByRecursion, flat_map}
use Rattle.std.specs.Iterator.{Drains}
use Rattle.dns_label.specs.declared.symbol.Symbol.{Symbol}
use Rattle.dns_label.specs.Symbol.{IsSymbol, spelled}
use Rattle.dns_label.specs.NameText.{IsNameText}
use Rattle.dns_wire.specs.Text.{SpellName, IsRefused, IsRefusedBy}
use Rattle.dns_wire.specs.declared.text.FromStrError.{FromStrError}
use Rattle.dns_wire.specs.declared.text.FromStrError.TheVariants.{Presentation, ShortBuf}

module _ {S A T : Type 0} (steps : S → Option A → S → Type 0) (Spells : List A → List (List ℕ) → Type 0) where
  -- all were taken
  pub drained_refused : (start : S) (items : List A) (result : Result T FromStrError) → Drains steps start items
      → IfErr result (IsRefused Spells items) → IfErr result (IsRefusedBy steps start Spells)
  drained_refused start items (Ok value) gave refused = tt
  drained_refused start items (Err (Presentation error)) gave refused = record {
    taken = items;
    ended = true;
    gave = (gave.1.0, gave.1.1, λ all. (gave.0, gave.1.2));
    none = λ rest ends is.
        let P : List A → Type 0 = λ r. Spells (items ++ r) is.0 in
        let Q : List A → Type 0 = λ l. Spells l is.0 in
        refused is.0 (subst Q (append-nil items) (subst P (ends refl) is.1));
  }
  drained_refused start items (Err ShortBuf) gave refused = (items, gave, refused)

-- symbols are refused as their text is
pub symbols_refused : {T : Type 0} (symbols : List Symbol) (result : Result T FromStrError) → AllByRecursion IsSymbol symbols
    → IfErr result (IsRefused IsNameText (flat_map spelled symbols)) → IfErr result (IsRefused SpellName symbols)
symbols_refused symbols (Ok value) each refused = tt
symbols_refused symbols (Err (Presentation error)) each refused = λ name is. refused name is.text
symbols_refused symbols (Err ShortBuf) each refused = (refused.0, record { each = each; text = refused.1 })

-- what holds for every text that was read like this holds for this one
pub read_refused : {T : Type 0} (R : List ℕ → Type 0) (text : List ℕ) (result : Result T FromStrError) → R text
    → IfErr result (λ error. (text : List ℕ) → R text → IsRefused IsNameText text error) → IfErr result (IsRefused IsNameText text)
read_refused R text (Ok value) is refused = tt
read_refused R text (Err error) is refused = refused text is

pub each_ok : {T E : Type 0} (R : List ℕ → Type 0) (P : List ℕ → T → Type 0) (result : Result T E)
    → ((text : List ℕ) → R text → IfOk result (P text)) → IfOk result (λ value. (text : List ℕ) → R text → P text value)
each_ok R P (Ok value) told = told
each_ok R P (Err error) told = tt

pub each_err : {T E : Type 0} (R : List ℕ → Type 0) (P : List ℕ → E → Type 0) (result : Result T E)
    → ((text : List ℕ) → R text → IfErr result (P text)) → IfErr result (λ error. (text : List ℕ) → R text → P text error)
each_err R P (Ok value) told = tt
each_err R P (Err error) told = told
