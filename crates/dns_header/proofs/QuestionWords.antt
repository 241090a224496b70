-- The first word of a text.
use Rattle.std.proofs.Common.{◌≡◌, ◌<◌, ◌++◌, List, ℕ, length, subst}
use Rattle.std.specs.Prelude.{Option, Some, None, IfSome, MatchOption}
use Rattle.std.specs.Borrow.{Bor}
use Rattle.std.specs.Char.{is_whitespace, is_not_whitespace}
use Rattle.std.specs.Str.{NoCharPasses, EmptyOrStartsWithPassing}
use Rattle.dns_label.specs.NameText.{IsNameText}
use Rattle.dns_wire.specs.Text.{IsRefused}
use Rattle.dns_wire.specs.declared.text.FromStrError as name
use Rattle.dns_wire.specs.declared.text.FromStrError.TheVariants.{Presentation, ShortBuf}
use Rattle.dns_header.specs.QuestionText.{SpellsNoQuestion, StartsWithWord, name_fault}
use Rattle.dns_header.specs.QuestionText.SpellsNoQuestion.{bad_name, no_room}

pub first_word : (E : Type 0) (old new : List ℕ) (result : Option (Bor (List ℕ)))
    → MatchOption result E (λ x. (gap : List ℕ) × (old ≡ gap ++ (x.now ++ new)) × (0 < length x.now) × NoCharPasses is_not_whitespace gap
    × NoCharPasses is_whitespace x.now × ((more : List ℕ) × EmptyOrStartsWithPassing is_whitespace new more))
    → IfSome result (λ word. StartsWithWord old word.now new)
first_word E old new None steps = _
first_word E old new (Some word) steps = record {
  gap = steps.0;
  is = steps.1;
  some = steps.2;
  blank = steps.3;
  solid = steps.4;
  more = steps.5.0;
  ends = steps.5.1;
}

-- a first word that is no name, or whose name has no room
pub refused_name : (text word rest : List ℕ) (error : name.FromStrError) → StartsWithWord text word rest → IsRefused IsNameText word error
    → SpellsNoQuestion text (name_fault error)
refused_name text word rest (Presentation error) first none = bad_name first none
refused_name text word rest ShortBuf first some = no_room first some

-- the first word of the same text
pub word_of : {text other word rest : List ℕ} → other ≡ text → StartsWithWord other word rest → StartsWithWord text word rest
word_of {word = word} {rest = rest} is first = subst (λ (t : List ℕ). StartsWithWord t word rest) is first
