-- What is read for an option that is a text.
use Rattle.std.proofs.Common.{◌≡◌, ◌∙◌, List, ◌∷◌, Option, Some, None, Bor, true, is_some, ap, sym, inl, inr}
use Rattle.std.specs.Prelude.{option_map}
use Rattle.clap.specs.Walk.{Row, Text, first_of, rows_of}
use Rattle.clap.specs.Matches.{first_value}
use Rattle.clap.specs.declared.parser.matches.Found.{Found}
use Rattle.clap.proofs.WalkLemmas.{first_value-rows}
use Rattle.dns_label.specs.NameText.{IsNameText}
use Rattle.dns_wire.specs.Text.{IsRefused}
use Rattle.dns_wire.specs.declared.text.FromStrError.{FromStrError}
use Rattle.dns_wire.specs.declared.text.FromStrError.TheVariants.{Presentation, ShortBuf}
use Rattle.zonewire_words.specs.Fault.{of_name}
use Rattle.zonewire_words.specs.Words.{IsFaultOf, IsNameFault}
use Rattle.zonewire_words.specs.declared.command_line.WordsFault.{WordsFault}
use Rattle.zonewire_words.specs.declared.command_line.WordsFault.TheVariants.{Line, BadName, BadClass, OutOfMemory}

-- `get_str` gives the text that the rows have for an option
pub text_read : (f : Found) (option : Text) (got o : Option (Bor Text)) → option_map (λ s. s.now) got ≡ first_value f option → got ≡ o
    → first_of option (rows_of f) ≡ option_map (λ s. s.now) o
text_read f option got o is was = sym (first_value-rows f option) ∙ sym is ∙ ap (option_map (λ (s : Bor Text). s.now)) was

-- a required text is there
pub text_there : (option : Text) (rows : List Row) → first_of option rows ≡ None → is_some (first_of option rows) ≡ true → ⊥
text_there option rows none there =
    let bad = sym (ap is_some none) ∙ there in cc

-- why a name was not read
pub name_fault : (option : Text) (rows : List Row) (text : Text) (error : FromStrError) → first_of option rows ≡ Some text
    → IsRefused IsNameText text error → IsNameFault option rows (of_name error)
name_fault option rows text (Presentation error) has refused = (text, has, refused)
name_fault option rows text ShortBuf has refused = tt

-- that is a fault of a subcommand whose first name option is this
pub first_fault : (option : Text) (options : List Text) (rows : List Row) (fault : WordsFault) → IsNameFault option rows fault
    → IsFaultOf (option ∷ options) rows fault
first_fault option options rows (Line e) bad = bad
first_fault option options rows BadName bad = inl bad
first_fault option options rows BadClass bad = absurd bad
first_fault option options rows OutOfMemory bad = tt

-- or whose second is
pub second_fault : (first option : Text) (options : List Text) (rows : List Row) (fault : WordsFault) → IsNameFault option rows fault
    → IsFaultOf (first ∷ option ∷ options) rows fault
second_fault first option options rows (Line e) bad = bad
second_fault first option options rows BadName bad = inr (inl bad)
second_fault first option options rows BadClass bad = absurd bad
second_fault first option options rows OutOfMemory bad = tt
