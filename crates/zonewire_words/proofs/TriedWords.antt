-- The job that a command line names, tried on the words `zonewire check --class CH`.
use Rattle.std.proofs.Common.{◌≡◌, ◌∙◌, ℕ, List, [], ◌∷◌, Option, Some, None, refl, sym, ap}
use Rattle.std.specs.Prelude.{codes}
use Rattle.clap.specs.Faults.{defaults_fault, walk_fault}
use Rattle.clap.specs.Simple.{subcommand_of}
use Rattle.clap.specs.Walk.{Row, Text, walked}
use Rattle.dns_values.specs.Mnemonic.{classes, number_behind, number_named, number_read}
use Rattle.zonewire_words.specs.Command.{Choices, zonewire}
use Rattle.zonewire_words.specs.Words.{IsNamedJob, class_in}
use Rattle.zonewire_words.specs.declared.jobs.Job.TheVariants.{Check}

abbrev pub words : List Text
words = codes "zonewire" ∷ codes "check" ∷ codes "--class" ∷ codes "CH" ∷ []

-- They check a text of the class CH, which is 3, without an origin.
pub checks_chaos : (spellings layouts : Choices) → IsNamedJob (zonewire spellings layouts) words (Check None 3)
unfolding walk_fault walked defaults_fault number_read number_behind number_named classes
checks_chaos spellings layouts = (refl, ((codes "check", _), refl, (refl, refl, refl)))

class_of : Option (Text × List Row) → Option ℕ
class_of None = None
class_of (Some met) = class_in met.1

class_is : (spellings layouts : Choices) (met : Text × List Row) → subcommand_of (zonewire spellings layouts) words ≡ Some met
    → class_in met.1 ≡ Some 3
unfolding class_of walked number_read number_behind number_named classes
class_is spellings layouts met is = ap class_of (sym is)

two_classes : ◌≡◌ {A = Option ℕ} (Some 3) (Some 1) → ⊥
two_classes same = cc

-- The class does not stay at its default, IN, which is 1.
pub no_other_class : (spellings layouts : Choices) → IsNamedJob (zonewire spellings layouts) words (Check None 1) → ⊥
no_other_class spellings layouts is = two_classes (sym (class_is spellings layouts is.1.0 is.1.1) ∙ is.1.2.2)
