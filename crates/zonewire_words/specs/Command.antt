-- The command line of `zonewire`, as a command of clap.
use Rattle.std.specs.Prelude.{◌≡◌, pos, List, [], ◌∷◌, true, Some, codes}
use Rattle.std.specs.Borrow.{Bor}
use Rattle.clap.specs.Walk.{Rule, Text, texts}
use Rattle.clap.specs.Simple.{App, new_app, new_rule, on_top, with_rule, with_subcommand}
use Rattle.clap.specs.declared.builder.value_parser.ValueParser.TheVariants.{Names, Signed}

-- A list of the words that an option accepts. Its fields say where the list and the words are in memory.
abbrev pub Choices : Type 0
Choices = Bor (List (Bor Text))

-- `--name` with a number from 0 to 65535
abbrev pub number_option : Text → Rule
number_option name =
    record (new_rule name) { long = Some name; parser = Some (Signed (pos 0) (pos 65535)) }

-- `--name` with one of these words
abbrev pub choice_option : Text → Choices → Rule
choice_option name choices = record (new_rule name) { long = Some name; parser = Some (Names choices) }

-- `--name` with any text
abbrev pub text_option : Text → Rule
text_option name = record (new_rule name) { long = Some name }

-- a subcommand that reads a zone's text has these options, for the origin and the class
abbrev pub with_text_options : App → App
with_text_options a = with_rule (with_rule a (text_option (codes "origin"))) (text_option (codes "class"))

-- a required option
abbrev pub always : Rule → Rule
always option = record option { required = true }

abbrev pub send_app : Choices → App
send_app spellings = with_rule
    (with_rule
    (with_rule
    (with_rule (with_text_options (new_app (codes "send"))) (number_option (codes "id")))
    (text_option (codes "apex")))
    (number_option (codes "max")))
    (choice_option (codes "spelling") spellings)

abbrev pub receive_app : Choices → App
receive_app layouts = with_rule
    (with_rule
    (with_rule
    (with_rule (new_app (codes "receive")) (always (text_option (codes "apex")))) (number_option (codes "id")))
    (text_option (codes "class")))
    (choice_option (codes "layout") layouts)

-- the subcommand of this name that reads a zone's text and has no further options
abbrev pub text_app : Text → App
text_app name = with_text_options (new_app name)

-- the list has these words
abbrev pub IsChoices : List Text → Choices → Type 0
IsChoices words choices = texts choices.now ≡ words

-- the values of `--spelling`
abbrev pub IsSpellings : Choices → Type 0
IsSpellings spellings = IsChoices (codes "plain" ∷ codes "static" ∷ codes "tree" ∷ codes "hash" ∷ []) spellings

-- the values of `--layout`
abbrev pub IsLayouts : Choices → Type 0
IsLayouts layouts = IsChoices (codes "simple" ∷ codes "tabbed" ∷ codes "multiline" ∷ []) layouts

abbrev pub IsSend : App → Type 0
IsSend a = (spellings : Choices) × IsSpellings spellings × (a ≡ send_app spellings)

abbrev pub IsReceive : App → Type 0
IsReceive a = (layouts : Choices) × IsLayouts layouts × (a ≡ receive_app layouts)

-- one of the subcommands is required, and there is none for help
abbrev pub program : App
program = on_top (λ s. record s { subcommand_required = true; disable_help_subcommand = true })
    (new_app (codes "zonewire"))

abbrev pub zonewire : Choices → Choices → App
zonewire spellings layouts = with_subcommand
    (with_subcommand
    (with_subcommand (with_subcommand program (send_app spellings).top) (receive_app layouts).top)
    (text_app (codes "check")).top)
    (text_app (codes "canon")).top

-- the command of the program, wherever the lists of its options' words are in memory
abbrev pub IsZonewire : App → Type 0
IsZonewire a = (spellings : Choices) × (layouts : Choices) × IsSpellings spellings × IsLayouts layouts
    × (a ≡ zonewire spellings layouts)
