-- The job that the words of a command line name, and why words name none.
use Rattle.std.specs.Prelude.{◌≡◌, ◌⊎◌, ℕ, List, [], ◌∷◌, true, Some, None, Result, MatchResult, codes}
use Rattle.std.specs.Prelude.{⊤, IfSome, Option, pos, if◌then◌else◌}
use Rattle.std.specs.List.{AllByRecursion}
use Rattle.std.specs.Option.{option_map_or}
use Rattle.std.specs.Str.{bytes_eq}
use Rattle.std.specs.Str.Parse.{digits_value, without_leading_plus}
use Rattle.clap.specs.Walk.{Row, Text, first_of, one_of}
use Rattle.clap.specs.Simple.{App, subcommand_of}
use Rattle.clap.specs.Takes.{takes}
use Rattle.clap.specs.Faults.{fault_of}
use Rattle.clap.specs.Kinds.{HasKind}
use Rattle.clap.specs.Lexer.{without_minus}
use Rattle.clap.specs.Values.{IsSignedIn, kind_of}
use Rattle.clap.specs.declared.error.kind.ErrorKind.TheVariants as kind
use Rattle.dns_label.specs.NameText.{IsNameText}
use Rattle.dns_values.specs.Mnemonic.{class_read}
use Rattle.dns_text.specs.declared.layout.DisplayKind.{DisplayKind}
use Rattle.dns_text.specs.declared.layout.DisplayKind.TheVariants.{Simple, Tabbed, Multiline}
use Rattle.zone_core.specs.declared.spelling.Spelling.{Spelling}
use Rattle.zone_core.specs.declared.spelling.Spelling.TheVariants.{Plain, Static, Tree, Hash}
use Rattle.zonewire_words.specs.declared.jobs.Job.{Job}
use Rattle.zonewire_words.specs.declared.jobs.Job.TheVariants.{Send, Receive, Check, Canon}
use Rattle.zonewire_words.specs.declared.command_line.WordsFault.{WordsFault}
use Rattle.zonewire_words.specs.declared.command_line.WordsFault.TheVariants.{Line, BadName, BadClass, OutOfMemory}

-- the number of decimal digits, perhaps after a plus sign
abbrev pub number : Text → ℕ
number text = digits_value 10 (without_leading_plus text)

-- the number that the matches have for an option, or the default if the option is left out
abbrev pub number_or : ℕ → Text → List Row → ℕ
number_or default option rows = option_map_or number (one_of option rows) default

-- if the option is given, its value was accepted as a number from 0 to 65535
abbrev pub HasNumber : Text → List Row → Type 0
HasNumber option rows = IfSome (one_of option rows) (λ text. (value : Text)
    × (text ≡ without_minus value)
    × IsSignedIn (pos 0) (pos 65535) value)

-- the class IN (RFC 1035 3.2.4)
abbrev pub internet : ℕ
internet = 1

-- The class that the matches have, or IN if the option is left out: a mnemonic, up to ASCII case, or `CLASS` and a
-- number (RFC 3597 5). None if the text is not a class.
abbrev pub class_in : List Row → Option ℕ
class_in rows = option_map_or class_read (first_of (codes "class") rows) (Some internet)

-- the option is given, with this text
abbrev pub HasText : Text → List Row → Text → Type 0
HasText option rows text = first_of option rows ≡ Some text

-- the option's text spells the name, with or without its last dot
abbrev pub HasName : Text → List Row → List (List ℕ) → Type 0
HasName option rows name = (text : Text) × HasText option rows text × IsNameText text name

-- the name that the option gives, or none if it is left out
abbrev pub IsNameIn : Text → List Row → Option (List (List ℕ)) → Type 0
IsNameIn option rows None = first_of option rows ≡ None
IsNameIn option rows (Some name) = HasName option rows name

-- the option is given, and its text spells no name
abbrev pub HasNoName : Text → List Row → Type 0
HasNoName option rows = (text : Text) × HasText option rows text × ((labels : List (List ℕ)) → IsNameText text labels → ⊥)

-- why the option gives no name
abbrev pub IsNameFault : Text → List Row → WordsFault → Type 0
IsNameFault option rows (Line e) = ⊥
IsNameFault option rows BadName = HasNoName option rows
IsNameFault option rows BadClass = ⊥
IsNameFault option rows OutOfMemory = ⊤

-- the layout of this word
abbrev pub layout_named : Text → DisplayKind
layout_named text = if bytes_eq text (codes "tabbed") then Tabbed
    else (if bytes_eq text (codes "multiline") then Multiline else Simple)

-- the layout that the matches have, or the simple one if the option is left out
abbrev pub layout_in : List Row → DisplayKind
layout_in rows = option_map_or layout_named (first_of (codes "layout") rows) Simple

-- the spelling of this word
abbrev pub spelling_named : Text → Spelling
spelling_named text = if bytes_eq text (codes "plain") then Plain
    else (if bytes_eq text (codes "static") then Static
    else (if bytes_eq text (codes "hash") then Hash else Tree))

-- the spelling that the matches have, or that of a tree if the option is left out
abbrev pub spelling_in : List Row → Spelling
spelling_in rows = option_map_or spelling_named (first_of (codes "spelling") rows) Tree

-- the matches of a subcommand name the job
abbrev pub IsJobOf : Text × List Row → Job → Type 0
IsJobOf (name, rows) (Send origin class id apex max spelling) =
    (name ≡ codes "send") × IsNameIn (codes "origin") rows origin × (class_in rows ≡ Some class)
    × (id ≡ number_or 0 (codes "id") rows)
    × IsNameIn (codes "apex") rows apex × (max ≡ number_or 65535 (codes "max") rows) × (spelling ≡ spelling_in rows)
IsJobOf (name, rows) (Receive class id apex layout) =
    (name ≡ codes "receive") × (class_in rows ≡ Some class)
    × (id ≡ number_or 0 (codes "id") rows)
    × HasName (codes "apex") rows apex × (layout ≡ layout_in rows)
IsJobOf (name, rows) (Check origin class) =
    (name ≡ codes "check") × IsNameIn (codes "origin") rows origin × (class_in rows ≡ Some class)
IsJobOf (name, rows) (Canon origin class) =
    (name ≡ codes "canon") × IsNameIn (codes "origin") rows origin × (class_in rows ≡ Some class)

-- the options of a subcommand that are names
abbrev pub name_options : Text → List Text
name_options name = if bytes_eq name (codes "send") then codes "origin" ∷ codes "apex" ∷ []
    else (if bytes_eq name (codes "receive") then codes "apex" ∷ [] else codes "origin" ∷ [])

-- one of the options is given with a text that spells no name
abbrev pub HasBadName : List Text → List Row → Type 0
HasBadName [] rows = ⊥
HasBadName (option ∷ options) rows = HasNoName option rows ⊎ HasBadName options rows

-- each of the options gives a name or is left out
abbrev pub HasNames : List Text → List Row → Type 0
HasNames options rows = AllByRecursion (λ option. (name : Option (List (List ℕ))) × IsNameIn option rows name) options

-- Why matches with these name options name no job: out of memory, or a value that the command accepts as any text is
-- wrong. The names are read before the class.
abbrev pub IsFaultOf : List Text → List Row → WordsFault → Type 0
IsFaultOf options rows (Line e) = ⊥
IsFaultOf options rows BadName = HasBadName options rows
IsFaultOf options rows BadClass = HasNames options rows × (class_in rows ≡ None)
IsFaultOf options rows OutOfMemory = ⊤

-- why the matches of a subcommand name no job
abbrev pub IsValueFault : Text × List Row → WordsFault → Type 0
IsValueFault (name, rows) fault = IsFaultOf (name_options name) rows fault

-- the command accepts the words, no kind of error may come, and this holds of the subcommand that they name and its
-- matches
abbrev pub TakesAs : App → List Text → (Text × List Row → Type 0) → Type 0
TakesAs a words Holds = (fault_of a words ≡ [])
    × ((met : Text × List Row) × (subcommand_of a words ≡ Some met) × Holds met)

-- the command accepts the words, and the subcommand that they name is the job
abbrev pub IsNamedJob : App → List Text → Job → Type 0
IsNamedJob a words job = TakesAs a words (λ met. IsJobOf met job)

-- out of memory; or the command rejects the words, by its own rule; or it accepts them, and a value of the subcommand
-- that they name is wrong
abbrev pub IsRefusal : App → List Text → WordsFault → Type 0
IsRefusal a words (Line e) = HasKind (fault_of a words) e
    × (takes a words ≡ true → kind_of e ≡ kind.OutOfMemory)
IsRefusal a words BadName = TakesAs a words (λ met. IsValueFault met BadName)
IsRefusal a words BadClass = TakesAs a words (λ met. IsValueFault met BadClass)
IsRefusal a words OutOfMemory = ⊤

-- what the words give under the command
abbrev pub Reads : App → List Text → Result Job WordsFault → Type 0
Reads a words r = MatchResult r (IsNamedJob a words) (IsRefusal a words)
