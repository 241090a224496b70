-- Words that the command accepts name one of its subcommands, with options whose values passed their parsers.
use Rattle.std.proofs.Common.{◌≡◌, ◌∙◌, Bool, cond, true, false, refl, sym, ap, ap₂, subst, List, [], ◌∷◌, Option, Some, None, is_some, codes, not, ◌||◌, ◌⊎◌, inl, inr}
use Rattle.std.specs.Option.{option_map, option_map_or}
use Rattle.std.specs.Bool.{MatchBool}
use Rattle.std.specs.Prelude.{Box, IfSome, pos}
use Rattle.std.specs.Box.{box_value}
use Rattle.clap.specs.Matches.{subcommand_name_of}
use Rattle.clap.specs.declared.parser.matches.ArgMatches.{ArgMatches}
use Rattle.clap.specs.declared.parser.matches.ArgMatches.TheViews.{out-ArgMatches, out-SubCommand}
use Rattle.clap.specs.declared.parser.matches.SubCommand.{SubCommand}
use Rattle.clap.specs.Lexer.{without_minus}
use Rattle.clap.specs.Values.{IsSignedIn, read_as}
use Rattle.clap.specs.ValueTests.{accepts}
use Rattle.clap.specs.Facts.{parser_of_value, unwrap_or_range}
use Rattle.clap.specs.declared.builder.value_parser.Reading.TheVariants.{WithoutMinus}
use Rattle.clap.proofs.ValueTestLemmas.{accepts-Accepts}
use Rattle.std.specs.Str.{bytes_eq}
use Rattle.clap.specs.Walk.{Names, Row, Rule, Text, action_of, answers_to, arg_by_id, first_of, most_values, nothing_held, one_of, reading_by, walk}
use Rattle.clap.specs.Takes.{is_given}
use Rattle.clap.specs.Simple.{App, HasMatchesOf, Shape, argument_words, built, entered, filled, is_simple, label_of, names_of, new_shape, rows_at, subcommand_of, subcommand_rows, subcommand_rows_of}
use Rattle.clap.specs.Faults.{entered_fault, fault_of, is_simple_and_free, level_fault, use_fault}
use Rattle.clap.specs.Kinds.{Kinds}
use Rattle.clap.specs.declared.builder.value_parser.ValueParser.TheVariants as vp
use Rattle.clap.specs.declared.builder.action.ArgAction.TheVariants.{Set}
use Rattle.clap.specs.declared.error.kind.ErrorKind.TheVariants as kind
use Rattle.zonewire_words.specs.Command.{Choices, IsZonewire, always, choice_option, number_option, text_option, zonewire}
use Rattle.zonewire_words.specs.Words.{HasNumber}
use Rattle.zonewire_words.proofs.Uses.{level_clear, level_keeps}
use Rattle.zonewire_words.proofs.Rows.{Each, HasPassed, IsPassed, Keeps, defaults_nothing, each_found, given_passed, given_text, set_keeps, some_is}

abbrev first : List Shape → Shape
first [] = new_shape []
first (s ∷ more) = s

abbrev second : List Shape → Shape
second [] = new_shape []
second (s ∷ more) = first more

abbrev third : List Shape → Shape
third [] = new_shape []
third (s ∷ more) = second more

abbrev fourth : List Shape → Shape
fourth [] = new_shape []
fourth (s ∷ more) = third more

-- the options of the command
abbrev origin_rule : Rule
origin_rule = filled (text_option (codes "origin"))

abbrev class_rule : Rule
class_rule = filled (text_option (codes "class"))

abbrev id_rule : Rule
id_rule = filled (number_option (codes "id"))

abbrev max_rule : Rule
max_rule = filled (number_option (codes "max"))

abbrev spelling_rule : Choices → Rule
spelling_rule spellings = filled (choice_option (codes "spelling") spellings)

-- the apex of a query may be left out, and that of a zone that is received may not
abbrev asked_rule : Rule
asked_rule = filled (text_option (codes "apex"))

abbrev apex_rule : Rule
apex_rule = filled (always (text_option (codes "apex")))

abbrev layout_rule : Choices → Rule
layout_rule layouts = filled (choice_option (codes "layout") layouts)

-- the rows of a level that accepts the words, if its options have no defaults
level_rows : (s : Shape) (words : List Text) → s.args_override_self ≡ false → Each (Keeps s.rules) s.rules → Each (λ a. a.defaults ≡ []) s.rules
    → level_fault s [] nothing_held words false [] ≡ [] → Each (IsPassed s.rules) (rows_at s words).1
level_rows s words once keeps bare clear =
    let kept = level_keeps s (Each (IsPassed s.rules))
    (λ p a is values rows used all. (each_found (Keeps s.rules) p s.rules a keeps is).0 values rows (sym (ap (λ again. use_fault again a values rows) once) ∙ used) all)
    [] nothing_held words false [] tt clear in
    subst (Each (IsPassed s.rules)) (sym (defaults_nothing s.rules _ bare)) kept

-- a required option is given if the words are accepted
needs : (given : Bool) → cond (not given || false) (kind.MissingRequiredArgument ∷ []) [] ≡ [] → given ≡ true
needs true clear = refl
needs false clear = cc

-- ---- the numbers

-- the text was read from a number from 0 to 65535
abbrev Numbers : Text → Type 0
Numbers text = (value : Text) × (text ≡ without_minus value) × IsSignedIn (pos 0) (pos 65535) value

number_of_passed : (a : Rule) → reading_by a ≡ WithoutMinus → a.ignore_case ≡ false → parser_of_value a.parser ≡ vp.Signed (pos 0) (pos 65535)
    → (o : Option Text) → IfSome o (HasPassed a) → IfSome o Numbers
number_of_passed a how case parser None passed = tt
number_of_passed a how case parser (Some t) (w, is, accepted) = (
  w,
  is ∙ ap (λ r. read_as r w) how,
  accepts-Accepts false (vp.Signed (pos 0) (pos 65535)) w (sym (ap₂ (λ b p. accepts b p w) case parser) ∙ accepted),
)

-- the number of an option that is found by its name
number_passed : (rules : List Rule) (name : Text) (a : Rule) (rows : List Row) → arg_by_id rules name ≡ Some a → reading_by a ≡ WithoutMinus
    → a.ignore_case ≡ false → parser_of_value a.parser ≡ vp.Signed (pos 0) (pos 65535) → Each (IsPassed rules) rows → HasNumber name rows
number_passed rules name a rows own how case parser all =
    number_of_passed a how case parser (one_of name rows) (given_passed rules name a rows own all)

-- ---- what accepted words name

-- the name is that of a subcommand
abbrev IsKnown : Text → Type 0
IsKnown name = (name ≡ codes "send") ⊎ ((name ≡ codes "receive") ⊎ ((name ≡ codes "check") ⊎ (name ≡ codes "canon")))

-- what holds of the rows of the subcommand with this name
abbrev pub Needs : Text → List Row → Type 0
Needs name rows = MatchBool (bytes_eq name (codes "send")) (HasNumber (codes "id") rows × HasNumber (codes "max") rows)
    (MatchBool (bytes_eq name (codes "receive")) (HasNumber (codes "id") rows × (is_some (first_of (codes "apex") rows) ≡ true)) (Unit {0}))

-- a subcommand was found, and this holds of its rows
abbrev IsNamed : Option (Text × List Row) → Type 0
IsNamed met = (name : Text) × (rows : List Row) × (met ≡ Some (name, rows)) × IsKnown name × Needs name rows

once : (c : List Rule) (a : Rule) → action_of a ≡ Set → (unwrap_or_range a.range).start_inclusive ≡ 1 → most_values a ≡ 1 → arg_by_id c a.id ≡ Some a
    → Keeps c a
once c a action least most own = set_keeps c a (record { action = action; least = least; most = most; own = own })

module _ (spellings layouts : Choices) where
  -- the command and its subcommands
  abbrev whole : App
  whole = built (zonewire spellings layouts)

  abbrev sends : Shape
  sends = first whole.subs

  abbrev receives : Shape
  receives = second whole.subs

  abbrev checks : Shape
  checks = third whole.subs

  abbrev canons : Shape
  canons = fourth whole.subs

  send_keeps : Each (Keeps sends.rules) sends.rules
  send_keeps = (
    once sends.rules origin_rule refl refl refl refl,
    (
      once sends.rules class_rule refl refl refl refl,
      (
        once sends.rules id_rule refl refl refl refl,
        (
          once sends.rules asked_rule refl refl refl refl,
          (
            once sends.rules max_rule refl refl refl refl,
            (once sends.rules (spelling_rule spellings) refl refl refl refl, ((λ values rows clear all. all), tt)),
          ),
        ),
      ),
    ),
  )

  receive_keeps : Each (Keeps receives.rules) receives.rules
  receive_keeps = (
    once receives.rules apex_rule refl refl refl refl,
    (
      once receives.rules id_rule refl refl refl refl,
      (
        once receives.rules class_rule refl refl refl refl,
        (once receives.rules (layout_rule layouts) refl refl refl refl, ((λ values rows clear all. all), tt)),
      ),
    ),
  )

  -- a level that needs a subcommand fails without one
  needed : (names : Names) (words : List Text) (below : Kinds) → level_fault whole.top names nothing_held words false below ≡ [] → ⊥
  needed names words below clear = missing (level_clear whole.top names nothing_held words false below clear).1
    where
      missing : kind.MissingSubcommand ∷ [] ≡ [] → ⊥
      missing e = cc

  send_named : (words : List Text) → level_fault sends [] nothing_held words false [] ≡ [] → IsNamed (Some (rows_at sends words))
  send_named words clear =
      let rows = (rows_at sends words).1 in
      let all : Each (IsPassed sends.rules) rows =
      level_rows sends words refl send_keeps (refl, (refl, (refl, (refl, (refl, (refl, (refl, tt))))))) clear in
      let id : HasNumber (codes "id") rows = number_passed sends.rules (codes "id") id_rule rows refl refl refl refl all in
      let max : HasNumber (codes "max") rows = number_passed sends.rules (codes "max") max_rule rows refl refl refl refl all in
      (codes "send", rows, refl, inl refl, (id, max))

  receive_named : (words : List Text) → level_fault receives [] nothing_held words false [] ≡ [] → IsNamed (Some (rows_at receives words))
  receive_named words clear =
      let rows = (rows_at receives words).1 in
      let all : Each (IsPassed receives.rules) rows =
      level_rows receives words refl receive_keeps (refl, (refl, (refl, (refl, (refl, tt))))) clear in
      let given = needs (is_given (codes "apex") rows) (level_clear receives [] nothing_held words false [] clear).1 in
      let id : HasNumber (codes "id") rows = number_passed receives.rules (codes "id") id_rule rows refl refl refl refl all in
      (codes "receive", rows, refl, inr (inl refl), (id, given_text receives.rules (codes "apex") rows all given))

  -- the subcommand, by whether its name was found
  abbrev entered_by : Bool → Bool → Bool → Bool → Option Shape
  entered_by is_send is_receive is_check is_canon =
      cond is_send (Some sends) (cond is_receive (Some receives) (cond is_check (Some checks) (cond is_canon (Some canons) None)))

  abbrev met_by : Bool → Bool → Bool → Bool → List Text → Option (Text × List Row)
  met_by is_send is_receive is_check is_canon words = option_map (λ s. rows_at s words) (entered_by is_send is_receive is_check is_canon)

  abbrev fault_by : Bool → Bool → Bool → Bool → List Text → Kinds
  fault_by is_send is_receive is_check is_canon words =
      option_map_or (λ s. level_fault s [] nothing_held words false []) (entered_by is_send is_receive is_check is_canon) []

  named_by : (names : Names) (words : List Text) (is_send is_receive is_check is_canon : Bool) (behind : List Text)
      → level_fault whole.top names nothing_held words (is_some (met_by is_send is_receive is_check is_canon behind))
      (fault_by is_send is_receive is_check is_canon behind) ≡ []
      → IsNamed (met_by is_send is_receive is_check is_canon behind)
  named_by names words true is_receive is_check is_canon behind clear =
      send_named behind (level_clear whole.top names nothing_held words true (fault_by true is_receive is_check is_canon behind) clear).0
  named_by names words false true is_check is_canon behind clear =
      receive_named behind (level_clear whole.top names nothing_held words true (fault_by false true is_check is_canon behind) clear).0
  named_by names words false false true is_canon behind clear = (codes "check", (rows_at checks behind).1, refl, inr (inr (inl refl)), tt)
  named_by names words false false false true behind clear = (codes "canon", (rows_at canons behind).1, refl, inr (inr (inr refl)), tt)
  named_by names words false false false false behind clear = absurd (needed names words [] clear)

  named_at : (names : Names) (words : List Text) (stop : Option (Text × List Text))
      → level_fault whole.top names nothing_held words (is_some (entered whole stop)) (entered_fault whole stop) ≡ []
      → IsNamed (entered whole stop)
  named_at names words None clear = absurd (needed names words [] clear)
  named_at names words (Some p) clear = named_by names words (answers_to p.0 (label_of sends)) (answers_to p.0 (label_of receives))
      (answers_to p.0 (label_of checks)) (answers_to p.0 (label_of canons)) p.1 clear

  named : (words : List Text) → fault_of (zonewire spellings layouts) words ≡ [] → IsNamed (subcommand_of (zonewire spellings layouts) words)
  named words clear =
      let given = argument_words (zonewire spellings layouts) words in
      named_at (names_of whole) given (walk whole.top.rules (names_of whole) nothing_held given).stopped clear

-- ---- what a parse says of it

pub simple_and_free : (a : App) → IsZonewire a → is_simple_and_free a ≡ true
simple_and_free a (spellings, layouts, spelled, laid, is) = ap is_simple_and_free is

-- the subcommand that the parse found has this name
pub record IsMetAs (name : Text) (a : App) (words : List Text) (m : ArgMatches) : Type 0 where
  pub rows : List Row
  pub met : subcommand_rows_of m ≡ Some (name, rows)
  pub names : subcommand_of a words ≡ Some (name, rows)
  pub holds : Needs name rows

abbrev pub IsMet : App → List Text → ArgMatches → Type 0
IsMet a words m = (name : Text) × IsKnown name × IsMetAs name a words m

met_as : (a : App) (words : List Text) (m : ArgMatches) → subcommand_rows_of m ≡ subcommand_of a words → IsNamed (subcommand_of a words) → IsMet a words m
met_as a words m is (name, rows, found, known, needs) =
    (name, known, record { rows = rows; met = is ∙ found; names = found; holds = needs })

pub met_one : (a : App) → IsZonewire a → (words : List Text) (m : ArgMatches) → (is_simple_and_free a ≡ true → fault_of a words ≡ [])
    → HasMatchesOf a words m → IsMet a words m
met_one a (spellings, layouts, spelled, laid, is) words m kinds matches =
    subst (λ (b : App). IsMet b words m) (sym is) (met_as (zonewire spellings layouts) words m
    ((matches (ap is_simple is)).1 ∙ ap (λ b. subcommand_of b words) is)
    (named spellings layouts words (ap (λ b. fault_of b words) (sym is) ∙ kinds (ap is_simple_and_free is))))

-- its name
name_of_met : {Z : Type 0} (o : Option (Box SubCommand Z)) (met : Text × List Row) → subcommand_rows o ≡ Some met
    → option_map (λ b. (out-SubCommand (box_value b)).name.now) o ≡ Some met.0
name_of_met None met is = cc
name_of_met (Some b) met is = ap (option_map (λ (q : Text × List Row). q.0)) is

same_name : (m : ArgMatches) (met : Text × List Row) (name : Text) → subcommand_rows_of m ≡ Some met → Some name ≡ subcommand_name_of m → name ≡ met.0
same_name m met name is named = some_is name met.0 (named ∙ name_of_met (out-ArgMatches m).subcommand met is)

-- the subcommand, if its name is this one
pub met_at : (a : App) (words : List Text) (m : ArgMatches) → IsMet a words m → (name given : Text) → Some given ≡ subcommand_name_of m
    → given ≡ name → IsMetAs name a words m
met_at a words m (met, known, s) name given named is =
    let same : met ≡ name = sym (same_name m (met, s.rows) given s.met named) ∙ is in
    subst (λ (n : Text). IsMetAs n a words m) same s

-- its name is one of the four
pub one_by : (a : App) (words : List Text) (m : ArgMatches) → IsMet a words m → (name : Text) → Some name ≡ subcommand_name_of m
    → (name ≡ codes "send" → ⊥) → (name ≡ codes "receive" → ⊥) → (name ≡ codes "check" → ⊥) → (name ≡ codes "canon" → ⊥) → ⊥
one_by a words m (met, known, s) name named not-send not-receive not-check not-canon =
    go known (same_name m (met, s.rows) name s.met named)
  where
    go : IsKnown met → name ≡ met → ⊥
    go (inl is) same = not-send (same ∙ is)
    go (inr (inl is)) same = not-receive (same ∙ is)
    go (inr (inr (inl is))) same = not-check (same ∙ is)
    go (inr (inr (inr is))) same = not-canon (same ∙ is)

-- the rows of the matches that a caller got for the subcommand
pub met_rows : (m : ArgMatches) (met : Text × List Row) → subcommand_rows_of m ≡ Some met → (rows : List Row)
    → Some rows ≡ option_map (λ p. p.1) (subcommand_rows_of m) → rows ≡ met.1
met_rows m met is rows given = some_is rows met.1 (given ∙ ap (option_map (λ (q : Text × List Row). q.1)) is)
