-- What the matches of accepted words hold: each value passed the parser of its option.
use Rattle.std.proofs.Common.{◌≡◌, ◌∙◌, ℕ, Bool, cond, true, false, refl, sym, ap, ap₂, subst, arith, List, [], ◌∷◌, ◌++◌, ◌&&◌, ◌||◌, ◌==◌, length, Option, Some, None, is_some}
use Rattle.std.specs.List.{find, fold}
use Rattle.std.specs.Option.{option_map_or, unwrap_or}
use Rattle.std.specs.Prelude.{IfSome, option_and_then, slice_get}
use Rattle.std.specs.Str.{bytes_eq}
use Rattle.std.proofs.lemmas.Bool.{eqb-true}
use Rattle.std.proofs.lemmas.Slice.Eq.{bytes_eq-Decides}
use Rattle.clap.specs.Values.{read_as}
use Rattle.clap.specs.ValueTests.{accepts}
use Rattle.clap.specs.Facts.{explicit_source, parser_of_value, unwrap_or_range}
use Rattle.clap.specs.Kinds.{range_kinds, value_kinds}
use Rattle.clap.specs.Takes.{is_given}
use Rattle.clap.specs.Walk.{Row, Rule, Text, action_of, arg_by_id, default_rows, first_of, has_row, most_values, one_of, reading_by, row_text, used, used_as, values_or_missing, with_default, with_values, without}
use Rattle.clap.specs.Faults.{action_fault, set_fault, use_fault}
use Rattle.clap.specs.declared.builder.action.ArgAction.TheVariants.{Set}
use Rattle.clap.specs.declared.builder.value_parser.Reading.{Reading}
use Rattle.clap.specs.declared.error.kind.ErrorKind.TheVariants as kind
use Rattle.clap.specs.declared.parser.matches.ValueSource.TheVariants.{CommandLine}
use Rattle.zonewire_words.proofs.Uses.{none_else}

pub some_is : {X : Type 0} (x y : X) → Some x ≡ Some y → x ≡ y
some_is x y e = ap (λ o. unwrap_or o x) e

-- ---- lists

abbrev pub Each : {X : Type 0} → (X → Type 0) → List X → Type 0
Each Q [] = Unit {0}
Each Q (x ∷ xs) = Q x × Each Q xs

pub each_more : {X : Type 0} (Q : X → Type 0) (xs : List X) (x : X) → Each Q xs → Q x → Each Q (xs ++ x ∷ [])
each_more Q [] x all one = (one, tt)
each_more Q (y ∷ ys) x all one = (all.0, each_more Q ys x all.1 one)

pub each_found : {X : Type 0} (Q : X → Type 0) (p : X → Bool) (xs : List X) (x : X) → Each Q xs → find p xs ≡ Some x → Q x × (p x ≡ true)
each_found Q p [] x all is = cc
each_found {X} Q p (y ∷ ys) x all is = go (p y) refl is (each_found Q p ys x all.1)
  where
    go : (b : Bool) → p y ≡ b → cond b (Some y) (find p ys) ≡ Some x → (find p ys ≡ Some x → Q x × (p x ≡ true)) → Q x × (p x ≡ true)
    go true hit is later = subst (λ (z : X). Q z × (p z ≡ true)) (some_is y x is) (all.0, hit)
    go false miss is later = later is

-- ---- rows

-- the text passed the parser of its option, and is read as that parser says
abbrev pub HasPassed : Rule → Text → Type 0
HasPassed a t = (w : Text) × (t ≡ read_as (reading_by a) w) × (accepts a.ignore_case (parser_of_value a.parser) w ≡ true)

abbrev pub IsPassed : List Rule → Row → Type 0
IsPassed c r = (is_some (slice_get r.values 0) ≡ true)
    × ((a : Rule) → arg_by_id c r.id ≡ Some a → (t : Text) → row_text r ≡ Some t → HasPassed a t)

absent_head : (a b : Bool) → (a || b) ≡ false → (a ≡ false) × (b ≡ false)
absent_head true b e = cc
absent_head false b e = (refl, e)

without_absent : (id : Text) (rows : List Row) → has_row id rows ≡ false → without id rows ≡ rows
without_absent id [] absent = refl
without_absent id (r ∷ rs) absent =
    let parts = absent_head (bytes_eq r.id id) (has_row id rs) absent in
    ap (λ b. cond b rs (r ∷ without id rs)) parts.0 ∙ ap (λ l. r ∷ l) (without_absent id rs parts.1)

abbrev new_row : Text → Reading → List Text → Row
new_row id how values = record { id = id; values = values; count = None; source = Some CommandLine; reading = how }

with_absent : (id : Text) (how : Reading) (values : List Text) (rows : List Row) → has_row id rows ≡ false
    → with_values id how CommandLine values rows ≡ rows ++ new_row id how values ∷ []
with_absent id how values [] absent = refl
with_absent id how values (r ∷ rs) absent =
    let parts = absent_head (bytes_eq r.id id) (has_row id rs) absent in
    ap (λ b. cond b (Rattle.clap.specs.Walk.more_values CommandLine values r ++ rs) (r ∷ with_values id how CommandLine values rs)) parts.0
    ∙ ap (λ l. r ∷ l) (with_absent id how values rs parts.1)

-- ---- one use of an option with one value

one_value : (n : ℕ) → range_kinds 1 1 n ≡ [] → n ≡ 1
one_value n clear = go (n == 0) (1 == n) refl clear
  where
    go : (none one : Bool) → (1 == n) ≡ one
        → cond none (kind.InvalidValue ∷ []) (cond one [] (kind.WrongNumberOfValues ∷ [])) ≡ [] → n ≡ 1
    go true one is clear = cc
    go false true is clear = sym (eqb-true 1 n is)
    go false false is clear = cc

single : (values : List Text) → length values ≡ 1 → (v : Text) × (values ≡ v ∷ [])
single [] one = absurd (omega arith)
single (v ∷ []) one = (v, refl)
single (v ∷ w ∷ vs) one = absurd (omega arith)

absent_where : (b : Bool) → cond (b && true) (kind.ArgumentConflict ∷ []) [] ≡ [] → b ≡ false
absent_where true clear = cc
absent_where false clear = refl

passed_where : (a : Rule) (v : Text) → value_kinds a.ignore_case (parser_of_value a.parser) v ≡ [] → accepts a.ignore_case (parser_of_value a.parser) v ≡ true
passed_where a v clear = go (accepts a.ignore_case (parser_of_value a.parser) v) clear
  where
    go : (b : Bool) → cond b [] (Rattle.clap.specs.Values.refused_kind (parser_of_value a.parser) ∷ []) ≡ [] → b ≡ true
    go true clear = refl
    go false clear = cc

set_used : (a : Rule) (v : Text) (rows : List Row) → set_fault false a (v ∷ []) rows ≡ []
    → (has_row a.id rows ≡ false) × (accepts a.ignore_case (parser_of_value a.parser) v ≡ true)
set_used a v rows clear =
    let parts = none_else _ _ clear in
    (absent_where (has_row a.id rows) parts.0, passed_where a v (none_else _ _ parts.1).0)

row_added : (c : List Rule) (a : Rule) (v : Text) (rows : List Row) → arg_by_id c a.id ≡ Some a → accepts a.ignore_case (parser_of_value a.parser) v ≡ true
    → Each (IsPassed c) rows → Each (IsPassed c) (rows ++ new_row a.id (reading_by a) (v ∷ []) ∷ [])
row_added c a v rows own accepted all = each_more (IsPassed c) rows (new_row a.id (reading_by a) (v ∷ [])) all
    (refl, λ b is t text. subst (λ (d : Rule). HasPassed d t) (some_is a b (sym own ∙ is)) (v, sym (some_is (read_as (reading_by a) v) t text), accepted))

-- the option takes one value, and is found by its name
pub record IsSetOnce (c : List Rule) (a : Rule) : Type 0 where
  pub action : action_of a ≡ Set
  pub least : (unwrap_or_range a.range).start_inclusive ≡ 1
  pub most : most_values a ≡ 1
  pub own : arg_by_id c a.id ≡ Some a

-- a use that is accepted keeps that each value passed
abbrev pub Keeps : List Rule → Rule → Type 0
Keeps c a = (values : List Text) (rows : List Row) → use_fault false a values rows ≡ [] → Each (IsPassed c) rows → Each (IsPassed c) (used a values rows)

pub set_keeps : (c : List Rule) (a : Rule) → IsSetOnce c a → Keeps c a
set_keeps c a once values rows clear all =
    let parts = none_else _ _ clear in
    let counted : range_kinds 1 1 (length values) ≡ [] = sym (ap₂ (λ i j. range_kinds i j (length values)) once.least once.most) ∙ parts.0 in
    let (v, is) = single values (one_value (length values) counted) in
    let set : set_fault false a (v ∷ []) rows ≡ [] =
    sym (ap₂ (λ k vs. action_fault k false a (values_or_missing a vs) rows) once.action is) ∙ parts.1 in
    let (absent, accepted) = set_used a v rows set in
    let made : used a values rows ≡ rows ++ new_row a.id (reading_by a) (v ∷ []) ∷ [] =
    ap₂ (λ k vs. used_as k a.id (reading_by a) (values_or_missing a vs) rows) once.action is
    ∙ ap (with_values a.id (reading_by a) CommandLine (v ∷ [])) (without_absent a.id rows absent)
    ∙ with_absent a.id (reading_by a) (v ∷ []) rows absent in
    subst (Each (IsPassed c)) (sym made) (row_added c a v rows once.own accepted all)

-- ---- defaults

default_nothing : (rows : List Row) (a : Rule) → a.defaults ≡ [] → with_default rows a ≡ rows
default_nothing rows a none = go (has_row a.id rows)
  where
    go : (b : Bool) → cond b rows (default_rows a.id (reading_by a) a.defaults rows) ≡ rows
    go true = refl
    go false = ap (λ values. default_rows a.id (reading_by a) values rows) none

-- options without defaults add no row
pub defaults_nothing : (options : List Rule) (rows : List Row) → Each (λ a. a.defaults ≡ []) options → fold with_default rows options ≡ rows
defaults_nothing [] rows all = refl
defaults_nothing (a ∷ more) rows all =
    ap (λ rs. fold with_default rs more) (default_nothing rows a all.0) ∙ defaults_nothing more rows all.1

-- ---- what is read

-- if the option is given, its text passed its parser
pub given_passed : (c : List Rule) (name : Text) (a : Rule) (rows : List Row) → arg_by_id c name ≡ Some a → Each (IsPassed c) rows → IfSome (one_of name rows) (HasPassed a)
given_passed c name a rows own all = go (find (λ r. bytes_eq r.id name) rows) refl
  where
    text : (r : Row) → IsPassed c r → r.id ≡ name → (o : Option Text) → row_text r ≡ o → IfSome o (HasPassed a)
    text r passed named None is = tt
    text r passed named (Some t) is = passed.1 a (ap (arg_by_id c) named ∙ own) t is

    go : (o : Option Row) → find (λ r. bytes_eq r.id name) rows ≡ o → IfSome (option_and_then row_text o) (HasPassed a)
    go None is = tt
    go (Some r) is =
        let found = each_found (IsPassed c) (λ (q : Row). bytes_eq q.id name) rows r all is in
        text r found.0 ((bytes_eq-Decides r.id name).0 found.1) (row_text r) refl

-- an option that was given has a text
pub given_text : (c : List Rule) (name : Text) (rows : List Row) → Each (IsPassed c) rows → is_given name rows ≡ true → is_some (first_of name rows) ≡ true
given_text c name rows all given = go (find (λ r. bytes_eq r.id name) rows) refl given
  where
    go : (o : Option Row) → find (λ r. bytes_eq r.id name) rows ≡ o → option_map_or (λ r. explicit_source r.source) o false ≡ true
        → is_some (option_and_then (λ r. slice_get r.values 0) o) ≡ true
    go None is given = cc
    go (Some r) is given = (each_found (IsPassed c) (λ (q : Row). bytes_eq q.id name) rows r all is).0.0
