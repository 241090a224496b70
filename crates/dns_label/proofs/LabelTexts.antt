-- Which label a text spells, as its symbols are read one by one.
use Rattle.std.proofs.Common.{◌≡◌, ℕ, ◌+◌, ◌<◌, ◌≤◌, true, false, List, [], ◌∷◌, ◌++◌, length, map, refl, sym, ◌∙◌, ap, subst, arith, inl, inr, append_assoc, append-nil, length-append, length-take, rules}
use borrow.Author.Tests.{tests}
use Rattle.std.proofs.lemmas.List.{length-map}
use Rattle.std.specs.Prelude.{◌==◌, Option, None, Result, Ok, Err, IfOk, IfErr, OnErr, MatchResult, slice_index, drop}
use Rattle.std.specs.List.{AllByRecursion, flat_map}
use Rattle.std.specs.Iterator.{Yields, Drains, YieldsFirst}
use Rattle.dns_label.specs.declared.symbol.Symbol.{Symbol}
use Rattle.dns_label.specs.declared.symbol.Symbol.TheVariants.{Char, SimpleEscape, DecimalEscape}
use Rattle.dns_label.specs.declared.label.owned.OwnedLabel.{OwnedLabel}
use Rattle.dns_label.specs.declared.label.owned.text.LabelFromStrError.{LabelFromStrError}
use Rattle.dns_label.specs.OwnedLabel.{octets_owned}
use Rattle.dns_label.specs.Symbol.{IsSymbol, octet, spelled}
use Rattle.dns_label.specs.NameText.{is_dot}
use Rattle.dns_label.specs.ReadSymbol.{GoesOnInSymbols}
use Rattle.dns_label.specs.LabelText.{IsOfLabel, IsLabelText, IsLabelFault, IsOver}
use Rattle.dns_label.specs.declared.label.owned.text.LabelFromStrError.TheVariants.{BadSymbol, Dot, EmptyLabel, LongLabel}
use Rattle.dns_label.specs.Taken.{RulesOut}
use Rattle.dns_label.proofs.Taken.{yields_append}
use Rattle.dns_label.proofs.SymbolTexts.{split_symbols, goes_on_in, no_more}

-- these symbols were taken, for these octets
pub record Taking (taken : List Symbol) (octets : List ℕ) : Type 0 where
  pub each : AllByRecursion IsOfLabel taken
  pub stand : octets ≡ map octet taken

pub taking_none : (octets : List ℕ) → octets ≡ [] → Taking [] octets
taking_none octets none = record { each = tt; stand = none }

each_of : (symbols : List Symbol) → AllByRecursion IsOfLabel symbols → AllByRecursion IsSymbol symbols
each_of [] each = tt
each_of (symbol ∷ symbols) each = (each.0.0, each_of symbols each.1)

each_more : (front back : List Symbol) → AllByRecursion IsOfLabel front → AllByRecursion IsOfLabel back → AllByRecursion IsOfLabel (front ++ back)
each_more [] back each all = all
each_more (symbol ∷ front) back each all = (each.0, each_more front back each.1 all)

each_behind : (front back : List Symbol) → AllByRecursion IsOfLabel (front ++ back) → AllByRecursion IsOfLabel back
each_behind [] back each = each
each_behind (symbol ∷ front) back each = each_behind front back each.1

stand_more : (front : List Symbol) (symbol : Symbol) → map octet (front ++ symbol ∷ []) ≡ map octet front ++ octet symbol ∷ []
stand_more [] symbol = refl
stand_more (first ∷ front) symbol = ap (λ l. octet first ∷ l) (stand_more front symbol)

text_more : (front back : List Symbol) → flat_map spelled (front ++ back) ≡ flat_map spelled front ++ flat_map spelled back
text_more [] back = refl
text_more (symbol ∷ front) back =
    ap (λ l. spelled symbol ++ l) (text_more front back) ∙ sym (append_assoc (spelled symbol) (flat_map spelled front) (flat_map spelled back))

pub text_one : (taken : List Symbol) (symbol : Symbol) → flat_map spelled (taken ++ symbol ∷ []) ≡ flat_map spelled taken ++ spelled symbol
text_one taken symbol = text_more taken (symbol ∷ []) ∙ ap (λ l. flat_map spelled taken ++ l) (append-nil (spelled symbol))

-- one more
pub taking_more : (taken : List Symbol) (octets new : List ℕ) (symbol : Symbol) → Taking taken octets → IsSymbol symbol
    → is_dot symbol ≡ false → new ≡ octets ++ octet symbol ∷ [] → Taking (taken ++ symbol ∷ []) new
taking_more taken octets new symbol taking is_symbol plain is = record {
  each = each_more taken (symbol ∷ []) taking.each ((is_symbol, plain), tt);
  stand = is ∙ ap (λ l. l ++ octet symbol ∷ []) taking.stand ∙ sym (stand_more taken symbol);
}

-- all of them
pub spells_label : (taken : List Symbol) (octets : List ℕ) → Taking taken octets → 0 < length octets → length octets ≤ 63
    → IsLabelText (flat_map spelled taken) octets
spells_label taken octets taking some short = record {
  symbols = taken;
  each = taking.each;
  written = refl;
  octets = taking.stand;
  is_label = record { some = some; short = short };
}

-- a label's text that begins with the text of these symbols goes on with symbols
record Rest (taken : List Symbol) (rest label : List ℕ) : Type 0 where
  pub more : List Symbol
  pub each : AllByRecursion IsOfLabel more
  pub written : rest ≡ flat_map spelled more
  pub long : length label ≡ length taken + length more
  pub short : length label ≤ 63
  pub some : 0 < length label

rest_of : (taken : List Symbol) (rest label : List ℕ) → AllByRecursion IsSymbol taken → IsLabelText (flat_map spelled taken ++ rest) label
    → Rest taken rest label
rest_of taken rest label each is =
    let split = split_symbols taken is.symbols rest each (each_of is.symbols is.each) is.written in
    let P : List Symbol → Type 0 = λ s. AllByRecursion IsOfLabel s in
    record {
      more = split.more;
      each = each_behind taken split.more (subst P split.is is.each);
      written = split.written;
      long = ap length is.octets ∙ length-map is.symbols octet ∙ ap length split.is ∙ length-append taken split.more;
      short = is.is_label.short;
      some = is.is_label.some;
    }

abbrev pub SpellsLabel : List ℕ → Type 0
SpellsLabel text = (label : List ℕ) × IsLabelText text label

-- a symbol should follow, and none does
pub no_symbol_none : (taken : List Symbol) (octets rest : List ℕ) → Taking taken octets → SpellsLabel (flat_map spelled taken ++ rest)
    → GoesOnInSymbols rest
no_symbol_none taken octets rest taking spells =
    let found = rest_of taken rest spells.0 (each_of taken taking.each) spells.1 in
    goes_on_in rest found.more (each_of found.more found.each) found.written

-- one symbol more than a label has, or a dot
pub over_label : (taken : List Symbol) (octets rest : List ℕ) (symbol : Symbol) → Taking taken octets → IsSymbol symbol
    → (is_dot symbol ≡ false → length octets ≡ 63) → SpellsLabel (flat_map spelled taken ++ (spelled symbol ++ rest)) → ⊥
over_label taken octets rest symbol taking is_symbol over spells =
    let found = rest_of taken (spelled symbol ++ rest) spells.0 (each_of taken taking.each) spells.1 in
    let split = split_symbols (symbol ∷ []) found.more rest (is_symbol, tt) (each_of found.more found.each)
    (append_assoc (spelled symbol) [] rest ∙ found.written) in
    let P : List Symbol → Type 0 = λ s. AllByRecursion IsOfLabel s in
    let plain = (subst P split.is found.each).0.1 in
    let count : length found.more ≡ length (symbol ∷ split.more) = ap length split.is in
    omega (arith, over plain, found.long, found.short, count, ap (length {A = ℕ}) taking.stand, length-map taken octet)

pub none_label : (taken : List Symbol) (octets : List ℕ) → Taking taken octets → octets ≡ [] → SpellsLabel (flat_map spelled taken) → ⊥
none_label taken octets taking none spells =
    let P : List ℕ → Type 0 = λ t. IsLabelText t spells.0 in
    let found = rest_of taken [] spells.0 (each_of taken taking.each) (subst P (sym (append-nil (flat_map spelled taken))) spells.1) in
    let no = no_more found.more found.written in
    omega (arith, found.long, found.some, ap (length {A = Symbol}) no, ap (length {A = ℕ}) taking.stand, ap (length {A = ℕ}) none, length-map taken octet)

pub owned-short : (label : OwnedLabel) → length (octets_owned label) ≤ 63
owned-short label =
    let few = label.short in
    omega (arith, length-take (slice_index label.wire 0) (drop 1 label.wire))

-- all symbols were taken
module _ {C : Type 0} (steps : C → Option ℕ → C → Type 0) (start here end : C) (taken : List Symbol) (label : OwnedLabel)
    (result : Result OwnedLabel LabelFromStrError) (taking : Taking taken (octets_owned label)) (gave : Yields steps start (flat_map spelled taken) here)
    (none : steps here None end) where
  pub filled_ok : IfOk result (λ found. (octets_owned found ≡ octets_owned label) × (0 < length (octets_owned found)))
      → IfOk result (λ found. (text : List ℕ) × Drains steps start text × IsLabelText text (octets_owned found))
  filled_ok = by_result result
    where
      by_result : (result : Result OwnedLabel LabelFromStrError)
          → IfOk result (λ found. (octets_owned found ≡ octets_owned label) × (0 < length (octets_owned found)))
          → IfOk result (λ found. (text : List ℕ) × Drains steps start text × IsLabelText text (octets_owned found))
      by_result (Ok found) is =
          let P : List ℕ → Type 0 = λ o. Taking taken o in
          let few = found.short in (
            flat_map spelled taken,
            (end, (here, gave, none)),
            spells_label taken (octets_owned found) (subst P (sym is.0) taking) is.1 (owned-short found),
          )
      by_result (Err error) is = tt

  pub filled_err : OnErr result (octets_owned label ≡ []) → OnErr result (RulesOut steps start SpellsLabel)
  filled_err = by_result result
    where
      by_result : (result : Result OwnedLabel LabelFromStrError) → OnErr result (octets_owned label ≡ []) → OnErr result (RulesOut steps start SpellsLabel)
      by_result (Ok found) is = tt
      by_result (Err error) is = record {
        taken = flat_map spelled taken;
        ended = true;
        gave = (here, gave, λ all. (end, none));
        none = λ rest ends spells.
            let P : List ℕ → Type 0 = λ r. SpellsLabel (flat_map spelled taken ++ r) in
            let Q : List ℕ → Type 0 = λ t. SpellsLabel t in
            none_label taken (octets_owned label) taking is (subst Q (append-nil (flat_map spelled taken)) (subst P (ends refl) spells));
      }

-- the rest of the text begins with no symbol
pub no_text_left : (taken : List Symbol) (octets text rest : List ℕ) → Taking taken octets → text ≡ flat_map spelled taken ++ rest
    → (rest ≡ [] → ⊥) → ((symbol : Symbol) (behind : List ℕ) → IsSymbol symbol → rest ≡ spelled symbol ++ behind → ⊥)
    → SpellsLabel text → ⊥
no_text_left taken octets text rest taking is some none spells =
    let P : List ℕ → Type 0 = λ t. SpellsLabel t in
    by_case (no_symbol_none taken octets rest taking (subst P is spells))
  where
    by_case : GoesOnInSymbols rest → ⊥
    by_case (inl ended) = some ended
    by_case (inr begins) = none begins.symbol begins.rest begins.is_symbol begins.written

-- a symbol was split off
pub split_on : (taken : List Symbol) (symbol : Symbol) (text rest behind : List ℕ) → text ≡ flat_map spelled taken ++ rest
    → rest ≡ spelled symbol ++ behind → text ≡ flat_map spelled (taken ++ symbol ∷ []) ++ behind
split_on taken symbol text rest behind is split =
    is ∙ ap (λ r. flat_map spelled taken ++ r) split ∙ sym (append_assoc (flat_map spelled taken) (spelled symbol) behind)
    ∙ ap (λ t. t ++ behind) (sym (text_one taken symbol))

pub split_over : (taken : List Symbol) (octets text rest behind : List ℕ) (symbol : Symbol) → Taking taken octets
    → text ≡ flat_map spelled taken ++ rest → rest ≡ spelled symbol ++ behind → IsSymbol symbol
    → (is_dot symbol ≡ false → length octets ≡ 63) → SpellsLabel text → ⊥
split_over taken octets text rest behind symbol taking is split is_symbol over spells =
    let P : List ℕ → Type 0 = λ t. SpellsLabel t in
    over_label taken octets behind symbol taking is_symbol over
    (subst P (is ∙ ap (λ r. flat_map spelled taken ++ r) split) spells)

-- the text has been read
pub read_ok : (text : List ℕ) (taken : List Symbol) (label : OwnedLabel) (result : Result OwnedLabel LabelFromStrError)
    → Taking taken (octets_owned label) → text ≡ flat_map spelled taken
    → IfOk result (λ found. (octets_owned found ≡ octets_owned label) × (0 < length (octets_owned found)))
    → IfOk result (λ found. IsLabelText text (octets_owned found))
read_ok text taken label (Ok found) taking is made =
    let P : List ℕ → Type 0 = λ o. Taking taken o in
    let Q : List ℕ → Type 0 = λ t. IsLabelText t (octets_owned found) in
    subst Q (sym is) (spells_label taken (octets_owned found) (subst P (sym made.0) taking) made.1 (owned-short found))
read_ok text taken label (Err error) taking is made = tt

pub read_err : (text : List ℕ) (taken : List Symbol) (label : OwnedLabel) (result : Result OwnedLabel LabelFromStrError)
    → Taking taken (octets_owned label) → text ≡ flat_map spelled taken → OnErr result (octets_owned label ≡ [])
    → OnErr result (SpellsLabel text → ⊥)
read_err text taken label (Ok found) taking is none = tt
read_err text taken label (Err error) taking is none = λ spells.
    let P : List ℕ → Type 0 = λ t. SpellsLabel t in none_label taken (octets_owned label) taking none (subst P is spells)

-- whether octets are left
no_octets_by : (octets : List ℕ) → length octets ≡ 0 → octets ≡ []
no_octets_by [] none = refl
no_octets_by (octet ∷ octets) none = absurd (omega arith)

pub no_octets : (octets : List ℕ) → true ≡ (length octets == 0) → octets ≡ []
no_octets octets none =
    let is : (length octets == 0) ≡ true = sym none in
    let e : length octets ≡ 0 = search (rules, tests) in no_octets_by octets e

pub some_octets : (octets : List ℕ) → false ≡ (length octets == 0) → octets ≡ [] → ⊥
some_octets octets some none =
    let P : List ℕ → Type 0 = λ o. false ≡ (length o == 0) in
    let no : false ≡ true = subst P none some in cc

spelled-long : (symbol : Symbol) → 0 < length (spelled symbol)
spelled-long (Char c) = omega arith
spelled-long (SimpleEscape c) = omega arith
spelled-long (DecimalEscape n) = omega arith

-- what follows a symbol is shorter
pub spelled-shorter : (symbol : Symbol) (rest behind : List ℕ) → rest ≡ spelled symbol ++ behind → length behind < length rest
spelled-shorter symbol rest behind is =
    let some = spelled-long symbol in
    omega (arith, ap (length {A = ℕ}) is, length-append (spelled symbol) behind)

-- why a symbol was not taken
pub over_of : (symbol : Symbol) (octets : List ℕ) (error : LabelFromStrError) → IsOver symbol octets error → is_dot symbol ≡ false
    → length octets ≡ 63
over_of symbol octets BadSymbol over plain = absurd over
over_of symbol octets Dot over plain = let no : true ≡ false = sym over ∙ plain in cc
over_of symbol octets EmptyLabel over plain = absurd over
over_of symbol octets LongLabel over plain = over.1

dot_spelled : (symbol : Symbol) → is_dot symbol ≡ true → spelled symbol ≡ 46 ∷ []
dot_spelled (Char c) dot = let e : c ≡ 46 = search (rules, tests) in ap (λ n. n ∷ []) e
dot_spelled (SimpleEscape c) dot = let no : false ≡ true = dot in cc
dot_spelled (DecimalEscape n) dot = let no : false ≡ true = dot in cc

module _ {C : Type 0} (steps : C → Option ℕ → C → Type 0) (start here next : C) (taken : List Symbol) (octets : List ℕ)
    (taking : Taking taken octets) (gave : Yields steps start (flat_map spelled taken) here) where
  pub why_over : (symbol : Symbol) (error : LabelFromStrError) → IsSymbol symbol → IsOver symbol octets error
      → Yields steps here (spelled symbol) next → IsLabelFault steps start error
  why_over symbol BadSymbol is_symbol over more = absurd over
  why_over symbol Dot is_symbol over more =
      let P : List ℕ → Type 0 = λ t. Yields steps here t next in (
        taken,
        next,
        taking.each,
        yields_append steps (flat_map spelled taken) (46 ∷ []) start here next gave (subst P (dot_spelled symbol over) more),
      )
  why_over symbol EmptyLabel is_symbol over more = absurd over
  why_over symbol LongLabel is_symbol over more =
      let P : List ℕ → Type 0 = λ t. Yields steps start t next in
      let count : length (taken ++ symbol ∷ []) ≡ 64 =
      omega (arith, over.1, ap (length {A = ℕ}) taking.stand, length-map taken octet, length-append taken (symbol ∷ [])) in (
        taken ++ symbol ∷ [],
        next,
        each_more taken (symbol ∷ []) taking.each ((is_symbol, over.0), tt),
        subst P (sym (text_one taken symbol)) (yields_append steps (flat_map spelled taken) (spelled symbol) start here next gave more),
        count,
      )

-- no symbol was taken
none_of : (taken : List Symbol) → map octet taken ≡ [] → taken ≡ []
none_of [] none = refl
none_of (symbol ∷ taken) none = cc

pub why_empty : {C : Type 0} (steps : C → Option ℕ → C → Type 0) (start here next : C) (taken : List Symbol) (octets : List ℕ)
    (result : Result OwnedLabel LabelFromStrError) → Taking taken octets → Yields steps start (flat_map spelled taken) here
    → steps here None next → OnErr result (octets ≡ []) → IfErr result (λ error. error ≡ EmptyLabel)
    → IfErr result (IsLabelFault steps start)
why_empty steps start here next taken octets (Ok found) taking gave ended none why = tt
why_empty steps start here next taken octets (Err error) taking gave ended none why =
    let P : List Symbol → Type 0 = λ t. Yields steps start (flat_map spelled t) here in
    let Q : LabelFromStrError → Type 0 = λ e. IsLabelFault steps start e in
    subst Q (sym why) (next, (here, subst P (none_of taken (sym taking.stand ∙ none)) gave, ended))

-- the octets of a text, one by one
abbrev pub Octets : List ℕ → Option ℕ → List ℕ → Type 0
Octets = YieldsFirst (λ octets. octets)

yields_items : (items rest : List ℕ) → Yields Octets (items ++ rest) items rest
yields_items [] rest = refl
yields_items (item ∷ items) rest = (items ++ rest, refl, yields_items items rest)

pub octets_taken : (text items rest : List ℕ) → text ≡ items ++ rest → Yields Octets text items rest
octets_taken text items rest is = let P : List ℕ → Type 0 = λ t. Yields Octets t items rest in subst P (sym is) (yields_items items rest)

pub why_no_symbol : (text rest : List ℕ) (taken : List Symbol) (octets : List ℕ) → Taking taken octets → text ≡ flat_map spelled taken ++ rest
    → (rest ≡ [] → ⊥) → ((symbol : Symbol) (behind : List ℕ) → IsSymbol symbol → rest ≡ spelled symbol ++ behind → ⊥)
    → IsLabelFault Octets text BadSymbol
why_no_symbol text rest taken octets taking is some none = (
  taken,
  rest,
  taking.each,
  octets_taken text (flat_map spelled taken) rest is,
  record {
    taken = rest;
    ended = true;
    gave = ([], octets_taken rest rest [] (sym (append-nil rest)), λ all. ([], (refl, refl)));
    none = λ more ends goes.
        let P : List ℕ → Type 0 = λ m. GoesOnInSymbols (rest ++ m) in
        let Q : List ℕ → Type 0 = λ r. GoesOnInSymbols r in
        by_case (subst Q (append-nil rest) (subst P (ends refl) goes));
  },
)
  where
    by_case : GoesOnInSymbols rest → ⊥
    by_case (inl ended) = some ended
    by_case (inr begins) = none begins.symbol begins.rest begins.is_symbol begins.written

-- what is promised of either result
abbrev pub Tells : Result OwnedLabel LabelFromStrError → List ℕ → Type 0
Tells result text =
    MatchResult result (λ label. IsLabelText text (octets_owned label)) (λ error. (SpellsLabel text → ⊥) × IsLabelFault Octets text error)

pub told_of : (text : List ℕ) (result : Result OwnedLabel LabelFromStrError) → IfOk result (λ label. IsLabelText text (octets_owned label))
    → OnErr result (SpellsLabel text → ⊥) → IfErr result (IsLabelFault Octets text) → Tells result text
told_of text (Ok label) ok err why = ok
told_of text (Err error) ok err why = (err, why)
