-- What the symbols of characters say of the characters.
use Rattle.std.proofs.Common.{◌≡◌, ℕ, List, [], ◌∷◌, refl, sym, ◌∙◌, ap, subst}
use Rattle.std.specs.Prelude.{Option, Some, None, Result, Ok, Err}
use Rattle.std.specs.List.{AllByRecursion, flat_map}
use Rattle.std.specs.Iterator.{Yields, YieldsThen, Drains}
use Rattle.dns_label.specs.declared.symbol.Symbol.{Symbol}
use Rattle.dns_label.specs.declared.symbol.SymbolCharsError.{SymbolCharsError}
use Rattle.dns_label.specs.declared.symbols.Symbols.{Symbols}
use Rattle.dns_label.specs.Symbol.{IsSymbol, spelled}
use Rattle.dns_label.specs.Symbols.{chars_of, GivesSymbol}
use Rattle.dns_label.specs.ReadSymbol.{GoesOnInSymbols}
use Rattle.dns_label.specs.Taken.{RulesOut}
use Rattle.dns_label.proofs.Taken.{yields_append}

module _ {C : Type 0} (steps : C → Option ℕ → C → Type 0) where
  abbrev pub Giving : Symbols C → Option Symbol → Symbols C → Type 0
  Giving old found new = GivesSymbol steps (chars_of old) found (chars_of new)

  -- symbols were given, and the characters are now after their text
  pub record StandsBehind (start : C) (symbols : List Symbol) (end : Result C SymbolCharsError) : Type 0 where
    pub each : AllByRecursion IsSymbol symbols
    pub here : C
    pub is : end ≡ Ok here
    pub gave : Yields steps start (flat_map spelled symbols) here

  record Step (start : C) (symbol : Symbol) (new : Result C SymbolCharsError) : Type 0 where
    pub is_symbol : IsSymbol symbol
    pub here : C
    pub is : new ≡ Ok here
    pub gave : Yields steps start (spelled symbol) here

  one_step : (old new : Result C SymbolCharsError) (start : C) (symbol : Symbol) → old ≡ Ok start
      → GivesSymbol steps old (Some symbol) new → Step start symbol new
  one_step (Ok from) (Ok here) start symbol is gives =
      let e : from ≡ start = cc in
      let P : C → Type 0 = λ s. Yields steps s (spelled symbol) here in
      record { is_symbol = gives.0; here = here; is = refl; gave = subst P e gives.1 }
  one_step (Ok from) (Err error) start symbol is gives = absurd gives
  one_step (Err error) new start symbol is gives = absurd gives

  pub symbols_yield : (symbols : List Symbol) (old new : Symbols C) (start : C) → chars_of old ≡ Ok start
      → Yields Giving old symbols new → StandsBehind start symbols (chars_of new)
  symbols_yield [] old new start is gave =
      record { each = tt; here = start; is = sym (ap chars_of gave) ∙ is; gave = refl }
  symbols_yield (symbol ∷ symbols) old new start is gave =
      let step = one_step (chars_of old) (chars_of gave.0) start symbol is gave.1 in
      let more = symbols_yield symbols gave.0 new step.here step.is gave.2 in
      record {
        each = (step.is_symbol, more.each);
        here = more.here;
        is = more.is;
        gave = yields_append steps (spelled symbol) (flat_map spelled symbols) start step.here more.here step.gave more.gave;
      }

  -- these symbols are all, and no error is kept
  ends_well : (old new : Result C SymbolCharsError) (here end : C) → old ≡ Ok here → new ≡ Ok end
      → GivesSymbol steps old None new → steps here None end
  ends_well (Ok from) (Ok to) here end is are gives =
      let e : from ≡ here = cc in
      let f : to ≡ end = cc in
      let P : C → Type 0 = λ s. steps s None end in
      let Q : C → Type 0 = λ t. steps from None t in
      subst P e (subst Q f gives)
  ends_well (Ok from) (Err error) here end is are gives = let no : Err error ≡ Ok end = are in cc
  ends_well (Err error) new here end is are gives = let no : Err error ≡ Ok here = is in cc

  pub symbols_drain : (symbols : List Symbol) (old new : Symbols C) (start end : C) → chars_of old ≡ Ok start
      → chars_of new ≡ Ok end → YieldsThen Giving old symbols None new → Drains steps start (flat_map spelled symbols)
  symbols_drain symbols old new start end is are gave =
      let behind = symbols_yield symbols old gave.0 start is gave.1 in
      (end, (behind.here, behind.gave, ends_well (chars_of gave.0) (chars_of new) behind.here end behind.is are gave.2))

  -- an error is kept
  ends_badly : (old new : Result C SymbolCharsError) (here : C) (error : SymbolCharsError) → old ≡ Ok here → new ≡ Err error
      → GivesSymbol steps old None new → RulesOut steps here GoesOnInSymbols
  ends_badly (Ok from) (Ok to) here error is are gives = let no : Ok to ≡ Err error = are in cc
  ends_badly (Ok from) (Err why) here error is are gives =
      let e : from ≡ here = cc in
      let P : C → Type 0 = λ s. RulesOut steps s GoesOnInSymbols in subst P e gives.0
  ends_badly (Err why) new here error is are gives = let no : Err why ≡ Ok here = is in cc

  pub record StopsAt (start : C) (symbols : List Symbol) : Type 0 where
    pub each : AllByRecursion IsSymbol symbols
    pub here : C
    pub gave : Yields steps start (flat_map spelled symbols) here
    pub out : RulesOut steps here GoesOnInSymbols

  pub symbols_stop : (symbols : List Symbol) (old new : Symbols C) (start : C) (error : SymbolCharsError) → chars_of old ≡ Ok start
      → chars_of new ≡ Err error → YieldsThen Giving old symbols None new → StopsAt start symbols
  symbols_stop symbols old new start error is are gave =
      let behind = symbols_yield symbols old gave.0 start is gave.1 in
      record {
        each = behind.each;
        here = behind.here;
        gave = behind.gave;
        out = ends_badly (chars_of gave.0) (chars_of new) behind.here error behind.is are gave.2;
      }
