-- What characters spell, by their symbols.
use Rattle.std.proofs.Common.{◌≡◌, ℕ, ◌≤◌, Bool, true, false, List, [], ◌∷◌, ◌++◌, refl, sym, ◌∙◌, ap, subst, inl, inr, arith, append_assoc}
use Rattle.std.specs.Prelude.{Option, None, Result, Ok, Err, MatchResult}
use Rattle.std.specs.List.{AllByRecursion, flat_map}
use Rattle.std.specs.Iterator.{Yields, YieldsThen}
use Rattle.dns_label.specs.declared.symbol.Symbol.{Symbol}
use Rattle.dns_label.specs.declared.symbol.Symbol.TheVariants.{Char}
use Rattle.dns_label.specs.declared.symbol.SymbolCharsError.{SymbolCharsError}
use Rattle.dns_label.specs.declared.symbols.Symbols.{Symbols}
use Rattle.dns_label.specs.Symbol.{IsSymbol, spelled}
use Rattle.dns_label.specs.Symbols.{chars_of}
use Rattle.dns_label.specs.Taken.{RulesOut}
use Rattle.dns_label.specs.NameText.{IsNameText}
use Rattle.dns_label.specs.NameText.IsAbsoluteText.{root, labels}
use Rattle.dns_label.specs.NameText.IsNameText.{absolute, relative}
use Rattle.dns_label.proofs.SymbolTexts.{goes_on_in}
use Rattle.dns_label.proofs.Taken.{rules_behind, rules_weaker}
use Rattle.dns_label.proofs.SymbolRuns.{Giving, symbols_yield, symbols_drain, symbols_stop, StopsAt}
use Rattle.dns_wire.specs.Draft.{IsReadable, AreReadable}
use Rattle.dns_wire.proofs.Parts.{split_symbols, each_append, no_more, spelled_some}

-- a name's text consists of symbols
record OfSymbols (text : List ℕ) : Type 0 where
  pub symbols : List Symbol
  pub each : AllByRecursion IsSymbol symbols
  pub written : text ≡ flat_map spelled symbols

of_symbols : (text : List ℕ) (name : List (List ℕ)) → IsNameText text name → OfSymbols text
of_symbols text name (absolute (root is)) =
    let plain : (32 ≤ 46) × (46 ≤ 126) = (omega arith, omega arith) in
    record { symbols = Char 46 ∷ []; each = ((plain, λ (e : 46 ≡ 92). omega arith), tt); written = is }
of_symbols text name (absolute (labels some has is_name)) = record { symbols = has.symbols; each = has.each; written = has.written }
of_symbols text name (relative is is_name) =
    record { symbols = is.parts.symbols; each = is.parts.each; written = is.parts.written }

-- a readable text that begins with the text of symbols goes on with symbols
pub record More (taken : List Symbol) (rest : List ℕ) : Type 0 where
  pub more : List Symbol
  pub each : AllByRecursion IsSymbol more
  pub written : rest ≡ flat_map spelled more
  pub readable : AreReadable (taken ++ more)

pub more_of : (taken : List Symbol) (rest : List ℕ) → AllByRecursion IsSymbol taken → IsReadable (flat_map spelled taken ++ rest) → More taken rest
more_of [] rest each (inl none) = record { more = []; each = tt; written = none; readable = inl refl }
more_of (symbol ∷ taken) rest each (inl none) =
    absurd (spelled_some symbol (flat_map spelled taken ++ rest) (sym (append_assoc (spelled symbol) (flat_map spelled taken) rest) ∙ none))
more_of taken rest each (inr (name, is)) =
    let of = of_symbols (flat_map spelled taken ++ rest) name is in
    let split = split_symbols taken of.symbols rest each of.each of.written in
    let P : List ℕ → Type 0 = λ t. IsNameText t name in
    record {
      more = split.more;
      each = split.each;
      written = split.written;
      readable = inr (
        name,
        record {
          each = each_append taken split.more each split.each;
          text = subst P (of.written ∙ ap (flat_map spelled) split.is) is;
        },
      );
    }

module _ {C : Type 0} (steps : C → Option ℕ → C → Type 0) where
  -- the characters stop if no symbol begins
  pub chars_stop : (start : C) (symbols : List Symbol) → StopsAt steps start symbols → RulesOut steps start IsReadable
  chars_stop start symbols stops =
      rules_behind {P = IsReadable} start stops.here (flat_map spelled symbols) stops.gave
      (rules_weaker {P = λ (rest : List ℕ). IsReadable (flat_map spelled symbols ++ rest)} stops.here
      (λ rest is. let m = more_of symbols rest stops.each is in goes_on_in rest m.more m.each m.written) stops.out)

  -- the symbols of the characters spell no name
  chars_open : (old here : Symbols C) (start : C) (taken : List Symbol) → chars_of old ≡ Ok start → Yields (Giving steps) old taken here
      → ((rest : List Symbol) → AreReadable (taken ++ rest) → ⊥) → RulesOut steps start IsReadable
  chars_open old here start taken is gave none =
      let behind = symbols_yield steps taken old here start is gave in
      record {
        taken = flat_map spelled taken;
        ended = false;
        gave = (behind.here, behind.gave, λ never. let no : false ≡ true = never in cc);
        none = λ rest ends is. let m = more_of taken rest behind.each is in none m.more m.readable;
      }

  chars_ended : (old new : Symbols C) (start : C) (taken : List Symbol) (left : Result C SymbolCharsError) → chars_of new ≡ left
      → chars_of old ≡ Ok start → YieldsThen (Giving steps) old taken None new
      → (AreReadable (taken ++ []) → ⊥) → RulesOut steps start IsReadable
  chars_ended old new start taken (Err error) are is gave none =
      chars_stop start taken (symbols_stop steps taken old new start error is are gave)
  chars_ended old new start taken (Ok end) are is gave none =
      let drained = symbols_drain steps taken old new start end is are gave in
      let behind = symbols_yield steps taken old gave.0 start is gave.1 in
      record {
        taken = flat_map spelled taken;
        ended = true;
        gave = (drained.1.0, drained.1.1, λ all. (drained.0, drained.1.2));
        none = λ rest ends is.
            let m = more_of taken rest behind.each is in
            let P : List Symbol → Type 0 = λ s. AreReadable (taken ++ s) in
            none (subst P (no_more m.more (sym (ends refl) ∙ m.written)) m.readable);
      }

  pub chars_none : (old : Symbols C) (start : C) → chars_of old ≡ Ok start
      → RulesOut (Giving steps) old AreReadable → RulesOut steps start IsReadable
  chars_none old start is out = by_end out.ended out.gave out.none
    where
      by_end : (ended : Bool) → (here : Symbols C) × Yields (Giving steps) old out.taken here × (ended ≡ true → (new : Symbols C) × Giving steps here None new)
          → ((rest : List Symbol) → (ended ≡ true → rest ≡ []) → AreReadable (out.taken ++ rest) → ⊥)
          → RulesOut steps start IsReadable
      by_end false gave none =
          chars_open old gave.0 start out.taken is gave.1
          (λ rest. none rest (λ never. let no : false ≡ true = never in cc))
      by_end true gave none =
          let end = gave.2 refl in
          chars_ended old end.0 start out.taken (chars_of end.0) refl is (gave.0, gave.1, end.1)
          (none [] (λ all. refl))

  -- whether the symbols ended well
  pub ended_well : (left : Result C SymbolCharsError) (result : Result (Unit {0}) SymbolCharsError)
      → MatchResult left (λ chars. result ≡ Ok tt) (λ error. result ≡ Err error) → result ≡ Ok tt → (end : C) × (left ≡ Ok end)
  ended_well (Ok end) result told is = (end, refl)
  ended_well (Err error) result told is = let no : Err error ≡ Ok tt = sym told ∙ is in cc

  pub ended_badly : (left : Result C SymbolCharsError) (result : Result (Unit {0}) SymbolCharsError) (error : SymbolCharsError)
      → MatchResult left (λ chars. result ≡ Ok tt) (λ error. result ≡ Err error) → result ≡ Err error → left ≡ Err error
  ended_badly (Ok end) result error told is = let no : Ok tt ≡ Err error = sym told ∙ is in cc
  ended_badly (Err why) result error told is = let e : Err why ≡ Err error = sym told ∙ is in cc
