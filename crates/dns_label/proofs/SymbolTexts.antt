-- Texts of symbols: which symbols a text begins with.
use Rattle.std.proofs.Common.{◌≡◌, ℕ, ◌+◌, ◌/◌, ◌%◌, List, [], ◌∷◌, ◌++◌, refl, sym, ◌∙◌, ap, arith, append_assoc, inl, inr}
use Rattle.std.specs.List.{AllByRecursion, flat_map}
use Rattle.dns_label.specs.declared.symbol.Symbol.{Symbol}
use Rattle.dns_label.specs.declared.symbol.Symbol.TheVariants.{Char, SimpleEscape, DecimalEscape}
use Rattle.dns_label.specs.Symbol.{IsSymbol, spelled}
use Rattle.dns_label.specs.ReadSymbol.{GoesOnInSymbols}

three_one : (n m : ℕ) → n / 100 ≡ m / 100 → n / 10 % 10 ≡ m / 10 % 10 → n % 10 ≡ m % 10 → n ≡ m
three_one n m hundreds tens ones = omega arith

-- a text begins with one symbol at most
pub symbol_one : (symbol other : Symbol) (rest behind : List ℕ) → IsSymbol symbol → IsSymbol other
    → spelled symbol ++ rest ≡ spelled other ++ behind → (symbol ≡ other) × (rest ≡ behind)
symbol_one (Char c) (Char d) rest behind is are same =
    let e : c ≡ d = cc in let f : rest ≡ behind = cc in (ap Char e, f)
symbol_one (Char c) (SimpleEscape d) rest behind is are same = let e : c ≡ 92 = cc in absurd (is.1 e)
symbol_one (Char c) (DecimalEscape d) rest behind is are same = let e : c ≡ 92 = cc in absurd (is.1 e)
symbol_one (SimpleEscape c) (Char d) rest behind is are same = let e : d ≡ 92 = cc in absurd (are.1 e)
symbol_one (SimpleEscape c) (SimpleEscape d) rest behind is are same =
    let e : c ≡ d = cc in let f : rest ≡ behind = cc in (ap SimpleEscape e, f)
symbol_one (SimpleEscape c) (DecimalEscape d) rest behind is are same =
    let e : c ≡ 48 + d / 100 = cc in
    let no = is.1 in absurd (omega arith)
symbol_one (DecimalEscape c) (Char d) rest behind is are same = let e : d ≡ 92 = cc in absurd (are.1 e)
symbol_one (DecimalEscape c) (SimpleEscape d) rest behind is are same =
    let e : d ≡ 48 + c / 100 = cc in
    let no = are.1 in absurd (omega arith)
symbol_one (DecimalEscape c) (DecimalEscape d) rest behind is are same =
    let h : 48 + c / 100 ≡ 48 + d / 100 = cc in
    let t : 48 + c / 10 % 10 ≡ 48 + d / 10 % 10 = cc in
    let o : 48 + c % 10 ≡ 48 + d % 10 = cc in
    let f : rest ≡ behind = cc in
    (ap DecimalEscape (three_one c d (omega arith) (omega arith) (omega arith)), f)

pub spelled_some : (symbol : Symbol) (rest : List ℕ) → spelled symbol ++ rest ≡ [] → ⊥
spelled_some (Char c) rest none = cc
spelled_some (SimpleEscape c) rest none = cc
spelled_some (DecimalEscape n) rest none = cc

pub each_append : (front back : List Symbol) → AllByRecursion IsSymbol front → AllByRecursion IsSymbol back → AllByRecursion IsSymbol (front ++ back)
each_append [] back each all = all
each_append (symbol ∷ front) back each all = (each.0, each_append front back each.1 all)

-- a text that begins with the text of some symbols has these as its first symbols
pub record Split (taken symbols : List Symbol) (rest : List ℕ) : Type 0 where
  pub more : List Symbol
  pub is : symbols ≡ taken ++ more
  pub each : AllByRecursion IsSymbol more
  pub written : rest ≡ flat_map spelled more

pub split_symbols : (taken symbols : List Symbol) (rest : List ℕ) → AllByRecursion IsSymbol taken → AllByRecursion IsSymbol symbols
    → flat_map spelled taken ++ rest ≡ flat_map spelled symbols → Split taken symbols rest
split_symbols [] symbols rest each all is = record { more = symbols; is = refl; each = all; written = is }
split_symbols (symbol ∷ taken) [] rest each all is =
    absurd (spelled_some symbol (flat_map spelled taken ++ rest) (sym (append_assoc (spelled symbol) (flat_map spelled taken) rest) ∙ is))
split_symbols (symbol ∷ taken) (other ∷ symbols) rest each all is =
    let one = symbol_one symbol other (flat_map spelled taken ++ rest) (flat_map spelled symbols) each.0 all.0
    (sym (append_assoc (spelled symbol) (flat_map spelled taken) rest) ∙ is) in
    let split = split_symbols taken symbols rest each.1 all.1 one.1 in
    record {
      more = split.more;
      is = ap (λ s. s ∷ symbols) (sym one.0) ∙ ap (λ l. symbol ∷ l) split.is;
      each = split.each;
      written = split.written;
    }

pub no_more : (more : List Symbol) → [] ≡ flat_map spelled more → more ≡ []
no_more [] written = refl
no_more (symbol ∷ more) written = absurd (spelled_some symbol (flat_map spelled more) (sym written))

-- symbols, and what follows them
pub goes_on_in : (rest : List ℕ) (more : List Symbol) → AllByRecursion IsSymbol more → rest ≡ flat_map spelled more → GoesOnInSymbols rest
goes_on_in rest [] each written = inl written
goes_on_in rest (symbol ∷ more) each written =
    inr (record { symbol = symbol; rest = flat_map spelled more; is_symbol = each.0; written = written })
