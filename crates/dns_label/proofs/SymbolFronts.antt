-- Characters that begin with no symbol.
use Rattle.std.proofs.Common.{◌≡◌, ℕ, true, false, ◌+◌, ◌*◌, ◌-◌, ◌/◌, ◌%◌, ◌<◌, ◌≤◌, List, [], ◌∷◌, ◌++◌, refl, inl, inr, arith}
use Rattle.dns_label.specs.declared.symbol.Symbol.{Symbol}
use Rattle.dns_label.specs.declared.symbol.Symbol.TheVariants.{Char, SimpleEscape, DecimalEscape}
use Rattle.dns_label.specs.Symbol.{IsSymbol, spelled}
use Rattle.std.specs.Prelude.{Option, Some, Result, Ok, Err, IsErr, OnErr}
use Rattle.dns_label.specs.declared.symbol.SymbolCharsError.{SymbolCharsError}
use Rattle.dns_label.specs.declared.symbol.SymbolCharsError.TheVariants.{BadChar, BadEscape, ShortInput}
use Rattle.dns_label.specs.ReadSymbol.{BeginsWithSymbol, BeginsWithDigit, GoesOnInSymbols, ReadsSymbol, IsDigitFault, IsEscapeFault}
use Rattle.dns_label.specs.Taken.{RulesOut}

pub no_digit : (c : ℕ) (rest : List ℕ) → (48 ≤ c → c ≤ 57 → ⊥) → BeginsWithDigit (c ∷ rest) → ⊥
no_digit c rest none begins =
    let e : c ≡ 48 + begins.value = let w = begins.written in cc in
    let few = begins.small in none (omega arith) (omega arith)

pub no_digits : BeginsWithDigit [] → ⊥
no_digits begins = let w = begins.written in cc

symbol_char : (symbol : Symbol) (c : ℕ) (rest behind : List ℕ) → (32 ≤ c → c ≤ 126 → ⊥) → IsSymbol symbol
    → c ∷ rest ≡ spelled symbol ++ behind → ⊥
symbol_char (Char d) c rest behind none is written =
    let e : c ≡ d = cc in let printable = is.0 in none (omega arith) (omega arith)
symbol_char (SimpleEscape d) c rest behind none is written = let e : c ≡ 92 = cc in none (omega arith) (omega arith)
symbol_char (DecimalEscape n) c rest behind none is written = let e : c ≡ 92 = cc in none (omega arith) (omega arith)

pub no_char : (c : ℕ) (rest : List ℕ) → (32 ≤ c → c ≤ 126 → ⊥) → BeginsWithSymbol (c ∷ rest) → ⊥
no_char c rest none begins = symbol_char begins.symbol c rest begins.rest none begins.is_symbol begins.written

symbol_bare : (symbol : Symbol) (behind : List ℕ) → IsSymbol symbol → 92 ∷ [] ≡ spelled symbol ++ behind → ⊥
symbol_bare (Char d) behind is written = let e : d ≡ 92 = cc in is.1 e
symbol_bare (SimpleEscape d) behind is written = cc
symbol_bare (DecimalEscape n) behind is written = cc

-- a backslash at the end
pub no_bare : BeginsWithSymbol (92 ∷ []) → ⊥
no_bare begins = symbol_bare begins.symbol begins.rest begins.is_symbol begins.written

symbol_escape : (symbol : Symbol) (c : ℕ) (rest behind : List ℕ) → (32 ≤ c → c ≤ 126 → ⊥) → IsSymbol symbol
    → 92 ∷ c ∷ rest ≡ spelled symbol ++ behind → ⊥
symbol_escape (Char d) c rest behind none is written = let e : d ≡ 92 = cc in is.1 e
symbol_escape (SimpleEscape d) c rest behind none is written =
    let e : c ≡ d = cc in let printable = is.0 in none (omega arith) (omega arith)
symbol_escape (DecimalEscape n) c rest behind none is written =
    let e : c ≡ 48 + n / 100 = cc in none (omega arith) (omega arith)

pub no_escape : (c : ℕ) (rest : List ℕ) → (32 ≤ c → c ≤ 126 → ⊥) → BeginsWithSymbol (92 ∷ c ∷ rest) → ⊥
no_escape c rest none begins = symbol_escape begins.symbol c rest begins.rest none begins.is_symbol begins.written

-- the three digits after a backslash before a digit
record Decimal (c : ℕ) (rest : List ℕ) : Type 0 where
  pub n : ℕ
  pub behind : List ℕ
  pub small : n < 256
  pub first : c ≡ 48 + n / 100
  pub written : rest ≡ (48 + n / 10 % 10) ∷ (48 + n % 10) ∷ behind

symbol_decimal : (symbol : Symbol) (c : ℕ) (rest behind : List ℕ) → 48 ≤ c → c ≤ 57 → IsSymbol symbol
    → 92 ∷ c ∷ rest ≡ spelled symbol ++ behind → Decimal c rest
symbol_decimal (Char d) c rest behind least most is written = let e : d ≡ 92 = cc in absurd (is.1 e)
symbol_decimal (SimpleEscape d) c rest behind least most is written =
    let e : c ≡ d = cc in let no = is.1 in absurd (omega arith)
symbol_decimal (DecimalEscape n) c rest behind least most is written =
    let e : c ≡ 48 + n / 100 = cc in
    let f : rest ≡ (48 + n / 10 % 10) ∷ (48 + n % 10) ∷ behind = cc in
    record { n = n; behind = behind; small = is; first = e; written = f }

decimal : (c : ℕ) (rest : List ℕ) → 48 ≤ c → c ≤ 57 → BeginsWithSymbol (92 ∷ c ∷ rest) → Decimal c rest
decimal c rest least most begins = symbol_decimal begins.symbol c rest begins.rest least most begins.is_symbol begins.written

pub tens_behind : (c : ℕ) (rest : List ℕ) → 48 ≤ c → c ≤ 57 → BeginsWithSymbol (92 ∷ c ∷ rest) → BeginsWithDigit rest
tens_behind c rest least most begins =
    let d = decimal c rest least most begins in
    record { value = d.n / 10 % 10; rest = (48 + d.n % 10) ∷ d.behind; small = omega arith; written = d.written }

pub ones_behind : (c tens : ℕ) (rest : List ℕ) → 48 ≤ c → c ≤ 57 → BeginsWithSymbol (92 ∷ c ∷ tens ∷ rest) → BeginsWithDigit rest
ones_behind c tens rest least most begins =
    let d = decimal c (tens ∷ rest) least most begins in
    let w = d.written in
    let f : rest ≡ (48 + d.n % 10) ∷ d.behind = cc in
    record { value = d.n % 10; rest = d.behind; small = omega arith; written = f }

-- a number past 255
pub no_number : (c tens ones : ℕ) (rest : List ℕ) → 48 ≤ c → c ≤ 57 → tens < 10 → ones < 10
    → 256 ≤ 100 * (c - 48) + 10 * tens + ones → BeginsWithSymbol (92 ∷ c ∷ (48 + tens) ∷ (48 + ones) ∷ rest) → ⊥
no_number c tens ones rest least most few_tens few_ones over begins =
    let d = decimal c ((48 + tens) ∷ (48 + ones) ∷ rest) least most begins in
    let w = d.written in
    let t : 48 + tens ≡ 48 + d.n / 10 % 10 = cc in
    let o : 48 + ones ≡ 48 + d.n % 10 = cc in
    let s = d.small in
    let f = d.first in
    omega arith

-- the digits of a number that fits
pub digits_of : (c tens ones n : ℕ) → 48 ≤ c → c ≤ 57 → tens < 10 → ones < 10 → n ≡ 100 * (c - 48) + 10 * tens + ones
    → (c ≡ 48 + n / 100) × (tens ≡ n / 10 % 10) × (ones ≡ n % 10)
digits_of c tens ones n least most few_tens few_ones is = (omega arith, omega arith, omega arith)

pub reads_err : {S : Type 0} (steps : S → Option ℕ → S → Type 0) (start end : S) (result : Result (Option Symbol) SymbolCharsError)
    → IsErr result → RulesOut steps start GoesOnInSymbols → ReadsSymbol steps start result end
reads_err steps start end (Ok found) is out = let no : false ≡ true = is in cc
reads_err steps start end (Err error) is out = out

-- a fact that holds in any case holds on an error
pub fact_on_err : {T E : Type 0} {P : Type 0} (result : Result T E) → P → OnErr result P
fact_on_err (Ok value) holds = tt
fact_on_err (Err error) holds = holds

-- if there is a character, the text is not at its end
pub goes_on : (c : ℕ) (rest : List ℕ) → GoesOnInSymbols (c ∷ rest) → BeginsWithSymbol (c ∷ rest)
goes_on c rest (inl none) = cc
goes_on c rest (inr begins) = begins

-- no digit follows a backslash and a digit
pub fault_behind_digit : {S : Type 0} (steps : S → Option ℕ → S → Type 0) (start here : S) (first : ℕ) (error : SymbolCharsError)
    → steps start (Some first) here → 48 ≤ first → first ≤ 57 → IsDigitFault steps here error → IsEscapeFault steps start error
fault_behind_digit steps start here first BadChar step least most fault = fault
fault_behind_digit steps start here first BadEscape step least most fault = (
  first ∷ fault.0 ∷ [],
  fault.1,
  (here, step, (fault.1, fault.2, refl)),
  λ rest begins. no_digit fault.0 rest (λ low high. fault.3 (low, high)) (tens_behind first (fault.0 ∷ rest) least most begins),
)
fault_behind_digit steps start here first ShortInput step least most fault =
    (first ∷ [], ((least, most), tt), omega arith, (fault.0, (fault.1.0, (here, step, fault.1.1), fault.1.2)))

-- no digit follows a backslash and two digits
pub fault_behind_two : {S : Type 0} (steps : S → Option ℕ → S → Type 0) (start here there : S) (first tens : ℕ) (error : SymbolCharsError)
    → steps start (Some first) here → steps here (Some (48 + tens)) there → 48 ≤ first → first ≤ 57 → tens < 10
    → IsDigitFault steps there error → IsEscapeFault steps start error
fault_behind_two steps start here there first tens BadChar step next least most few fault = fault
fault_behind_two steps start here there first tens BadEscape step next least most few fault = (
  first ∷ (48 + tens) ∷ fault.0 ∷ [],
  fault.1,
  (here, step, (there, next, (fault.1, fault.2, refl))),
  λ rest begins. no_digit fault.0 rest (λ low high. fault.3 (low, high)) (ones_behind first (48 + tens) (fault.0 ∷ rest) least most begins),
)
fault_behind_two steps start here there first tens ShortInput step next least most few fault = (
  first ∷ (48 + tens) ∷ [],
  ((least, most), ((omega arith, omega arith), tt)),
  omega arith,
  (fault.0, (fault.1.0, (here, step, (there, next, fault.1.1)), fault.1.2)),
)
