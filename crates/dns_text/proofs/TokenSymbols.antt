-- Symbols are a prefix code: no symbol's spelling is a prefix of another's. So a text starts with one longest run of a
-- token's symbols, and the octet that it begins with is known.
use Rattle.std.proofs.Common.{◌≡◌, ℕ, ◌+◌, ◌/◌, ◌%◌, ◌<◌, ◌≤◌, List, [], ◌∷◌, ◌++◌, Bool, true, false, ◌==◌, refl, sym, ◌∙◌, ap, subst, arith, append_assoc, inl, inr}
use Rattle.std.proofs.lemmas.Bool.Decides.{nat_tests}
use Rattle.std.specs.List.{AllByRecursion, flat_map}
use Rattle.dns_label.specs.declared.symbol.Symbol.{Symbol}
use Rattle.dns_label.specs.declared.symbol.Symbol.TheVariants.{Char, SimpleEscape, DecimalEscape}
use Rattle.dns_label.specs.Symbol.{IsSymbol, spelled}
use Rattle.dns_text.specs.Tokens.{IsIn, EndsToken, stands_plain, head_of, is_gap}
use Rattle.dns_text.specs.Tokens.Head.{Word}

-- three digits spell one number
one_number : (m n : ℕ) → m < 256 → n < 256 → 48 + m / 100 ≡ 48 + n / 100 → 48 + m / 10 % 10 ≡ 48 + n / 10 % 10
    → 48 + m % 10 ≡ 48 + n % 10 → m ≡ n
one_number m n small small' hundreds tens ones = omega arith

-- a digit is no other printable character
no_digit : (c n : ℕ) → IsSymbol (SimpleEscape c) → n < 256 → c ≡ 48 + n / 100 → ⊥
no_digit c n (print, inl low) small is = absurd (omega arith)
no_digit c n (print, inr high) small is = absurd (omega arith)

-- a text starts with one symbol
pub one_symbol : (a b : Symbol) (x y : List ℕ) → IsSymbol a → IsSymbol b → spelled a ++ x ≡ spelled b ++ y → (a ≡ b) × (x ≡ y)
one_symbol (Char c) (Char d) x y is is' same = (cc, cc)
one_symbol (Char c) (SimpleEscape d) x y is is' same = absurd (is.1 (cc))
one_symbol (Char c) (DecimalEscape n) x y is is' same = absurd (is.1 (cc))
one_symbol (SimpleEscape c) (Char d) x y is is' same = let e : d ≡ 92 = cc in absurd (is'.1 e)
one_symbol (SimpleEscape c) (SimpleEscape d) x y is is' same = (cc, cc)
one_symbol (SimpleEscape c) (DecimalEscape n) x y is is' same = let e : c ≡ 48 + n / 100 = cc in absurd (no_digit c n is is' e)
one_symbol (DecimalEscape m) (Char d) x y is is' same = let e : d ≡ 92 = cc in absurd (is'.1 e)
one_symbol (DecimalEscape m) (SimpleEscape d) x y is is' same =
    let e : d ≡ 48 + m / 100 = cc in absurd (no_digit d m is' is e)
one_symbol (DecimalEscape m) (DecimalEscape n) x y is is' same =
    let e : m ≡ n = one_number m n is is' (cc) (cc) (cc) in (ap DecimalEscape e, cc)

backslash_stands : (quoted : Bool) → stands_plain quoted 92 ≡ true
backslash_stands true = refl
backslash_stands false = refl

-- the octet that a symbol of a token begins with
pub symbol_first : (quoted : Bool) (symbol : Symbol) (octet : ℕ) (text rest : List ℕ) → IsIn quoted symbol
    → octet ∷ text ≡ spelled symbol ++ rest → (32 ≤ octet) × (stands_plain quoted octet ≡ true)
symbol_first quoted (Char c) octet text rest is at =
    let e : c ≡ octet = cc in
    (subst (λ (n : ℕ). 32 ≤ n) e is.0.0.0, subst (λ (n : ℕ). stands_plain quoted n ≡ true) e is.1)
symbol_first quoted (SimpleEscape c) octet text rest is at =
    let e : 92 ≡ octet = cc in (omega arith, subst (λ (n : ℕ). stands_plain quoted n ≡ true) e (backslash_stands quoted))
symbol_first quoted (DecimalEscape n) octet text rest is at =
    let e : 92 ≡ octet = cc in (omega arith, subst (λ (n : ℕ). stands_plain quoted n ≡ true) e (backslash_stands quoted))

-- the end of a token's text
pub ends_nil : (quoted : Bool) → EndsToken quoted []
ends_nil quoted (Char c) rest is at = cc
ends_nil quoted (SimpleEscape c) rest is at = cc
ends_nil quoted (DecimalEscape n) rest is at = cc

pub ends_plain : (quoted : Bool) (octet : ℕ) (text : List ℕ) → stands_plain quoted octet ≡ false → EndsToken quoted (octet ∷ text)
ends_plain quoted octet text plain symbol rest is at =
    let first = symbol_first quoted symbol octet text rest is at in let bad : false ≡ true = sym plain ∙ first.1 in cc

pub ends_low : (quoted : Bool) (octet : ℕ) (text : List ℕ) → octet < 32 → EndsToken quoted (octet ∷ text)
ends_low quoted octet text low symbol rest is at = absurd (omega (arith, (symbol_first quoted symbol octet text rest is at).0))

pub differs : (a b : ℕ) → (a ≡ b → ⊥) → (a == b) ≡ false
differs a b apart = grind (arith, nat_tests)

pub plain_differs : (octet other : ℕ) → stands_plain false octet ≡ true → stands_plain false other ≡ false → octet ≡ other → ⊥
plain_differs octet other stands refused same =
    let bad : true ≡ false = sym stands ∙ ap (stands_plain false) same ∙ refused in cc

pub word_no_gap : (octet : ℕ) → 32 ≤ octet → stands_plain false octet ≡ true → is_gap octet ≡ false
word_no_gap octet print stands =
    let space = differs octet 32 (plain_differs octet 32 stands refl) in
    let tab = differs octet 9 (λ e. omega arith) in
    let carriage = differs octet 13 (λ e. omega arith) in
    rw (space, tab, carriage) refl

-- the octet that a word begins with means nothing else between tokens
pub word_head : (inside : Bool) (octet : ℕ) → 32 ≤ octet → stands_plain false octet ≡ true → head_of inside octet ≡ Word
word_head inside octet print stands =
    let gap = differs octet 32 (plain_differs octet 32 stands refl) in
    let tab = differs octet 9 (λ e. omega arith) in
    let carriage = differs octet 13 (λ e. omega arith) in
    let feed = differs octet 10 (λ e. omega arith) in
    let open' = differs octet 40 (plain_differs octet 40 stands refl) in
    let close = differs octet 41 (plain_differs octet 41 stands refl) in
    let comment = differs octet 59 (plain_differs octet 59 stands refl) in
    let quote = differs octet 34 (plain_differs octet 34 stands refl) in
    rw (gap, tab, carriage, feed, open', close, comment, quote) refl

-- a text starts with one longest run of a token's symbols
pub one_run : (quoted : Bool) (xs ys : List Symbol) (x y : List ℕ) → AllByRecursion (IsIn quoted) xs → AllByRecursion (IsIn quoted) ys
    → EndsToken quoted x → EndsToken quoted y → flat_map spelled xs ++ x ≡ flat_map spelled ys ++ y → (xs ≡ ys) × (x ≡ y)
one_run quoted [] [] x y each each' ends ends' same = (refl, same)
one_run quoted [] (b ∷ ys) x y each each' ends ends' same =
    absurd (ends b (flat_map spelled ys ++ y) each'.0 (same ∙ append_assoc (spelled b) (flat_map spelled ys) y))
one_run quoted (a ∷ xs) [] x y each each' ends ends' same =
    absurd (ends' a (flat_map spelled xs ++ x) each.0 (sym same ∙ append_assoc (spelled a) (flat_map spelled xs) x))
one_run quoted (a ∷ xs) (b ∷ ys) x y each each' ends ends' same =
    let front = one_symbol a b (flat_map spelled xs ++ x) (flat_map spelled ys ++ y) each.0.0 each'.0.0
    (sym (append_assoc (spelled a) (flat_map spelled xs) x) ∙ same ∙ append_assoc (spelled b) (flat_map spelled ys) y) in
    let behind = one_run quoted xs ys x y each.1 each'.1 ends ends' front.1 in
    let first = front.0 in let others = behind.0 in (cc, behind.1)
