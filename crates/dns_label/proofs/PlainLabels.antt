-- Labels whose octets are printed as themselves.
use Rattle.std.proofs.Common.{◌≡◌, ℕ, ◌+◌, ◌<◌, ◌≤◌, Bool, true, false, cond, zero, suc, List, [], ◌∷◌, ◌++◌, length, refl, sym, ap, subst, ◌∙◌, arith, append-nil}
use Rattle.std.proofs.lemmas.Bool.Decides.{nat_tests}
use Rattle.std.specs.Prelude.{◌==◌, ◌||◌, IsAscii, nat_lt, not}
use Rattle.std.specs.List.{AllByRecursion, prefix_len}
use Rattle.dns_label.specs.declared.symbol.Symbol.TheVariants.{Char}
use Rattle.dns_label.specs.Printed.{is_printed_as_itself, printed_label, printed_symbol}
use Rattle.dns_label.specs.Symbol.{spelled}

-- each octet is printed as itself
abbrev pub ArePlain : List ℕ → Type 0
ArePlain octets = AllByRecursion (λ octet. is_printed_as_itself octet ≡ true) octets

printed_symbol-plain : (octet : ℕ) → is_printed_as_itself octet ≡ true → printed_symbol octet ≡ Char octet
printed_symbol-plain octet is = grind (arith, nat_tests)

plain_below : (octet : ℕ) → is_printed_as_itself octet ≡ true → octet < 128
plain_below octet is = grind (arith, nat_tests)

-- the octets that are none, by the marks of their lanes
pub plain_not : (octet : ℕ)
    → not (not (((((nat_lt octet 33 || nat_lt 126 octet) || ((octet == 40) || (octet == 41))) || ((octet == 34) || (octet == 36))) || ((octet == 46) || (octet == 59))) || (octet == 92)))
    ≡ not (is_printed_as_itself octet)
plain_not octet = grind (arith, nat_tests)

-- the octets that few comparisons tell are plain
pub usual_plain : (octet : ℕ)
    → not (not (((nat_lt octet 42 || nat_lt 126 octet) || ((octet == 46) || (octet == 59))) || (octet == 92))) ≡ false
    → not (is_printed_as_itself octet) ≡ false
usual_plain octet is = grind (arith, nat_tests)

first_plain : (octet : ℕ) (octets rest : List ℕ) (test : Bool) → is_printed_as_itself octet ≡ test
    → suc (length octets) ≤ cond test (1 + prefix_len is_printed_as_itself (octets ++ rest)) 0
    → (is_printed_as_itself octet ≡ true) × (length octets ≤ prefix_len is_printed_as_itself (octets ++ rest))
first_plain octet octets rest true is all = (is, omega arith)
first_plain octet octets rest false is all = absurd (omega arith)

-- a front within a run of them
pub front_plain : (octets rest : List ℕ) → length octets ≤ prefix_len is_printed_as_itself (octets ++ rest) → ArePlain octets
front_plain [] rest all = tt
front_plain (octet ∷ octets) rest all =
    let first = first_plain octet octets rest (is_printed_as_itself octet) refl all in
    (first.0, front_plain octets rest first.1)

-- a run of them to the end
pub run_plain : (octets : List ℕ) → length octets ≤ prefix_len is_printed_as_itself octets → ArePlain octets
run_plain octets all =
    let P : List ℕ → Type 0 = λ l. length octets ≤ prefix_len is_printed_as_itself l in
    front_plain octets [] (subst P (sym (append-nil octets)) all)

pub printed_label-plain : (octets : List ℕ) → ArePlain octets → printed_label octets ≡ octets
printed_label-plain [] each = refl
printed_label-plain (octet ∷ octets) each =
    ap (λ symbol. spelled symbol ++ printed_label octets) (printed_symbol-plain octet each.0)
    ∙ ap (λ l. octet ∷ l) (printed_label-plain octets each.1)

pub IsAscii-plain : (octets : List ℕ) → ArePlain octets → IsAscii octets
IsAscii-plain [] each i = omega arith
IsAscii-plain (octet ∷ octets) each zero = plain_below octet each.0
IsAscii-plain (octet ∷ octets) each (suc i) = IsAscii-plain octets each.1 i
