-- Looking a fault up among the rows of its texts.
use Rattle.std.proofs.Common.{Option, ◌≡◌, ◌<◌, ℕ, false, List, length, Some, None, arith, refl, drop, ◌+◌, ◌≤◌, get_or, drop-cons, add-one, ◌==◌}
use Rattle.std.specs.Borrow.{Bor}
use Rattle.std.proofs.lemmas.List.{drop_all}
use Rattle.std.proofs.lemmas.Bool.Decides.{nat_tests, Decides-eqb}
use Rattle.zonewire_c.specs.FaultText.{parts_in, rows_of, seen}

-- a row as the code has it
abbrev Coded : Type 0
Coded = ℕ × (Bor (List ℕ) × Option (Bor (List ℕ)))

-- a look-up stops at the fault's own row, and goes on after the row of another
pub parts_in-hit : (table : List Coded) (fault i : ℕ) (d : Coded) → i < length table
    → (get_or table i d).0 ≡ fault → parts_in (rows_of (drop i table)) fault ≡ Some (seen (get_or table i d).1)
unfolding parts_in
parts_in-hit table fault i d within same = rw (drop-cons table i d within, (Decides-eqb _ _).1 same) refl

pub parts_in-miss : (table : List Coded) (fault i : ℕ) (d : Coded) → i < length table
    → ((get_or table i d).0 ≡ fault → ⊥) → parts_in (rows_of (drop i table)) fault ≡ parts_in (rows_of (drop (i + 1) table)) fault
unfolding parts_in
parts_in-miss table fault i d within differ =
    let apart : ((get_or table i d).0 == fault) ≡ false = grind (arith, nat_tests) in
    rw (drop-cons table i d within, apart, add-one) refl

pub parts_in-none : (table : List Coded) (fault i : ℕ) → length table ≤ i → parts_in (rows_of (drop i table)) fault ≡ None
unfolding parts_in
parts_in-none table fault i past = rw (drop_all i table past) refl

pub ruleset parts_rules = (parts_in-hit, parts_in-miss, parts_in-none)
