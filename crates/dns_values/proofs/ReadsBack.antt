-- What is printed of a number reads back, for any table whose own mnemonics do.
use Rattle.std.proofs.Common.{◌≡◌, ◌<◌, ◌^◌, ◌⊎◌, ◌++◌, ◌==◌, ◌&&◌, ℕ, Bool, true, false, cond, List, [], ◌∷◌, length, take, drop, find, Option, Some, None, option_map, arith, refl, sym, ◌∙◌, ap, inl, inr, ⊎_elim, nat_lt, map, codes}
use Rattle.std.proofs.Math.Seq.{take-append_seam, drop-append_seam}
use Rattle.std.specs.Option.{option_map_or}
use Rattle.std.specs.List.{list_all}
use Rattle.std.specs.Fmt.{decimal}
use Rattle.std.specs.Char.{to_ascii_lowercase}
use Rattle.std.proofs.lemmas.Fmt.{digits_decimal, digits_value-decimal, decimal_nonempty}
use Rattle.std.proofs.lemmas.Bool.Decides.{nat_tests, Decides-eqb}
use Rattle.dns_values.specs.Mnemonic.{Mnemonics, types, classes, number_spelled, number_behind, number_named, number_read, text_of, text_written, type_read, type_written, class_read, class_written}
use Rattle.dns_values.proofs.Words.{digits_model, number_spelled-digits, number_behind-same, text_written-named, text_written-other}

and_left : (a b : Bool) → (a && b) ≡ true → a ≡ true
and_left true b e = refl
and_left false b e = e

and_right : (a b : Bool) → (a && b) ≡ true → b ≡ true
and_right true b e = e
and_right false b e = cc

picked : {X : Type 0} (b : Bool) (y x : X) (rest : Option X) → cond b (Some y) rest ≡ Some x
    → ((b ≡ true) × (y ≡ x)) ⊎ (rest ≡ Some x)
picked true y x rest e = inl (refl, cc)
picked false y x rest e = inr e

-- what a look-up finds passes the look-up's test, and each test that all of the list pass
found : {X : Type 0} (p q : X → Bool) (xs : List X) (x : X) → find p xs ≡ Some x → list_all q xs ≡ true
    → (p x ≡ true) × (q x ≡ true)
found p q [] x e all = cc
found p q (y ∷ ys) x e all =
    ⊎_elim (λ h. (ap p (sym h.1) ∙ h.0, ap q (sym h.1) ∙ and_left (q y) (list_all q ys) all))
    (λ h. found p q ys x h (and_right (q y) (list_all q ys) all)) (picked (p y) y x (find p ys) e)

-- the text of each row reads as the row's number
unfoldable pub reads_own : Mnemonics → List ℕ → Bool
reads_own table prefix = list_all (λ row. option_map_or (λ number. number == row.0) (number_read table prefix row.1) false) table

is_number : (read : Option ℕ) (number : ℕ) → option_map_or (λ m. m == number) read false ≡ true → read ≡ Some number
is_number (Some m) number e = ap Some ((Decides-eqb m number).0 e)
is_number None number e = cc

row_of : (found : Option (ℕ × List ℕ)) (text : List ℕ) → option_map {T = ℕ × List ℕ} (λ row. row.1) found ≡ Some text
    → (row : ℕ × List ℕ) × (found ≡ Some row) × (row.1 ≡ text)
row_of (Some row) text e = (row, refl, cc)
row_of None text e = cc

own_text : (table : Mnemonics) (prefix text : List ℕ) (number : ℕ) → text_of table number ≡ Some text
    → reads_own table prefix ≡ true → number_read table prefix text ≡ Some number
unfolding text_of reads_own
own_text table prefix text number named own =
    let row = row_of (find (λ row. row.0 == number) table) text named in
    let both = found _ _ table row.0 row.1 own in
    let read = is_number (number_read table prefix row.0.1) row.0.0 both.1 in
    ap (number_read table prefix) (sym row.2) ∙ read ∙ ap Some ((Decides-eqb row.0.0 number).0 both.0)

both_hold : (len number : ℕ) → 0 < len → number < 65536
    → cond (nat_lt 0 len && nat_lt number 65536) (Some number) None ≡ Some number
both_hold len number some small = grind (arith, nat_tests)

digits_text : (number : ℕ) → number < 65536 → number_spelled 65536 (decimal number) ≡ Some number
digits_text number small =
    let wide : number < 2 ^ 64 = omega arith in
    rw (number_spelled-digits 65536 _ (digits_decimal digits_model number wide), digits_value-decimal digits_model number wide)
    (both_hold (length (decimal number)) number (decimal_nonempty number wide) small)

behind_text : (prefix : List ℕ) (number : ℕ) → number < 65536 → number_behind prefix (prefix ++ decimal number) ≡ Some number
behind_text prefix number small =
    let front : take (length prefix) (prefix ++ decimal number) ≡ prefix = take-append_seam prefix _ in
    let back : drop (length prefix) (prefix ++ decimal number) ≡ decimal number = drop-append_seam prefix _ in
    number_behind-same prefix _ (ap (map to_ascii_lowercase) (sym front)) ∙ ap (number_spelled 65536) back ∙ digits_text number small

own_number : (table : Mnemonics) (prefix : List ℕ) (number : ℕ) → number < 65536
    → number_read table prefix (prefix ++ decimal number) ≡ Some number
unfolding number_read
own_number table prefix number small = rw (behind_text prefix number small) refl

pub reads_back : (table : Mnemonics) (prefix : List ℕ) (number : ℕ) → number < 65536 → reads_own table prefix ≡ true
    → number_read table prefix (text_written table prefix number) ≡ Some number
reads_back table prefix number small own = by_text (text_of table number) refl
  where
    by_text : (text : Option (List ℕ)) → text_of table number ≡ text
        → number_read table prefix (text_written table prefix number) ≡ Some number
    by_text (Some text) named =
        ap (number_read table prefix) (text_written-named table prefix text number (sym named)) ∙ own_text table prefix text number named own
    by_text None unnamed =
        ap (number_read table prefix) (text_written-other table prefix number (sym unnamed)) ∙ own_number table prefix number small

pub types_own : reads_own types (codes "TYPE") ≡ true
unfolding reads_own types number_read number_behind number_named number_spelled
types_own = refl

pub classes_own : reads_own classes (codes "CLASS") ≡ true
unfolding reads_own classes number_read number_behind number_named number_spelled
classes_own = refl

pub type_reads_back : (number : ℕ) → number < 65536 → type_read (type_written number) ≡ Some number
type_reads_back number small = reads_back types (codes "TYPE") number small types_own

pub class_reads_back : (number : ℕ) → number < 65536 → class_read (class_written number) ≡ Some number
class_reads_back number small = reads_back classes (codes "CLASS") number small classes_own

pub ruleset reads_back_rules = (type_reads_back, class_reads_back)
