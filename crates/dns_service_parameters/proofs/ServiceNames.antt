-- A word names one key.
use Rattle.std.proofs.Common.{◌≡◌, ◌≢◌, ◌<◌, ◌^◌, ◌==◌, ◌&&◌, not, cond, ℕ, Bool, true, false, List, [], ◌∷◌, length, decimal, refl, sym, ◌∙◌, ap, subst, arith, inl, inr}
use Rattle.std.proofs.lemmas.Bool.Decides.{nat_tests}
use Rattle.std.proofs.lemmas.Fmt.{digits_decimal}
use Rattle.std.proofs.lemmas.Bool.{and_parts}
use Rattle.std.specs.Prelude.{find, Some, option_map, unwrap_or}
use Rattle.std.specs.List.{AllByRecursion, list_all}
use Rattle.dns_values.specs.Mnemonic.{number_spelled}
use Rattle.dns_values.proofs.Words.{digits_model}
use Rattle.dns_field_texts.specs.Cut.{IsWithout}
use Rattle.dns_field_texts.proofs.LocationNumerals.{digits_without}
use Rattle.dns_service_parameters.specs.declared.form.Form.{Form}
use Rattle.dns_service_parameters.specs.Service.{name_of, table}
use Rattle.dns_service_parameters.specs.ServiceText.{SpellsKey, number_word}
use Rattle.dns_service_parameters.proofs.ServiceNumbers.{decimal_spelled}

-- what holds of each row of the table holds of a name and its key
found_row : (P : List ℕ → ℕ → Type 0) (key : ℕ) (word : List ℕ) (rows : List (ℕ × List ℕ × Form)) → AllByRecursion (λ (row : ℕ × List ℕ × Form). P row.1 row.0) rows
    → option_map (λ row. row.1) (find (λ row. row.0 == key) rows) ≡ Some word → P word key
found_row P key word [] each is = absurd (cc)
found_row P key word (row ∷ rows) each is = by (found_row P key word rows each.1) (row.0 == key) refl is
  where
    by : (option_map (λ row. row.1) (find (λ row. row.0 == key) rows) ≡ Some word → P word key) → (b : Bool) → (row.0 == key) ≡ b
        → option_map (λ row. row.1) (cond b (Some row) (find (λ row. row.0 == key) rows)) ≡ Some word → P word key
    by on true same is =
        let here : row.0 ≡ key = grind (arith, nat_tests) in
        let text : row.1 ≡ word = cc in
        subst (P word) here (subst (λ (l : List ℕ). P l row.0) text each.0)
    by on false same is = on is

named : (P : List ℕ → ℕ → Type 0) → AllByRecursion (λ (row : ℕ × List ℕ × Form). P row.1 row.0) table → (key : ℕ) (word : List ℕ)
    → name_of key ≡ Some word → P word key
unfolding name_of
named P each key word is = found_row P key word table each is

-- the key of a name
is_same : List ℕ → List ℕ → Bool
is_same [] [] = true
is_same [] (d ∷ ys) = false
is_same (c ∷ xs) [] = false
is_same (c ∷ xs) (d ∷ ys) = (c == d) && is_same xs ys

key_at : List ℕ → ℕ
key_at word = unwrap_or (option_map (λ row. row.0) (find (λ row. is_same row.1 word) table)) 9

own_keys : AllByRecursion (λ (row : ℕ × List ℕ × Form). key_at row.1 ≡ row.0) table
unfolding is_same key_at
own_keys = (refl, (refl, (refl, (refl, (refl, (refl, (refl, (refl, (refl, tt)))))))))

pub name_one : (key other : ℕ) (word : List ℕ) → name_of key ≡ Some word → name_of other ≡ Some word → key ≡ other
name_one key other word is also =
    sym (named (λ w k. key_at w ≡ k) own_keys key word is) ∙ named (λ w k. key_at w ≡ k) own_keys other word also

-- a name has a letter
some_names : AllByRecursion (λ (row : ℕ × List ℕ × Form). 0 < length row.1) table
some_names = (omega arith, (omega arith, (omega arith, (omega arith, (omega arith, (omega arith, (omega arith, (omega arith, (omega arith, tt)))))))))

pub name_some : (key : ℕ) (word : List ℕ) → name_of key ≡ Some word → 0 < length word
name_some key word is = named (λ w k. 0 < length w) some_names key word is

-- no name is the word of a number
is_numbered : List ℕ → Bool
is_numbered [] = false
is_numbered (a ∷ []) = false
is_numbered (a ∷ b ∷ []) = false
is_numbered (a ∷ b ∷ c ∷ rest) = (a == 107) && ((b == 101) && (c == 121))

no_numbers : AllByRecursion (λ (row : ℕ × List ℕ × Form). is_numbered row.1 ≡ false) table
unfolding is_numbered
no_numbers = (refl, (refl, (refl, (refl, (refl, (refl, (refl, (refl, (refl, tt)))))))))

numbered : (key : ℕ) → is_numbered (number_word key) ≡ true
unfolding is_numbered
numbered key = refl

pub name_number : (key other : ℕ) (word : List ℕ) → name_of key ≡ Some word → word ≡ number_word other → ⊥
name_number key other word is also =
    let no : is_numbered word ≡ false = named (λ w k. is_numbered w ≡ false) no_numbers key word is in
    let yes : is_numbered word ≡ true = ap is_numbered also ∙ numbered other in
    cc

-- a number of one word
pub word_one : (key other : ℕ) → key < 2 ^ 16 → other < 2 ^ 16 → number_word key ≡ number_word other → key ≡ other
word_one key other small few same =
    let digits : decimal key ≡ decimal other = cc in
    let read : Some key ≡ Some other = sym (decimal_spelled key small) ∙ ap (number_spelled (2 ^ 16)) digits ∙ decimal_spelled other few in
    cc

pub key_one : (word : List ℕ) (key other : ℕ) → SpellsKey word key → SpellsKey word other → key ≡ other
key_one word key other (inl is) (inl also) = name_one key other word is also
key_one word key other (inl is) (inr also) = absurd (name_number key other word is also.0)
key_one word key other (inr is) (inl also) = absurd (name_number other key word also is.0)
key_one word key other (inr is) (inr also) = word_one key other is.1 also.1 (sym is.0 ∙ also.0)

-- no word of a key has the octet that assigns a value
without_61 : List ℕ → Bool
without_61 word = list_all (λ c. not (c == 61)) word

clear_61 : (word : List ℕ) → without_61 word ≡ true → IsWithout 61 word
unfolding without_61
clear_61 [] is = tt
clear_61 (c ∷ word) is =
    let both = and_parts (not (c == 61)) (without_61 word) is in
    (other c both.0, clear_61 word both.1)
  where
    other : (n : ℕ) → not (n == 61) ≡ true → n ≢ 61
    other n test same = absurd (grind (arith, nat_tests))

clear_names : AllByRecursion (λ (row : ℕ × List ℕ × Form). without_61 row.1 ≡ true) table
unfolding without_61
clear_names = (refl, (refl, (refl, (refl, (refl, (refl, (refl, (refl, (refl, tt)))))))))

pub name_clear : (key : ℕ) (word : List ℕ) → name_of key ≡ Some word → IsWithout 61 word
name_clear key word is = clear_61 word (named (λ w k. without_61 w ≡ true) clear_names key word is)

pub number_clear : (key : ℕ) → key < 2 ^ 16 → IsWithout 61 (number_word key)
number_clear key small =
    let digits = digits_without 61 (decimal key) (λ near. let high = near.1 in omega arith) (digits_decimal digits_model key (omega (arith, small))) in
    ((λ same. omega (arith, same)), ((λ same. omega (arith, same)), ((λ same. omega (arith, same)), digits)))
