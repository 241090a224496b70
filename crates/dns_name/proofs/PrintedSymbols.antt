-- The symbols that octets of labels are printed as stand for these octets.
use Rattle.std.proofs.Common.{◌≡◌, ◌==◌, ◌||◌, ◌&&◌, ◌<◌, ◌≤◌, ◌^◌, ℕ, Bool, true, false, nat_lt, if◌then◌else◌, inl, inr, refl, sym, ◌∙◌, subst, arith}
use Rattle.std.proofs.lemmas.Bool.Decides.{nat_tests, Decides-eqb}
use Rattle.dns_label.specs.declared.symbol.Symbol.{Symbol}
use Rattle.dns_label.specs.declared.symbol.Symbol.TheVariants.{Char, SimpleEscape, DecimalEscape}
use Rattle.dns_label.specs.Symbol.{IsPrintable, IsNoDigit, IsSymbol, octet}
use Rattle.dns_label.specs.NameText.{is_dot}
use Rattle.dns_label.specs.Printed.{is_special, printed_symbol}

-- the symbol stands for the octet, and separates no labels
pub record StandsFor (c : ℕ) (symbol : Symbol) : Type 0 where
  pub is_symbol : IsSymbol symbol
  pub same : octet symbol ≡ c
  pub plain : is_dot symbol ≡ false

either_by : {P : Type 0} (c other : ℕ) (test rest : Bool) → (c == other) ≡ test → (test || rest) ≡ true → (c ≡ other → P) → (rest ≡ true → P) → P
either_by c other true rest same is here there = here ((Decides-eqb c other).0 same)
either_by c other false rest same is here there = there is

either : {P : Type 0} (c other : ℕ) (rest : Bool) → ((c == other) || rest) ≡ true → (c ≡ other → P) → (rest ≡ true → P) → P
either c other rest is here there = either_by c other (c == other) rest refl is here there

special : (c : ℕ) → is_special c ≡ true → IsPrintable c × IsNoDigit c
special c is =
    either c 32 _ is (λ e. ((omega arith, omega arith), inl (omega arith)))
    (λ is. either c 34 _ is (λ e. ((omega arith, omega arith), inl (omega arith)))
    (λ is. either c 36 _ is (λ e. ((omega arith, omega arith), inl (omega arith)))
    (λ is. either c 40 _ is (λ e. ((omega arith, omega arith), inl (omega arith)))
    (λ is. either c 41 _ is (λ e. ((omega arith, omega arith), inl (omega arith)))
    (λ is. either c 46 _ is (λ e. ((omega arith, omega arith), inl (omega arith)))
    (λ is. either c 59 (c == 92) is (λ e. ((omega arith, omega arith), inr (omega arith)))
    (λ is. let e = (Decides-eqb c 92).0 is in ((omega arith, omega arith), inr (omega arith)))))))))

-- what is not special is no dot and no backslash
ordinary : (c other : ℕ) → is_special other ≡ true → is_special c ≡ false → c ≡ other → ⊥
ordinary c other escaped plain same =
    let P : ℕ → Type 0 = λ n. is_special n ≡ true in
    let e : true ≡ false = sym (subst P (sym same) escaped) ∙ plain in cc

no_dot : (c : ℕ) → (c ≡ 46 → ⊥) → (c == 46) ≡ false
no_dot c apart = by_test (c == 46) refl
  where
    by_test : (test : Bool) → (c == 46) ≡ test → test ≡ false
    by_test true same = absurd (apart ((Decides-eqb c 46).0 same))
    by_test false same = refl

visible : (c : ℕ) → (nat_lt 32 c && nat_lt c 127) ≡ true → (33 ≤ c) × (c ≤ 126)
visible c test = (grind (arith, nat_tests), grind (arith, nat_tests))

pub printed_stands : (c : ℕ) → c < 2 ^ 8 → StandsFor c (printed_symbol c)
printed_stands c fits = by_tests (is_special c) (nat_lt 32 c && nat_lt c 127) refl refl
  where
    by_tests : (escaped plain : Bool) → is_special c ≡ escaped → (nat_lt 32 c && nat_lt c 127) ≡ plain
        → StandsFor c (if escaped then SimpleEscape c else (if plain then Char c else DecimalEscape c))
    by_tests true plain is is_plain = record { is_symbol = special c is; same = refl; plain = refl }
    by_tests false true is is_plain =
        let range = visible c is_plain in
        record {
          is_symbol = ((omega arith, range.1), ordinary c 92 refl is);
          same = refl;
          plain = no_dot c (ordinary c 46 refl is);
        }
    by_tests false false is is_plain = record { is_symbol = fits; same = refl; plain = refl }
