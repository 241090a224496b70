-- Numbers of one octet, by their digits, and addresses of four.
use Rattle.std.proofs.Common.{◌≡◌, ℕ, ◌+◌, ◌-◌, ◌*◌, ◌/◌, ◌%◌, ◌<◌, ◌≤◌, List, [], ◌∷◌, ◌++◌, drop, get_or, decimal, Option, Some, None, refl, sym, ◌∙◌, ap, subst, arith, inl, inr, lt-ltb, le-ltb, lit≤, append-nil}
use Rattle.std.specs.Char.{digit_value}
use Rattle.std.specs.Net.Grammar.{IsDotted}
use Rattle.std.specs.Net.Reader.{read_ipv4, read_octet}
use Rattle.std.proofs.NetLemmas.Ipv4.{read_octet_complete, read_octet_sound, read_ipv4_complete, read_ipv4_sound}
use Rattle.std.proofs.NetLemmas.Numbers.{NoDigit}
use Rattle.std.proofs.lemmas.Fmt.{decimal_digit, decimal_step}
use Rattle.std.proofs.lemmas.Bool.{cases_lt}
use Rattle.dns_fields.specs.Digits.{BeginsWithDigit}

-- the text begins with this number of an octet, and no digit is after it
pub record StartsWithOctet (text : List ℕ) (n : ℕ) (rest : List ℕ) : Type 0 where
  pub fits : n < 256
  pub spelled : text ≡ decimal n ++ rest
  pub ends : (digit : ℕ) (behind : List ℕ) → BeginsWithDigit rest digit behind → ⊥

two_digits : (n : ℕ) → 10 ≤ n → n < 100 → decimal n ≡ (48 + n / 10) ∷ (48 + n % 10) ∷ []
two_digits n least most =
    decimal_step n least (omega arith) ∙ ap (λ l. l ++ (48 + n % 10) ∷ []) (decimal_digit (n / 10) (omega arith))

three_digits : (n : ℕ) → 100 ≤ n → n < 256 → decimal n ≡ (48 + n / 100) ∷ (48 + n / 10 % 10) ∷ (48 + n % 10) ∷ []
three_digits n least most =
    decimal_step n (omega arith) (omega arith)
    ∙ ap (λ l. l ++ (48 + n % 10) ∷ []) (two_digits (n / 10) (omega arith) (omega arith) ∙ ap (λ (d : ℕ). (48 + d) ∷ (48 + n / 10 % 10) ∷ []) (omega arith))

-- the octets of a number, by how many digits it has
data Shape (text : List ℕ) (n : ℕ) (rest : List ℕ) : Type 0 where
  one : n < 10 → text ≡ (48 + n) ∷ rest → Shape text n rest
  two : 10 ≤ n → n < 100 → text ≡ (48 + n / 10) ∷ (48 + n % 10) ∷ rest → Shape text n rest
  three : 100 ≤ n → n < 256 → text ≡ (48 + n / 100) ∷ (48 + n / 10 % 10) ∷ (48 + n % 10) ∷ rest → Shape text n rest

shape_of : (text : List ℕ) (n : ℕ) (rest : List ℕ) → n < 256 → text ≡ decimal n ++ rest → Shape text n rest
shape_of text n rest fits spelled = elim (cases_lt n 10) [
  | inl few ↦ one few (spelled ∙ ap (λ l. l ++ rest) (decimal_digit n few))
  | inr more ↦ elim (cases_lt n 100) [
    | inl few ↦ two (omega arith) few (spelled ∙ ap (λ l. l ++ rest) (two_digits n (omega arith) few))
    | inr many ↦ three (omega arith) fits (spelled ∙ ap (λ l. l ++ rest) (three_digits n (omega arith) fits))
  ]
]

-- what the digits at the beginning say of the number

first_digit : (text : List ℕ) (n : ℕ) (rest : List ℕ) → Shape text n rest → (digit : ℕ) × (behind : List ℕ) × BeginsWithDigit text digit behind
first_digit text n rest (one few is) = (n, rest, (few, is))
first_digit text n rest (two least most is) = (n / 10, (48 + n % 10) ∷ rest, (omega arith, is))
first_digit text n rest (three least most is) = (n / 100, (48 + n / 10 % 10) ∷ (48 + n % 10) ∷ rest, (omega arith, is))

pub none_without_digit : (text : List ℕ) → ((n : ℕ) (rest : List ℕ) → BeginsWithDigit text n rest → ⊥) → (n : ℕ) (rest : List ℕ) → StartsWithOctet text n rest → ⊥
none_without_digit text none n rest is =
    let found = first_digit text n rest (shape_of text n rest is.fits is.spelled) in
    none found.0 found.1 found.2

pub one_digit : (text : List ℕ) (n : ℕ) (rest : List ℕ) → BeginsWithDigit text n rest
    → ((digit : ℕ) (behind : List ℕ) → BeginsWithDigit rest digit behind → ⊥) → StartsWithOctet text n rest
one_digit text n rest is ends = record {
  fits = omega (arith, is.0);
  spelled = is.1 ∙ ap (λ l. l ++ rest) (sym (decimal_digit n is.0));
  ends = ends;
}

pub two_of : (text : List ℕ) (first second : ℕ) (rest behind : List ℕ) → BeginsWithDigit text first rest → BeginsWithDigit rest second behind
    → 0 < first → ((digit : ℕ) (last : List ℕ) → BeginsWithDigit behind digit last → ⊥) → StartsWithOctet text (10 * first + second) behind
two_of text first second rest behind is then some ends =
    let small = is.0 in
    let few = then.0 in
    let n = 10 * first + second in
    let tens : first ≡ n / 10 = omega arith in
    let ones : second ≡ n % 10 = omega arith in
    let digits : (48 + first) ∷ (48 + second) ∷ behind ≡ (48 + n / 10) ∷ (48 + n % 10) ∷ behind =
    ap (λ (d : ℕ). (48 + d) ∷ (48 + second) ∷ behind) tens ∙ ap (λ (d : ℕ). (48 + n / 10) ∷ (48 + d) ∷ behind) ones in
    record {
      fits = omega arith;
      spelled = is.1 ∙ ap (λ l. (48 + first) ∷ l) then.1 ∙ digits ∙ ap (λ l. l ++ behind) (sym (two_digits n (omega arith) (omega arith)));
      ends = ends;
    }

pub three_of : (text : List ℕ) (first second third : ℕ) (rest behind last : List ℕ) → BeginsWithDigit text first rest → BeginsWithDigit rest second behind
    → BeginsWithDigit behind third last → 0 < first → 10 * (10 * first + second) + third < 256
    → ((digit : ℕ) (beyond : List ℕ) → BeginsWithDigit last digit beyond → ⊥) → StartsWithOctet text (10 * (10 * first + second) + third) last
three_of text first second third rest behind last is then also some fits ends =
    let small = is.0 in
    let few = then.0 in
    let least = also.0 in
    let n = 10 * (10 * first + second) + third in
    let hundreds : first ≡ n / 100 = omega arith in
    let tens : second ≡ n / 10 % 10 = omega arith in
    let ones : third ≡ n % 10 = omega arith in
    let digits : (48 + first) ∷ (48 + second) ∷ (48 + third) ∷ last ≡ (48 + n / 100) ∷ (48 + n / 10 % 10) ∷ (48 + n % 10) ∷ last =
    ap (λ (d : ℕ). (48 + d) ∷ (48 + second) ∷ (48 + third) ∷ last) hundreds ∙ ap (λ (d : ℕ). (48 + n / 100) ∷ (48 + d) ∷ (48 + third) ∷ last) tens
    ∙ ap (λ (d : ℕ). (48 + n / 100) ∷ (48 + n / 10 % 10) ∷ (48 + d) ∷ last) ones in
    record {
      fits = fits;
      spelled = is.1 ∙ ap (λ l. (48 + first) ∷ l) (then.1 ∙ ap (λ l. (48 + second) ∷ l) also.1) ∙ digits
          ∙ ap (λ l. l ++ last) (sym (three_digits n (omega arith) fits));
      ends = ends;
    }

heads : (a b : ℕ) (l m : List ℕ) → a ∷ l ≡ b ∷ m → (a ≡ b) × (l ≡ m)
heads a b l m same = (ap (λ (l : List ℕ). get_or l 0 0) same, ap (λ (l : List ℕ). drop 1 l) same)

-- a leading zero
pub none_with_zero : (text : List ℕ) (first second : ℕ) (rest behind : List ℕ) → BeginsWithDigit text first rest → BeginsWithDigit rest second behind
    → first ≡ 0 → (n : ℕ) (left : List ℕ) → StartsWithOctet text n left → ⊥
none_with_zero text first second rest behind is then zero n left number = elim (shape_of text n left number.fits number.spelled) [
  | one few at ↦
      let same = heads _ _ _ _ (sym at ∙ is.1) in
      number.ends second behind (then.0, same.1 ∙ then.1)
  | two least most at ↦
      let same = heads _ _ _ _ (sym at ∙ is.1) in
      absurd (omega (arith, same.0, zero))
  | three least most at ↦
      let same = heads _ _ _ _ (sym at ∙ is.1) in
      absurd (omega (arith, same.0, zero))
]

-- three digits that are too great, or a fourth
pub none_with_more : (text : List ℕ) (first second third : ℕ) (rest behind last : List ℕ) → BeginsWithDigit text first rest → BeginsWithDigit rest second behind
    → BeginsWithDigit behind third last → (10 * (10 * first + second) + third < 256 → (digit : ℕ) × (beyond : List ℕ) × BeginsWithDigit last digit beyond)
    → (n : ℕ) (left : List ℕ) → StartsWithOctet text n left → ⊥
none_with_more text first second third rest behind last is then also more n left number = elim (shape_of text n left number.fits number.spelled) [
  | one few at ↦
      let same = heads _ _ _ _ (sym at ∙ is.1) in
      number.ends second behind (then.0, same.1 ∙ then.1)
  | two least most at ↦
      let same = heads _ _ _ _ (sym at ∙ is.1) in
      let next = heads _ _ _ _ (same.1 ∙ then.1) in
      number.ends third last (also.0, next.1 ∙ also.1)
  | three least most at ↦
      let same = heads _ _ _ _ (sym at ∙ is.1) in
      let next = heads _ _ _ _ (same.1 ∙ then.1) in
      let final = heads _ _ _ _ (next.1 ∙ also.1) in
      let found = more (omega (arith, same.0, next.0, final.0, is.0, then.0, also.0)) in
      number.ends found.0 found.1 (found.2.0, final.1 ∙ found.2.1)
]

-- `read_octet` of std, by the same numbers

value_of : (c : ℕ) → 48 ≤ c → c < 58 → digit_value c ≡ c - 48
value_of c least most = rw (le-ltb c 48 least, lt-ltb c 58 most)

value_below : (c : ℕ) → c < 48 → 10 ≤ digit_value c
value_below c few = rw (lt-ltb c 48 few) (omega arith)

value_above : (c : ℕ) → 58 ≤ c → 10 ≤ digit_value c
value_above c many = rw (le-ltb c 48 (omega arith), le-ltb c 58 many) (elim (cases_lt c 65) [
  | inl small ↦ rw (lt-ltb c 65 small) (omega arith)
  | inr more ↦ rw (le-ltb c 65 (omega arith)) (elim (cases_lt c 91) [
    | inl small ↦ rw (lt-ltb c 91 small) (omega arith)
    | inr great ↦ rw (le-ltb c 91 (omega arith)) (elim (cases_lt c 97) [
      | inl small ↦ rw (lt-ltb c 97 small) (omega arith)
      | inr lower ↦ rw (le-ltb c 97 (omega arith)) (elim (cases_lt c 123) [
        | inl small ↦ rw (lt-ltb c 123 small) (omega arith)
        | inr last ↦ rw (le-ltb c 123 (omega arith)) (omega arith)
      ])
    ])
  ])
])

no_digit : (rest : List ℕ) → ((digit : ℕ) (behind : List ℕ) → BeginsWithDigit rest digit behind → ⊥) → NoDigit 10 rest
no_digit [] ends = omega arith
no_digit (c ∷ rest) ends = elim (cases_lt c 48) [
  | inl small ↦ value_below c small
  | inr more ↦ elim (cases_lt c 58) [
    | inl small ↦
        let back : c ≡ 48 + (c - 48) = omega arith in
        absurd (ends (c - 48) rest (omega arith, ap (λ (d : ℕ). d ∷ rest) back))
    | inr great ↦ value_above c (omega arith)
  ]
]

ends_there : (rest : List ℕ) → NoDigit 10 rest → (digit : ℕ) (behind : List ℕ) → BeginsWithDigit rest digit behind → ⊥
ends_there rest none digit behind is =
    let few = is.0 in
    let value : digit_value (get_or rest 0 0) ≡ digit = ap (λ (l : List ℕ). digit_value (get_or l 0 0)) is.1 ∙ value_of (48 + digit) (omega arith) (omega arith)
    ∙ omega arith in
    absurd (omega (arith, value, none))

pub is_read : (text : List ℕ) (n : ℕ) (rest : List ℕ) → StartsWithOctet text n rest → read_octet text ≡ Some (n, rest)
is_read text n rest is = ap read_octet is.spelled ∙ read_octet_complete n rest is.fits (no_digit rest is.ends)

none_read : (text : List ℕ) (found : Option (ℕ × List ℕ)) → read_octet text ≡ found
    → ((n : ℕ) (rest : List ℕ) → StartsWithOctet text n rest → ⊥) → found ≡ None
none_read text None is none = refl
none_read text (Some found) is none =
    let sound = read_octet_sound text found.1 found.0 is in
    absurd (none found.0 found.1 record { fits = sound.0; spelled = sound.1; ends = ends_there found.1 sound.2 })

pub not_read : (text : List ℕ) → ((n : ℕ) (rest : List ℕ) → StartsWithOctet text n rest → ⊥) → read_octet text ≡ None
not_read text none = none_read text (read_octet text) refl none

-- addresses with nothing after them

pub whole_read : (text octets rest : List ℕ) → read_ipv4 text ≡ Some (octets, rest) → rest ≡ [] → IsDotted text octets
whole_read text octets rest is none =
    let found = read_ipv4_sound text octets rest is in
    let whole : text ≡ found.0 = found.1 ∙ ap (λ l. found.0 ++ l) none ∙ append-nil found.0 in
    subst (λ l. IsDotted l octets) (sym whole) found.2

complete : (text octets : List ℕ) → IsDotted text octets → read_ipv4 text ≡ Some (octets, [])
complete text octets is = ap read_ipv4 (sym (append-nil text)) ∙ read_ipv4_complete text octets [] is (lit≤ tt)

pub none_at_all : (text : List ℕ) → read_ipv4 text ≡ None → (octets : List ℕ) → IsDotted text octets → ⊥
none_at_all text none octets is = absurd (let e : Some (octets, []) ≡ None = sym (complete text octets is) ∙ none in cc)

abbrev rest_of : Option (List ℕ × List ℕ) → List ℕ
rest_of None = []
rest_of (Some found) = found.1

pub none_with_rest : (text found rest : List ℕ) → read_ipv4 text ≡ Some (found, rest) → (rest ≡ [] → ⊥) → (octets : List ℕ) → IsDotted text octets → ⊥
none_with_rest text found rest is some octets dotted = some (ap rest_of (sym is ∙ complete text octets dotted))
