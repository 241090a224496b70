-- Types that are stated by their number.
use Rattle.std.proofs.Common.{◌≡◌, ◌^◌, ◌≤◌, ◌+◌, ℕ, List, [], ◌∷◌, length, drop, get_or, Some, None, refl, sym, subst, ap, ◌∙◌, arith}
use Rattle.std.specs.Prelude.{codes}
use Rattle.std.proofs.lemmas.Grind.{common_steps}
use Rattle.std.proofs.lemmas.Bool.{lt-ltb}
use Rattle.dns_values.specs.Mnemonic.{number_behind, number_named, number_read, number_spelled, type_read, types}
use Rattle.dns_values.proofs.Words.{number_behind-same, number_spelled-short}
use Rattle.dns_entry_scanner.specs.HeadWord.{Heads}
use Rattle.dns_entry_scanner.specs.declared.record_head.HeadWord.TheVariants.{Rtype}

-- a text that begins with four octets
four_first : (text : List ℕ) → 4 ≤ length text → get_or text 0 0 ≡ 84 → get_or text 1 0 ≡ 89 → get_or text 2 0 ≡ 80 → get_or text 3 0 ≡ 69
    → text ≡ 84 ∷ 89 ∷ 80 ∷ 69 ∷ drop 4 text
four_first (a ∷ b ∷ c ∷ d ∷ more) long first second third fourth = cc
four_first [] long first second third fourth = absurd (omega (arith, long))
four_first (a ∷ []) long first second third fourth = absurd (omega (arith, long))
four_first (a ∷ b ∷ []) long first second third fourth = absurd (omega (arith, long))
four_first (a ∷ b ∷ c ∷ []) long first second third fourth = absurd (omega (arith, long))

-- a number below 2 ^ 16 among those below 2 ^ 32
short : (digits : List ℕ) (number : ℕ) → Some number ≡ number_spelled (2 ^ 32) digits → number ≤ 65535 → number_spelled 65536 digits ≡ Some number
short digits number is less = rw (number_spelled-short digits (Some number) is, lt-ltb number 65536 (omega (arith, less))) refl

read_behind : (word : List ℕ) (number : ℕ) → number_behind (codes "TYPE") word ≡ Some number → type_read word ≡ Some number
unfolding number_read
read_behind word number is = rw is refl

numbered_heads : (digits : List ℕ) (number : ℕ) → Some number ≡ number_spelled (2 ^ 32) digits → number ≤ 65535
    → Heads (84 ∷ 89 ∷ 80 ∷ 69 ∷ digits) (Rtype number)
numbered_heads digits number is less =
    (refl, read_behind _ number (number_behind-same (codes "TYPE") (84 ∷ 89 ∷ 80 ∷ 69 ∷ digits) refl ∙ short digits number is less))

pub says_numbered : (text digits : List ℕ) (number rtype : ℕ) → 4 ≤ length text → get_or text 0 0 ≡ 84 → get_or text 1 0 ≡ 89 → get_or text 2 0 ≡ 80
    → get_or text 3 0 ≡ 69 → digits ≡ drop 4 text → Some number ≡ number_spelled (2 ^ 32) digits → number ≤ 65535 → rtype ≡ number
    → Heads text (Rtype rtype)
says_numbered text digits number rtype long first second third fourth behind is less same =
    let all = four_first text long first second third fourth ∙ ap (λ (l : List ℕ). 84 ∷ 89 ∷ 80 ∷ 69 ∷ l) (sym behind) in
    subst (λ (n : ℕ). Heads text (Rtype n)) (sym same) (subst (λ (t : List ℕ). Heads t (Rtype number)) (sym all) (numbered_heads digits number is less))
