-- The mnemonics of the types of most records.
use Rattle.std.proofs.Common.{◌≡◌, ◌∙◌, ℕ, List, [], ◌∷◌, length, get_or, Some, refl, ap, arith}
use Rattle.std.specs.Prelude.{codes}
use Rattle.dns_values.specs.Mnemonic.{number_behind, number_named, number_read, number_spelled, type_read, types}

-- a text of so many octets is the list of them
pub octets_1 : (text : List ℕ) {a : ℕ} → length text ≡ 1 → get_or text 0 0 ≡ a
    → text ≡ a ∷ []
octets_1 (xa ∷ []) len first = cc
octets_1 [] len first = absurd (omega arith)
octets_1 (xa ∷ y ∷ more) len first = absurd (omega arith)

pub octets_2 : (text : List ℕ) {a b : ℕ} → length text ≡ 2 → get_or text 0 0 ≡ a → get_or text 1 0 ≡ b
    → text ≡ a ∷ b ∷ []
octets_2 (xa ∷ xb ∷ []) len first second = cc
octets_2 [] len first second = absurd (omega arith)
octets_2 (xa ∷ []) len first second = absurd (omega arith)
octets_2 (xa ∷ xb ∷ y ∷ more) len first second = absurd (omega arith)

pub octets_4 : (text : List ℕ) {a b c d : ℕ} → length text ≡ 4 → get_or text 0 0 ≡ a → get_or text 1 0 ≡ b → get_or text 2 0 ≡ c → get_or text 3 0 ≡ d
    → text ≡ a ∷ b ∷ c ∷ d ∷ []
octets_4 (xa ∷ xb ∷ xc ∷ xd ∷ []) len first second third fourth = cc
octets_4 [] len first second third fourth = absurd (omega arith)
octets_4 (xa ∷ []) len first second third fourth = absurd (omega arith)
octets_4 (xa ∷ xb ∷ []) len first second third fourth = absurd (omega arith)
octets_4 (xa ∷ xb ∷ xc ∷ []) len first second third fourth = absurd (omega arith)
octets_4 (xa ∷ xb ∷ xc ∷ xd ∷ y ∷ more) len first second third fourth = absurd (omega arith)

pub octets_5 : (text : List ℕ) {a b c d e : ℕ} → length text ≡ 5 → get_or text 0 0 ≡ a → get_or text 1 0 ≡ b → get_or text 2 0 ≡ c → get_or text 3 0 ≡ d → get_or text 4 0 ≡ e
    → text ≡ a ∷ b ∷ c ∷ d ∷ e ∷ []
octets_5 (xa ∷ xb ∷ xc ∷ xd ∷ xe ∷ []) len first second third fourth fifth = cc
octets_5 [] len first second third fourth fifth = absurd (omega arith)
octets_5 (xa ∷ []) len first second third fourth fifth = absurd (omega arith)
octets_5 (xa ∷ xb ∷ []) len first second third fourth fifth = absurd (omega arith)
octets_5 (xa ∷ xb ∷ xc ∷ []) len first second third fourth fifth = absurd (omega arith)
octets_5 (xa ∷ xb ∷ xc ∷ xd ∷ []) len first second third fourth fifth = absurd (omega arith)
octets_5 (xa ∷ xb ∷ xc ∷ xd ∷ xe ∷ y ∷ more) len first second third fourth fifth = absurd (omega arith)

-- what each mnemonic says
a_word : type_read (codes "A") ≡ Some 1
unfolding types number_read number_behind number_named number_spelled
a_word = refl

pub a_read : (text : List ℕ) → text ≡ codes "A" → type_read text ≡ Some 1
a_read text is = ap type_read is ∙ a_word

ns_word : type_read (codes "NS") ≡ Some 2
unfolding types number_read number_behind number_named number_spelled
ns_word = refl

pub ns_read : (text : List ℕ) → text ≡ codes "NS" → type_read text ≡ Some 2
ns_read text is = ap type_read is ∙ ns_word

ds_word : type_read (codes "DS") ≡ Some 43
unfolding types number_read number_behind number_named number_spelled
ds_word = refl

pub ds_read : (text : List ℕ) → text ≡ codes "DS" → type_read text ≡ Some 43
ds_read text is = ap type_read is ∙ ds_word

aaaa_word : type_read (codes "AAAA") ≡ Some 28
unfolding types number_read number_behind number_named number_spelled
aaaa_word = refl

pub aaaa_read : (text : List ℕ) → text ≡ codes "AAAA" → type_read text ≡ Some 28
aaaa_read text is = ap type_read is ∙ aaaa_word

nsec_word : type_read (codes "NSEC") ≡ Some 47
unfolding types number_read number_behind number_named number_spelled
nsec_word = refl

pub nsec_read : (text : List ℕ) → text ≡ codes "NSEC" → type_read text ≡ Some 47
nsec_read text is = ap type_read is ∙ nsec_word

rrsig_word : type_read (codes "RRSIG") ≡ Some 46
unfolding types number_read number_behind number_named number_spelled
rrsig_word = refl

pub rrsig_read : (text : List ℕ) → text ≡ codes "RRSIG" → type_read text ≡ Some 46
rrsig_read text is = ap type_read is ∙ rrsig_word

nsec3_word : type_read (codes "NSEC3") ≡ Some 50
unfolding types number_read number_behind number_named number_spelled
nsec3_word = refl

pub nsec3_read : (text : List ℕ) → text ≡ codes "NSEC3" → type_read text ≡ Some 50
nsec3_read text is = ap type_read is ∙ nsec3_word
