-- The class and the mnemonics of the types of most records.
use Rattle.std.proofs.Common.{◌≡◌, ℕ, List, [], ◌∷◌, length, get_or, Some, None, refl, sym, subst, arith}
use Rattle.std.specs.Prelude.{codes}
use Rattle.std.proofs.lemmas.Grind.{common_steps}
use Rattle.dns_values.specs.Mnemonic.{classes, number_behind, number_named, number_read, number_spelled, types}
use Rattle.dns_entry_scanner.specs.HeadWord.{Heads}
use Rattle.dns_entry_scanner.specs.declared.record_head.HeadWord.{HeadWord}
use Rattle.dns_entry_scanner.specs.declared.record_head.HeadWord.TheVariants.{Class, Rtype}

-- a text of so many octets is the list of them
pub octets_1 : (text : List ℕ) {a : ℕ} → length text ≡ 1 → get_or text 0 0 ≡ a
    → text ≡ a ∷ []
octets_1 (xa ∷ []) len first = cc
octets_1 [] len first = absurd (omega arith)
octets_1 (xa ∷ y ∷ more) len first = absurd (omega arith)

pub octets_2 : (text : List ℕ) {a b : ℕ} → length text ≡ 2 → get_or text 0 0 ≡ a → get_or text 1 0 ≡ b
    → text ≡ a ∷ b ∷ []
octets_2 (xa ∷ xb ∷ []) len first second = cc
octets_2 [] len first second = absurd (omega arith)
octets_2 (xa ∷ []) len first second = absurd (omega arith)
octets_2 (xa ∷ xb ∷ y ∷ more) len first second = absurd (omega arith)

pub octets_3 : (text : List ℕ) {a b c : ℕ} → length text ≡ 3 → get_or text 0 0 ≡ a → get_or text 1 0 ≡ b → get_or text 2 0 ≡ c
    → text ≡ a ∷ b ∷ c ∷ []
octets_3 (xa ∷ xb ∷ xc ∷ []) len first second third = cc
octets_3 [] len first second third = absurd (omega arith)
octets_3 (xa ∷ []) len first second third = absurd (omega arith)
octets_3 (xa ∷ xb ∷ []) len first second third = absurd (omega arith)
octets_3 (xa ∷ xb ∷ xc ∷ y ∷ more) len first second third = absurd (omega arith)

pub octets_4 : (text : List ℕ) {a b c d : ℕ} → length text ≡ 4 → get_or text 0 0 ≡ a → get_or text 1 0 ≡ b → get_or text 2 0 ≡ c → get_or text 3 0 ≡ d
    → text ≡ a ∷ b ∷ c ∷ d ∷ []
octets_4 (xa ∷ xb ∷ xc ∷ xd ∷ []) len first second third fourth = cc
octets_4 [] len first second third fourth = absurd (omega arith)
octets_4 (xa ∷ []) len first second third fourth = absurd (omega arith)
octets_4 (xa ∷ xb ∷ []) len first second third fourth = absurd (omega arith)
octets_4 (xa ∷ xb ∷ xc ∷ []) len first second third fourth = absurd (omega arith)
octets_4 (xa ∷ xb ∷ xc ∷ xd ∷ y ∷ more) len first second third fourth = absurd (omega arith)

pub octets_5 : (text : List ℕ) {a b c d e : ℕ} → length text ≡ 5 → get_or text 0 0 ≡ a → get_or text 1 0 ≡ b → get_or text 2 0 ≡ c → get_or text 3 0 ≡ d → get_or text 4 0 ≡ e
    → text ≡ a ∷ b ∷ c ∷ d ∷ e ∷ []
octets_5 (xa ∷ xb ∷ xc ∷ xd ∷ xe ∷ []) len first second third fourth fifth = cc
octets_5 [] len first second third fourth fifth = absurd (omega arith)
octets_5 (xa ∷ []) len first second third fourth fifth = absurd (omega arith)
octets_5 (xa ∷ xb ∷ []) len first second third fourth fifth = absurd (omega arith)
octets_5 (xa ∷ xb ∷ xc ∷ []) len first second third fourth fifth = absurd (omega arith)
octets_5 (xa ∷ xb ∷ xc ∷ xd ∷ []) len first second third fourth fifth = absurd (omega arith)
octets_5 (xa ∷ xb ∷ xc ∷ xd ∷ xe ∷ y ∷ more) len first second third fourth fifth = absurd (omega arith)

pub octets_6 : (text : List ℕ) {a b c d e f : ℕ} → length text ≡ 6 → get_or text 0 0 ≡ a → get_or text 1 0 ≡ b → get_or text 2 0 ≡ c → get_or text 3 0 ≡ d → get_or text 4 0 ≡ e → get_or text 5 0 ≡ f
    → text ≡ a ∷ b ∷ c ∷ d ∷ e ∷ f ∷ []
octets_6 (xa ∷ xb ∷ xc ∷ xd ∷ xe ∷ xf ∷ []) len first second third fourth fifth sixth = cc
octets_6 [] len first second third fourth fifth sixth = absurd (omega arith)
octets_6 (xa ∷ []) len first second third fourth fifth sixth = absurd (omega arith)
octets_6 (xa ∷ xb ∷ []) len first second third fourth fifth sixth = absurd (omega arith)
octets_6 (xa ∷ xb ∷ xc ∷ []) len first second third fourth fifth sixth = absurd (omega arith)
octets_6 (xa ∷ xb ∷ xc ∷ xd ∷ []) len first second third fourth fifth sixth = absurd (omega arith)
octets_6 (xa ∷ xb ∷ xc ∷ xd ∷ xe ∷ []) len first second third fourth fifth sixth = absurd (omega arith)
octets_6 (xa ∷ xb ∷ xc ∷ xd ∷ xe ∷ xf ∷ y ∷ more) len first second third fourth fifth sixth = absurd (omega arith)

says : (said : HeadWord) {text word : List ℕ} → text ≡ word → Heads word said → Heads text said
says said is heads = subst (λ (t : List ℕ). Heads t said) (sym is) heads

-- what each of them says
in_heads : Heads (codes "IN") (Class 1)
unfolding types classes number_read number_behind number_named number_spelled
in_heads = (refl, refl, refl)

pub says_in : {text : List ℕ} → text ≡ codes "IN" → Heads text (Class 1)
says_in is = says (Class 1) is in_heads

a_heads : Heads (codes "A") (Rtype 1)
unfolding types number_read number_behind number_named number_spelled
a_heads = (refl, refl)

pub says_a : {text : List ℕ} → text ≡ codes "A" → Heads text (Rtype 1)
says_a is = says (Rtype 1) is a_heads

ns_heads : Heads (codes "NS") (Rtype 2)
unfolding types number_read number_behind number_named number_spelled
ns_heads = (refl, refl)

pub says_ns : {text : List ℕ} → text ≡ codes "NS" → Heads text (Rtype 2)
says_ns is = says (Rtype 2) is ns_heads

ds_heads : Heads (codes "DS") (Rtype 43)
unfolding types number_read number_behind number_named number_spelled
ds_heads = (refl, refl)

pub says_ds : {text : List ℕ} → text ≡ codes "DS" → Heads text (Rtype 43)
says_ds is = says (Rtype 43) is ds_heads

mx_heads : Heads (codes "MX") (Rtype 15)
unfolding types number_read number_behind number_named number_spelled
mx_heads = (refl, refl)

pub says_mx : {text : List ℕ} → text ≡ codes "MX" → Heads text (Rtype 15)
says_mx is = says (Rtype 15) is mx_heads

rp_heads : Heads (codes "RP") (Rtype 17)
unfolding types number_read number_behind number_named number_spelled
rp_heads = (refl, refl)

pub says_rp : {text : List ℕ} → text ≡ codes "RP" → Heads text (Rtype 17)
says_rp is = says (Rtype 17) is rp_heads

txt_heads : Heads (codes "TXT") (Rtype 16)
unfolding types number_read number_behind number_named number_spelled
txt_heads = (refl, refl)

pub says_txt : {text : List ℕ} → text ≡ codes "TXT" → Heads text (Rtype 16)
says_txt is = says (Rtype 16) is txt_heads

ptr_heads : Heads (codes "PTR") (Rtype 12)
unfolding types number_read number_behind number_named number_spelled
ptr_heads = (refl, refl)

pub says_ptr : {text : List ℕ} → text ≡ codes "PTR" → Heads text (Rtype 12)
says_ptr is = says (Rtype 12) is ptr_heads

soa_heads : Heads (codes "SOA") (Rtype 6)
unfolding types number_read number_behind number_named number_spelled
soa_heads = (refl, refl)

pub says_soa : {text : List ℕ} → text ≡ codes "SOA" → Heads text (Rtype 6)
says_soa is = says (Rtype 6) is soa_heads

srv_heads : Heads (codes "SRV") (Rtype 33)
unfolding types number_read number_behind number_named number_spelled
srv_heads = (refl, refl)

pub says_srv : {text : List ℕ} → text ≡ codes "SRV" → Heads text (Rtype 33)
says_srv is = says (Rtype 33) is srv_heads

caa_heads : Heads (codes "CAA") (Rtype 257)
unfolding types number_read number_behind number_named number_spelled
caa_heads = (refl, refl)

pub says_caa : {text : List ℕ} → text ≡ codes "CAA" → Heads text (Rtype 257)
says_caa is = says (Rtype 257) is caa_heads

aaaa_heads : Heads (codes "AAAA") (Rtype 28)
unfolding types number_read number_behind number_named number_spelled
aaaa_heads = (refl, refl)

pub says_aaaa : {text : List ℕ} → text ≡ codes "AAAA" → Heads text (Rtype 28)
says_aaaa is = says (Rtype 28) is aaaa_heads

nsec_heads : Heads (codes "NSEC") (Rtype 47)
unfolding types number_read number_behind number_named number_spelled
nsec_heads = (refl, refl)

pub says_nsec : {text : List ℕ} → text ≡ codes "NSEC" → Heads text (Rtype 47)
says_nsec is = says (Rtype 47) is nsec_heads

cname_heads : Heads (codes "CNAME") (Rtype 5)
unfolding types number_read number_behind number_named number_spelled
cname_heads = (refl, refl)

pub says_cname : {text : List ℕ} → text ≡ codes "CNAME" → Heads text (Rtype 5)
says_cname is = says (Rtype 5) is cname_heads

hinfo_heads : Heads (codes "HINFO") (Rtype 13)
unfolding types number_read number_behind number_named number_spelled
hinfo_heads = (refl, refl)

pub says_hinfo : {text : List ℕ} → text ≡ codes "HINFO" → Heads text (Rtype 13)
says_hinfo is = says (Rtype 13) is hinfo_heads

rrsig_heads : Heads (codes "RRSIG") (Rtype 46)
unfolding types number_read number_behind number_named number_spelled
rrsig_heads = (refl, refl)

pub says_rrsig : {text : List ℕ} → text ≡ codes "RRSIG" → Heads text (Rtype 46)
says_rrsig is = says (Rtype 46) is rrsig_heads

nsec3_heads : Heads (codes "NSEC3") (Rtype 50)
unfolding types number_read number_behind number_named number_spelled
nsec3_heads = (refl, refl)

pub says_nsec3 : {text : List ℕ} → text ≡ codes "NSEC3" → Heads text (Rtype 50)
says_nsec3 is = says (Rtype 50) is nsec3_heads

dnskey_heads : Heads (codes "DNSKEY") (Rtype 48)
unfolding types number_read number_behind number_named number_spelled
dnskey_heads = (refl, refl)

pub says_dnskey : {text : List ℕ} → text ≡ codes "DNSKEY" → Heads text (Rtype 48)
says_dnskey is = says (Rtype 48) is dnskey_heads
