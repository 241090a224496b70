-- Facts on words of salts and hashes: what is written reads as the octets, and as no others.
use Rattle.std.proofs.Common.{◌≡◌, ◌≤◌, ◌<◌, ℕ, List, [], ◌∷◌, length, true, false, arith, refl, sym, subst, inl, inr, ◌∙◌}
use Rattle.std.specs.Char.{digit_value}
use Rattle.std.specs.List.{AllByRecursion}
use Rattle.std.specs.Str.{chars, IsAscii, IsNotAscii}
use Rattle.std.proofs.lemmas.Bool.Decides.{nat_tests}
use Rattle.dns_label.specs.Octets.{AreOctets}
use Rattle.dns_scan.specs.Base.{IsCharacter}
use Rattle.dns_scan.specs.Encodings.{Decodes16, Decodes32}
use Rattle.dns_scan.specs.Decoding.{NoneIs, WhyNoText}
use Rattle.dns_scan.specs.ScanError.{is_want_of_room}
use Rattle.dns_scan.specs.declared.encoding.base.Base.{Base}
use Rattle.dns_scan.specs.declared.encoding.base.Base.TheVariants.{Sixteen, ThirtyTwoHex}
use Rattle.dns_scan.specs.declared.encoding.decode_error.DecodeError.{DecodeError}
use Rattle.dns_scan.specs.declared.encoding.decode_error.DecodeError.TheVariants.{IllegalChar, TrailingInput, ShortInput, ShortBuf}
use Rattle.dns_scan.proofs.Encodings.{Ascii, encoded_decodes, decodes_one, is_ascii}
use Rattle.dns_field_texts.specs.HashWords.{IsCountable, IsSaltWord, IsHashWord, salt_written, hash_written}

-- a text that was refused for what it is, is none of octets
pub refused : (base : Base) (text : List ℕ) (error : DecodeError) → WhyNoText base text error → is_want_of_room error ≡ false
    → NoneIs base text
refused base text (IllegalChar c) why other = why.1
refused base text TrailingInput why other = why.1
refused base text ShortInput why other = why.2
refused base text ShortBuf why other = cc

-- characters of base 16 and 32 are of ASCII
hex_ascii : (c : ℕ) → digit_value c < 32 → c < 128
hex_ascii c small = grind (arith, nat_tests)

each_16 : (text : List ℕ) → AllByRecursion (IsCharacter Sixteen) text → AllByRecursion Ascii text
each_16 [] each = tt
each_16 (c ∷ text) each = (hex_ascii c (omega (arith, each.0)), each_16 text each.1)

each_32 : (text : List ℕ) → AllByRecursion (IsCharacter ThirtyTwoHex) text → AllByRecursion Ascii text
each_32 [] each = tt
each_32 (c ∷ text) each = (hex_ascii c each.0, each_32 text each.1)

pub ascii_16 : (text octets : List ℕ) → Decodes16 text octets → IsAscii text
ascii_16 text octets is =
    let P : List ℕ → Type 0 = λ l. AllByRecursion (IsCharacter Sixteen) l in
    is_ascii text (each_16 text (subst P (sym is.text_of) is.groups.each))

pub ascii_32 : (text octets : List ℕ) → Decodes32 text octets → IsAscii text
ascii_32 text octets is =
    let P : List ℕ → Type 0 = λ l. AllByRecursion (IsCharacter ThirtyTwoHex) l in
    is_ascii text (each_32 text (subst P (sym is.text_of) is.groups.each))

pub not_ascii : (text : List ℕ) → IsNotAscii text → IsAscii text → ⊥
not_ascii text other ascii = let h = ascii other.0 in let g = other.1 in omega (arith, h, g)

-- a text that is refused as characters is none of octets
pub none_decodes : (base : Base) (text same : List ℕ) (error : DecodeError) → chars same ≡ text → WhyNoText base (chars same) error
    → is_want_of_room error ≡ false → NoneIs base text
none_decodes base text same error is why other = subst (NoneIs base) is (refused base (chars same) error why other)

-- a text is of no salt, or of no hash
pub no_salt : (text salt : List ℕ) → (text ≡ 45 ∷ [] → ⊥) → ((octets : List ℕ) → Decodes16 text octets → ⊥) → IsSaltWord text salt → ⊥
no_salt text salt no_minus none (inl is) = no_minus is.minus
no_salt text salt no_minus none (inr is) = none salt is.decodes

pub no_counted_salt : (text octets salt : List ℕ) → (text ≡ 45 ∷ [] → ⊥) → Decodes16 text octets → (IsCountable octets → ⊥) → IsSaltWord text salt → ⊥
no_counted_salt text octets salt no_minus decodes none (inl is) = no_minus is.minus
no_counted_salt text octets salt no_minus decodes none (inr is) =
    none (subst IsCountable (decodes_one Sixteen text octets salt decodes is.decodes) is.countable)

pub no_counted_hash : (text octets hash : List ℕ) → Decodes32 text octets → (IsCountable octets → ⊥) → IsHashWord text hash → ⊥
no_counted_hash text octets hash decodes none is =
    none (subst IsCountable (decodes_one ThirtyTwoHex text octets hash decodes is.decodes) is.countable)

-- what is written of a salt is of it, and what is written of a hash is
pub salt_reads_back : (salt : List ℕ) → AreOctets salt → length salt ≤ 255 → IsSaltWord (salt_written salt) salt
salt_reads_back [] are few = inl (record { minus = refl; none = refl })
salt_reads_back (octet ∷ salt) are few =
    inr (record { decodes = encoded_decodes Sixteen (octet ∷ salt) are; countable = record { some = omega arith; few = few } })

pub hash_reads_back : (hash : List ℕ) → AreOctets hash → IsCountable hash → IsHashWord (hash_written hash) hash
hash_reads_back hash are countable = record { decodes = encoded_decodes ThirtyTwoHex hash are; countable = countable }

-- a word is of one salt, and of one hash
no_minus_16 : (octets : List ℕ) → Decodes16 (45 ∷ []) octets → ⊥
no_minus_16 octets is =
    let P : List ℕ → Type 0 = λ l. AllByRecursion (IsCharacter Sixteen) l in
    let each = subst P (sym is.text_of) is.groups.each in omega (arith, each.0)

minus_16 : (text octets : List ℕ) → text ≡ 45 ∷ [] → Decodes16 text octets → ⊥
minus_16 text octets is decodes = no_minus_16 octets (subst (λ (l : List ℕ). Decodes16 l octets) is decodes)

pub salt_one : (text a b : List ℕ) → IsSaltWord text a → IsSaltWord text b → a ≡ b
salt_one text a b (inl is) (inl also) = is.none ∙ sym also.none
salt_one text a b (inl is) (inr also) = absurd (minus_16 text b is.minus also.decodes)
salt_one text a b (inr is) (inl also) = absurd (minus_16 text a also.minus is.decodes)
salt_one text a b (inr is) (inr also) = decodes_one Sixteen text b a also.decodes is.decodes

pub hash_one : (text a b : List ℕ) → IsHashWord text a → IsHashWord text b → a ≡ b
hash_one text a b is also = decodes_one ThirtyTwoHex text b a also.decodes is.decodes

pub false_true : false ≡ true → ⊥
false_true is = cc
