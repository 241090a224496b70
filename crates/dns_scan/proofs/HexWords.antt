-- Octets in base 16, by their bits and by the digits of each.
use Rattle.std.proofs.Common.{◌≡◌, ℕ, ◌/◌, ◌%◌, ◌<◌, zero, suc, true, List, [], ◌∷◌, take, drop, get_or, ◌∙◌, ap, refl, arith, append-nil}
use Rattle.std.specs.Fmt.{digit_glyph}
use Rattle.dns_label.specs.Octets.{AreOctets}
use Rattle.dns_name.specs.UnknownText.{hex_of}
use Rattle.dns_scan.specs.declared.encoding.base.Base.TheVariants.{Sixteen}
use Rattle.dns_scan.specs.Bits.{bits, number_of}
use Rattle.dns_scan.specs.Base.{characters_of}
use Rattle.dns_scan.specs.Encodings.{encoded_16}

-- one octet has two characters
octet_characters : (octet : ℕ) (octets : List ℕ) → octet < 256
    → characters_of Sixteen (octet ∷ octets) ≡ digit_glyph true (octet / 16) ∷ digit_glyph true (octet % 16) ∷ characters_of Sixteen octets
unfolding bits
octet_characters octet octets small =
    let high : number_of (octet / 2 / 2 / 2 / 2 / 2 / 2 / 2 % 2 ∷ octet / 2 / 2 / 2 / 2 / 2 / 2 % 2 ∷ octet / 2 / 2 / 2 / 2 / 2 % 2 ∷ octet / 2 / 2 / 2 / 2 % 2 ∷ []) ≡ octet / 16 = omega (arith, small) in
    let low : number_of (octet / 2 / 2 / 2 % 2 ∷ octet / 2 / 2 % 2 ∷ octet / 2 % 2 ∷ octet % 2 ∷ []) ≡ octet % 16 = omega (arith, small) in
    (λ i. digit_glyph true (high i) ∷ digit_glyph true (low i) ∷ characters_of Sixteen octets)

hex_characters : (octets : List ℕ) → AreOctets octets → characters_of Sixteen octets ≡ hex_of octets
hex_characters [] are = refl
hex_characters (octet ∷ octets) are =
    octet_characters octet octets are.0
    ∙ ap (λ l. digit_glyph true (octet / 16) ∷ digit_glyph true (octet % 16) ∷ l) (hex_characters octets are.1)

pub hex_encoded : (octets : List ℕ) → AreOctets octets → encoded_16 octets ≡ hex_of octets
hex_encoded octets are = append-nil (characters_of Sixteen octets) ∙ hex_characters octets are

-- octets place by place
pub octets_by_place : (octets : List ℕ) → ((i : ℕ) → get_or octets i 0 < 256) → AreOctets octets
octets_by_place [] each = tt
octets_by_place (octet ∷ octets) each = (each 0, octets_by_place octets (λ i. each (suc i)))

-- the first octets, and the others
pub are_taken : (n : ℕ) (octets : List ℕ) → AreOctets octets → AreOctets (take n octets)
are_taken zero octets are = tt
are_taken (suc n) [] are = tt
are_taken (suc n) (octet ∷ octets) are = (are.0, are_taken n octets are.1)

pub are_dropped : (n : ℕ) (octets : List ℕ) → AreOctets octets → AreOctets (drop n octets)
are_dropped zero octets are = are
are_dropped (suc n) [] are = tt
are_dropped (suc n) (octet ∷ octets) are = are_dropped n octets are.1
