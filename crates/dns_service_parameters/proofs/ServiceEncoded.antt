-- Values in base 64.
use Rattle.std.proofs.Common.{◌≡◌, ◌≢◌, ◌<◌, ◌++◌, ℕ, List, [], ◌∷◌, refl, sym, ◌∙◌, subst, arith, false}
use Rattle.std.specs.List.{AllByRecursion}
use Rattle.std.specs.Str.{chars, IsAscii, IsNotAscii}
use Rattle.std.proofs.lemmas.Bool.Decides.{nat_tests}
use Rattle.dns_scan.specs.declared.encoding.base.Base.TheVariants.{SixtyFour}
use Rattle.dns_scan.specs.declared.encoding.decode_error.DecodeError.{DecodeError}
use Rattle.dns_scan.specs.declared.encoding.decode_error.DecodeError.TheVariants.{IllegalChar, TrailingInput, ShortInput, ShortBuf}
use Rattle.dns_scan.specs.Base.{IsCharacter, digit_64}
use Rattle.dns_scan.specs.Decoding.{WhyNoText}
use Rattle.dns_scan.specs.Encodings.{Decodes64}
use Rattle.dns_scan.specs.ScanError.{is_want_of_room}
use Rattle.dns_scan.proofs.Decoded.{each_append, replicated}
use Rattle.dns_scan.proofs.Encodings.{Ascii, decodes_one, is_ascii}
use Rattle.dns_service_parameters.specs.declared.form.Form.TheVariants.{Encoded}
use Rattle.dns_service_parameters.specs.Service.{keys, strings, nothing, number, ipv4s, ipv6s, encoded, plain}
use Rattle.dns_service_parameters.specs.ServiceRead.{AppendsValue, SpellsNoValue}

-- the characters of base 64 and its pads are of ASCII
low_64 : (c : ℕ) → digit_64 c < 64 → c < 128
low_64 c small = grind (arith, nat_tests)

each_64 : (text : List ℕ) → AllByRecursion (IsCharacter SixtyFour) text → AllByRecursion Ascii text
each_64 [] each = tt
each_64 (c ∷ text) each = (low_64 c each.0, each_64 text each.1)

ascii_64 : (text octets : List ℕ) → Decodes64 text octets → IsAscii text
ascii_64 text octets is =
    is_ascii text (subst (AllByRecursion Ascii) (sym is.text_of.written)
    (each_append Ascii is.characters _ (each_64 is.characters is.groups.each) (replicated Ascii is.text_of.pads 61 (omega arith))))

-- a text of no value
pub no_encoded : {text : List ℕ} → ((octets : List ℕ) → octets ≢ [] → Decodes64 text octets → ⊥) → SpellsNoValue Encoded text
no_encoded none (keys each) formed fits spells = absurd (cc)
no_encoded none (strings each) formed fits spells = absurd (cc)
no_encoded none nothing formed fits spells = absurd (cc)
no_encoded none (number n) formed fits spells = absurd (cc)
no_encoded none (ipv4s each) formed fits spells = absurd (cc)
no_encoded none (ipv6s each) formed fits spells = absurd (cc)
no_encoded none (encoded octets) formed fits spells = none octets fits spells
no_encoded none (plain octets) formed fits spells = absurd (cc)

pub empty_encoded : {text octets : List ℕ} → Decodes64 text octets → octets ≡ [] → SpellsNoValue Encoded text
empty_encoded {text} {octets} decodes none =
    no_encoded (λ others some also. some (decodes_one SixtyFour text octets others decodes also ∙ none))

pub other_encoded : (text : List ℕ) → (IsAscii text → ⊥) → SpellsNoValue Encoded text
other_encoded text other = no_encoded (λ octets some decodes. other (ascii_64 text octets decodes))

pub not_ascii : (text : List ℕ) → IsNotAscii text → IsAscii text → ⊥
not_ascii text other ascii = let h = ascii other.0 in let g = other.1 in omega (arith, h, g)

-- a text that is refused for what it is
refused : (text : List ℕ) (error : DecodeError) → WhyNoText SixtyFour text error → is_want_of_room error ≡ false → (octets : List ℕ) → Decodes64 text octets
    → ⊥
refused text (IllegalChar c) why other = why.1
refused text TrailingInput why other = why.1
refused text ShortInput why other = why.2
refused text ShortBuf why other = cc

pub refused_encoded : {text : List ℕ} (same : List ℕ) (error : DecodeError) → chars same ≡ text → WhyNoText SixtyFour (chars same) error
    → is_want_of_room error ≡ false → SpellsNoValue Encoded text
refused_encoded same error is why other =
    no_encoded (λ octets some decodes. refused (chars same) error why other octets (subst (λ (l : List ℕ). Decodes64 l octets) (sym is) decodes))

-- the octets of a text that has any
pub encoded_appended : {text old new octets : List ℕ} → Decodes64 text octets → octets ≢ [] → new ≡ old ++ octets → AppendsValue Encoded text old new
encoded_appended {octets = octets} decodes some behind =
    record { value = encoded octets; formed = refl; fits = some; spells = decodes; behind = behind }
