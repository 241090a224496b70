-- The general form of data, by its parts.
use Rattle.std.proofs.Common.{◌≡◌, ◌++◌, ℕ, List, [], ◌∷◌, length, decimal, refl, sym, ap, append_assoc, Result, Ok, Err, OnOk}
use Rattle.dns_label.specs.Octets.{AreOctets}
use Rattle.dns_name.specs.UnknownText.{unknown_text}
use Rattle.dns_scan.specs.Encodings.{encoded_16}
use Rattle.dns_scan.proofs.HexWords.{hex_encoded}

-- without octets, and with some
pub form_none : (octets : List ℕ) → octets ≡ [] → unknown_text octets ≡ (92 ∷ 35 ∷ 32 ∷ []) ++ decimal (length octets)
form_none [] is = refl
form_none (octet ∷ octets) is = absurd cc

pub form_some : (octets : List ℕ) → (octets ≡ [] → ⊥) → AreOctets octets
    → unknown_text octets ≡ ((92 ∷ 35 ∷ 32 ∷ []) ++ decimal (length octets)) ++ 32 ∷ encoded_16 octets
form_some [] some are = absurd (some refl)
form_some (octet ∷ octets) some are =
    ap (λ l. ((92 ∷ 35 ∷ 32 ∷ []) ++ decimal (length (octet ∷ octets))) ++ 32 ∷ l) (sym (hex_encoded (octet ∷ octets) are))

pub joined : (text mark number digits : List ℕ) → (((text ++ mark) ++ number) ++ 32 ∷ []) ++ digits ≡ text ++ ((mark ++ number) ++ 32 ∷ digits)
joined text mark number digits = simp append_assoc

-- what follows from what holds on success
pub on_ok : {T E P Q : Type 0} (result : Result T E) → (P → Q) → OnOk result P → OnOk result Q
on_ok (Ok value) follows holds = follows holds
on_ok (Err error) follows holds = tt
