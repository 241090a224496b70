-- The last octet of a gap.
use Rattle.std.proofs.Common.{◌≡◌, ℕ, false, List, [], ◌∷◌, ◌++◌, length, refl, sym, ◌∙◌, ap, arith}
use Rattle.dns_scan.specs.Token.{ends_white, is_white}

seam : (rest : List ℕ) (last : ℕ) → ends_white (rest ++ last ∷ []) ≡ is_white last
seam [] last = refl
seam (octet ∷ []) last = refl
seam (octet ∷ next ∷ rest) last = seam (next ∷ rest) last

pub ends_white_last : (octets rest : List ℕ) (last : ℕ) → octets ≡ rest ++ last ∷ [] → is_white last ≡ ends_white octets
ends_white_last octets rest last is = sym (ap ends_white is ∙ seam rest last)

pub ends_white_none : (octets : List ℕ) → length octets ≡ 0 → false ≡ ends_white octets
ends_white_none [] none = refl
ends_white_none (octet ∷ octets) none = absurd (omega arith)
