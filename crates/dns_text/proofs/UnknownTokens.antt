-- The tokens of unknown data as they are written one after another.
use Rattle.std.proofs.Common.{◌≡◌, ◌<◌, ℕ, suc, List, [], ◌∷◌, length, decimal, ap, arith}
use Rattle.dns_label.specs.Octets.{AreOctets}
use Rattle.dns_scan.specs.Encodings.{encoded_16}
use Rattle.dns_scan.proofs.HexWords.{hex_encoded}
use Rattle.dns_text.specs.Document.Piece.{Token}
use Rattle.dns_text.specs.Documents.{unknown_tokens}

pub tokens_more : (octets : List ℕ) → 0 < length octets → AreOctets octets
    → Token (92 ∷ 35 ∷ []) ∷ Token (decimal (length octets)) ∷ Token (encoded_16 octets) ∷ [] ≡ unknown_tokens octets
tokens_more [] some are = absurd (omega (arith, some))
tokens_more (octet ∷ octets) some are =
    ap (λ (word : List ℕ). Token (92 ∷ 35 ∷ []) ∷ Token (decimal (suc (length octets))) ∷ Token word ∷ []) (hex_encoded (octet ∷ octets) are)
