-- Numbers and their octets: each gives the other back.
use Rattle.std.proofs.Common.{◌≡◌, ◌<◌, ◌^◌, ℕ, ℤ, List, [], ◌∷◌, length, get_or, w8, w16, w32, w64, ap, ◌∙◌, arith}
use Rattle.std.specs.Int.{to_be_bytes, from_be_bytes, cast_signed, cast_unsigned}
use Rattle.std.specs.Prelude.{slice_index}
use Rattle.std.proofs.lemmas.Int.{of_z-to_z}
use Rattle.std.proofs.lemmas.Nat.{be_bytes_2, be_bytes_4, be_bytes_8, from_be_bytes-to_be_bytes_2, from_be_bytes-to_be_bytes_4, from_be_bytes-to_be_bytes_8}

pub signed_1 : (octets : List ℕ) (read : ℤ) → length octets ≡ 1 → ((i : ℕ) → get_or octets i 0 < 256)
    → read ≡ cast_signed w8 (slice_index octets 0) → cast_unsigned w8 read ∷ [] ≡ octets
signed_1 (a ∷ []) read len fits e = ap (λ n. n ∷ []) (ap (cast_unsigned w8) e ∙ of_z-to_z w8 a (fits 0))
signed_1 [] read len fits e = absurd (omega arith)
signed_1 (a ∷ b ∷ rest) read len fits e = absurd (omega arith)

pub signed_2 : (octets : List ℕ) (read : ℤ) → length octets ≡ 2 → ((i : ℕ) → get_or octets i 0 < 256)
    → read ≡ cast_signed w16 (from_be_bytes w16 octets) → to_be_bytes w16 (cast_unsigned w16 read) ≡ octets
signed_2 octets read len fits e =
    let small : from_be_bytes w16 octets < 2 ^ 16 = omega (arith, fits 0, fits 1) in
    be_bytes_2 octets (cast_unsigned w16 read) len fits (ap (cast_unsigned w16) e ∙ of_z-to_z w16 _ small)

pub signed_4 : (octets : List ℕ) (read : ℤ) → length octets ≡ 4 → ((i : ℕ) → get_or octets i 0 < 256)
    → read ≡ cast_signed w32 (from_be_bytes w32 octets) → to_be_bytes w32 (cast_unsigned w32 read) ≡ octets
signed_4 octets read len fits e =
    let small : from_be_bytes w32 octets < 2 ^ 32 = omega (arith, fits 0, fits 1, fits 2, fits 3) in
    be_bytes_4 octets (cast_unsigned w32 read) len fits (ap (cast_unsigned w32) e ∙ of_z-to_z w32 _ small)

pub signed_8 : (octets : List ℕ) (read : ℤ) → length octets ≡ 8 → ((i : ℕ) → get_or octets i 0 < 256)
    → read ≡ cast_signed w64 (from_be_bytes w64 octets) → to_be_bytes w64 (cast_unsigned w64 read) ≡ octets
signed_8 octets read len fits e =
    let small : from_be_bytes w64 octets < 2 ^ 64 =
    omega (arith, fits 0, fits 1, fits 2, fits 3, fits 4, fits 5, fits 6, fits 7) in
    be_bytes_8 octets (cast_unsigned w64 read) len fits (ap (cast_unsigned w64) e ∙ of_z-to_z w64 _ small)

pub ruleset both_ways = (be_bytes_2, be_bytes_4, be_bytes_8, from_be_bytes-to_be_bytes_2, from_be_bytes-to_be_bytes_4, from_be_bytes-to_be_bytes_8, signed_1, signed_2, signed_4, signed_8)
