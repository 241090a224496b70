-- What octets begin with: lists of one length, and numbers.
use Rattle.std.proofs.Common.{◌≡◌, ℕ, ◌<◌, ◌^◌, List, [], ◌∷◌, ◌++◌, length, refl, sym, ap, ◌∙◌, arith}
use Rattle.std.specs.Int.{to_be_bytes, from_be_bytes, w16, w32}
use Rattle.std.proofs.lemmas.Nat.{from_be_bytes-to_be_bytes_2, from_be_bytes-to_be_bytes_4}

-- fronts of one length, with something after each
pub same_fronts : {X : Type 0} (a b more rest : List X) → length a ≡ length b → a ++ more ≡ b ++ rest → (a ≡ b) × (more ≡ rest)
same_fronts [] [] more rest long e = (refl, e)
same_fronts [] (y ∷ b) more rest long e = absurd (omega arith)
same_fronts (x ∷ a) [] more rest long e = absurd (omega arith)
same_fronts (x ∷ a) (y ∷ b) more rest long e =
    let heads : x ≡ y = cc in
    let tails = same_fronts a b more rest (omega arith) cc in
    (cc (heads, tails.0), tails.1)

-- two octets say one number, and so do four
pub same_number16 : (m n : ℕ) → m < 2 ^ 16 → n < 2 ^ 16 → to_be_bytes w16 m ≡ to_be_bytes w16 n → m ≡ n
same_number16 m n small small' e =
    sym (from_be_bytes-to_be_bytes_2 m small) ∙ ap (from_be_bytes w16) e ∙ from_be_bytes-to_be_bytes_2 n small'

pub same_number32 : (m n : ℕ) → m < 2 ^ 32 → n < 2 ^ 32 → to_be_bytes w32 m ≡ to_be_bytes w32 n → m ≡ n
same_number32 m n small small' e =
    sym (from_be_bytes-to_be_bytes_4 m small) ∙ ap (from_be_bytes w32) e ∙ from_be_bytes-to_be_bytes_4 n small'
