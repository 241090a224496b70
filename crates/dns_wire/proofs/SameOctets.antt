-- Octets that are compared by words of eight.
use Rattle.std.proofs.Common.{◌≡◌, ◌+◌, ◌<◌, ◌≤◌, ◌^◌, ◌∷◌, [], ◌∙◌, ℕ, zero, suc, List, length, take, drop, get_or, ap, sym, arith}
use Rattle.std.specs.Int.{from_le_bytes, to_le_bytes, w64}
use Rattle.std.proofs.Math.Seq.{take-add}
use Rattle.std.proofs.lemmas.List.{length-drop, take-append-drop, take-take, take_all}
use Rattle.std.proofs.lemmas.Nat.{from_le_bytes-to_le_bytes_8}

-- octets whose first words are the same, and their next one
pub word_more : (a b : List ℕ) (place n m : ℕ) → take place a ≡ take place b → n ≡ m
    → to_le_bytes w64 n ≡ take 8 (drop place a) → to_le_bytes w64 m ≡ take 8 (drop place b) → take (place + 8) a ≡ take (place + 8) b
word_more a b place n m front same is other =
    let next : take 8 (drop place a) ≡ take 8 (drop place b) = sym is ∙ ap (to_le_bytes w64) same ∙ other in
    let whole = take-add place 8 a in
    let other_whole = take-add place 8 b in
    cc

-- the same octets have the same words
pub same_words : (a b : List ℕ) (place n m : ℕ) → n < 2 ^ 64 → m < 2 ^ 64 → a ≡ b
    → to_le_bytes w64 n ≡ take 8 (drop place a) → to_le_bytes w64 m ≡ take 8 (drop place b) → n ≡ m
same_words a b place n m n_fits m_fits same is other =
    sym (from_le_bytes-to_le_bytes_8 n n_fits)
    ∙ ap (from_le_bytes w64) (is ∙ ap (λ (l : List ℕ). take 8 (drop place l)) same ∙ sym other)
    ∙ from_le_bytes-to_le_bytes_8 m m_fits

-- octets whose words up to the last are the same, and the last eight octets
pub words_whole : (a b : List ℕ) (place last n m : ℕ) → take place a ≡ take place b → last ≤ place → length a ≡ last + 8
    → length b ≡ last + 8 → n ≡ m
    → to_le_bytes w64 n ≡ take 8 (drop last a) → to_le_bytes w64 m ≡ take 8 (drop last b) → a ≡ b
words_whole a b place last n m front within long other_long same is other =
    let all : take 8 (drop last a) ≡ drop last a = take_all 8 (drop last a) (omega (arith, length-drop last a)) in
    let other_all : take 8 (drop last b) ≡ drop last b = take_all 8 (drop last b) (omega (arith, length-drop last b)) in
    let back : drop last a ≡ drop last b = sym all ∙ sym is ∙ ap (to_le_bytes w64) same ∙ other ∙ other_all in
    let begin : take last a ≡ take last b = sym (take-take last place a within) ∙ ap (take last) front ∙ take-take last place b within in
    let whole = take-append-drop last a in
    let other_whole = take-append-drop last b in
    cc

-- a part of octets is made of octets
take_fits : (n : ℕ) (octets : List ℕ) → ((i : ℕ) → get_or octets i 0 < 256) → (i : ℕ) → get_or (take n octets) i 0 < 256
take_fits zero octets fit i = omega arith
take_fits (suc n) [] fit i = omega arith
take_fits (suc n) (octet ∷ octets) fit zero = fit zero
take_fits (suc n) (octet ∷ octets) fit (suc i) = take_fits n octets (λ k. fit (suc k)) i

drop_fits : (n : ℕ) (octets : List ℕ) → ((i : ℕ) → get_or octets i 0 < 256) → (i : ℕ) → get_or (drop n octets) i 0 < 256
drop_fits zero octets fit i = fit i
drop_fits (suc n) [] fit i = omega arith
drop_fits (suc n) (octet ∷ octets) fit i = drop_fits n octets (λ k. fit (suc k)) i

pub word_fits : (place : ℕ) (octets : List ℕ) → ((i : ℕ) → get_or octets i 0 < 256) → (i : ℕ) → get_or (take 8 (drop place octets)) i 0 < 256
word_fits place octets fit = take_fits 8 (drop place octets) (drop_fits place octets fit)
