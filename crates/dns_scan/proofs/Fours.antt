-- Octets in base 64, three by three.
use Rattle.std.proofs.Common.{◌≡◌, ℕ, ◌+◌, ◌*◌, ◌/◌, ◌%◌, ◌<◌, ◌≤◌, zero, suc, List, [], ◌∷◌, ◌++◌, length, map, take, get_or, slice_set, refl, sym, ◌∙◌, ap, arith, append_assoc, length-append}
use Rattle.std.specs.List.{AllByRecursion}
use Rattle.std.specs.Str.{IsAscii, IsUtf8}
use Rattle.std.proofs.lemmas.List.{length-set, length-take-le, take_more, take_more_set}
use Rattle.std.proofs.lemmas.Str.{IsUtf8-from_ascii}
use Rattle.std.proofs.lemmas.Bool.Decides.{nat_tests}
use Rattle.dns_label.specs.Octets.{AreOctets}
use Rattle.dns_scan.specs.Bits.{bits, number_of}
use Rattle.dns_scan.specs.Base.{character, character_64, characters_of, encoded, padding}
use Rattle.dns_scan.specs.declared.encoding.base.Base.TheVariants.{SixtyFour}
use Rattle.dns_scan.proofs.HexWords.{are_taken}
use Rattle.dns_scan.proofs.Numbers.{numbers_small}

-- the characters of three octets
abbrev pub four_of : ℕ → ℕ → ℕ → List ℕ
four_of a b c =
    character_64 (a / 4) ∷ character_64 (a % 4 * 16 + b / 16) ∷ character_64 (b % 16 * 4 + c / 64) ∷ character_64 (c % 64) ∷ []

-- the first three octets have four characters of their own
pub three_first : (a b c : ℕ) (octets : List ℕ) → a < 256 → b < 256 → c < 256
    → characters_of SixtyFour (a ∷ b ∷ c ∷ octets) ≡ four_of a b c ++ characters_of SixtyFour octets
unfolding bits
three_first a b c octets one two three =
    let first : number_of (a / 2 / 2 / 2 / 2 / 2 / 2 / 2 % 2 ∷ a / 2 / 2 / 2 / 2 / 2 / 2 % 2 ∷ a / 2 / 2 / 2 / 2 / 2 % 2 ∷ a / 2 / 2 / 2 / 2 % 2 ∷ a / 2 / 2 / 2 % 2 ∷ a / 2 / 2 % 2 ∷ []) ≡ a / 4 = omega (arith, one) in
    let second : number_of (a / 2 % 2 ∷ a % 2 ∷ b / 2 / 2 / 2 / 2 / 2 / 2 / 2 % 2 ∷ b / 2 / 2 / 2 / 2 / 2 / 2 % 2 ∷ b / 2 / 2 / 2 / 2 / 2 % 2 ∷ b / 2 / 2 / 2 / 2 % 2 ∷ []) ≡ a % 4 * 16 + b / 16 = omega (arith, two) in
    let third : number_of (b / 2 / 2 / 2 % 2 ∷ b / 2 / 2 % 2 ∷ b / 2 % 2 ∷ b % 2 ∷ c / 2 / 2 / 2 / 2 / 2 / 2 / 2 % 2 ∷ c / 2 / 2 / 2 / 2 / 2 / 2 % 2 ∷ []) ≡ b % 16 * 4 + c / 64 = omega (arith, three) in
    let fourth : number_of (c / 2 / 2 / 2 / 2 / 2 % 2 ∷ c / 2 / 2 / 2 / 2 % 2 ∷ c / 2 / 2 / 2 % 2 ∷ c / 2 / 2 % 2 ∷ c / 2 % 2 ∷ c % 2 ∷ []) ≡ c % 64 = omega (arith, three) in
    (λ i. character_64 (first i) ∷ character_64 (second i) ∷ character_64 (third i) ∷ character_64 (fourth i) ∷ characters_of SixtyFour octets)

-- whole threes, and what is behind them
pub threes_join : (count : ℕ) (front rest : List ℕ) → length front ≡ 3 * count → AreOctets front
    → characters_of SixtyFour (front ++ rest) ≡ characters_of SixtyFour front ++ characters_of SixtyFour rest
threes_join zero [] rest whole are = refl
threes_join zero (a ∷ front) rest whole are = absurd (omega (arith, whole))
threes_join (suc count) [] rest whole are = absurd (omega (arith, whole))
threes_join (suc count) (a ∷ []) rest whole are = absurd (omega (arith, whole))
threes_join (suc count) (a ∷ b ∷ []) rest whole are = absurd (omega (arith, whole))
threes_join (suc count) (a ∷ b ∷ c ∷ front) rest whole are =
    three_first a b c (front ++ rest) are.0 are.1.0 are.1.1.0
    ∙ ap (λ l. four_of a b c ++ l) (threes_join count front rest (omega (arith, whole)) are.1.1.1)
    ∙ sym (ap (λ l. l ++ characters_of SixtyFour rest) (three_first a b c front are.0 are.1.0 are.1.1.0))

pub length-threes : (count : ℕ) (front : List ℕ) → length front ≡ 3 * count → AreOctets front
    → length (characters_of SixtyFour front) ≡ 4 * count
length-threes zero [] whole are = refl
length-threes zero (a ∷ front) whole are = absurd (omega (arith, whole))
length-threes (suc count) [] whole are = absurd (omega (arith, whole))
length-threes (suc count) (a ∷ []) whole are = absurd (omega (arith, whole))
length-threes (suc count) (a ∷ b ∷ []) whole are = absurd (omega (arith, whole))
length-threes (suc count) (a ∷ b ∷ c ∷ front) whole are =
    let one = ap (length {A = ℕ}) (three_first a b c front are.0 are.1.0 are.1.1.0) in
    omega (arith, one, length-threes count front (omega (arith, whole)) are.1.1.1)

-- the text of whole threes, and that of what is behind them
pub encoded_join : (count : ℕ) (front rest : List ℕ) → length front ≡ 3 * count → AreOctets front
    → characters_of SixtyFour front ++ encoded SixtyFour rest ≡ encoded SixtyFour (front ++ rest)
encoded_join count front rest whole are =
    let chars = characters_of SixtyFour front in
    let behind = characters_of SixtyFour rest in
    let long = length-threes count front whole are in
    let pads : length behind % 4 ≡ length (chars ++ behind) % 4 = omega (arith, long, length-append chars behind) in
    sym (append_assoc chars behind (padding SixtyFour (length behind % 4)))
    ∙ ap (λ n. (chars ++ behind) ++ padding SixtyFour n) pads
    ∙ ap (λ l. l ++ padding SixtyFour (length l % 4)) (sym (threes_join count front rest whole are))

are_at : (octets : List ℕ) (i : ℕ) → AreOctets octets → get_or octets i 0 < 256
are_at [] i are = omega arith
are_at (octet ∷ octets) zero are = omega (arith, are.0)
are_at (octet ∷ octets) (suc i) are = are_at octets i are.1

-- three more octets
taken_more : (octets : List ℕ) (n : ℕ) → n + 3 ≤ length octets
    → take (n + 3) octets ≡ take n octets ++ get_or octets n 0 ∷ get_or octets (n + 1) 0 ∷ get_or octets (n + 2) 0 ∷ []
taken_more octets n within =
    ap (λ k. take k octets) (omega arith) ∙ take_more octets (n + 2) 0 (omega (arith, within))
    ∙ ap (λ l. l ++ get_or octets (n + 2) 0 ∷ [])
    (ap (λ k. take k octets) (omega arith) ∙ take_more octets (n + 1) 0 (omega (arith, within))
    ∙ ap (λ l. l ++ get_or octets (n + 1) 0 ∷ []) (take_more octets n 0 (omega (arith, within))))
    ∙ simp append_assoc

three_more : (octets : List ℕ) (index : ℕ) → 3 * index + 3 ≤ length octets → AreOctets octets
    → characters_of SixtyFour (take (3 * (index + 1)) octets)
    ≡ characters_of SixtyFour (take (3 * index) octets) ++ four_of (get_or octets (3 * index) 0) (get_or octets (3 * index + 1) 0) (get_or octets (3 * index + 2) 0)
three_more octets index within are =
    let n = 3 * index in
    let front = take n octets in
    let a = get_or octets n 0 in
    let b = get_or octets (n + 1) 0 in
    let c = get_or octets (n + 2) 0 in
    ap (λ k. characters_of SixtyFour (take k octets)) (omega arith)
    ∙ ap (characters_of SixtyFour) (taken_more octets n within)
    ∙ threes_join index front (a ∷ b ∷ c ∷ []) (length-take-le n octets (omega (arith, within))) (are_taken n octets are)
    ∙ ap (λ l. characters_of SixtyFour front ++ l) (three_first a b c [] (are_at octets n are) (are_at octets (n + 1) are) (are_at octets (n + 2) are))

-- one more character is put
put_one : (xs front : List ℕ) (n next y : ℕ) → next ≡ n + 1 → n < length xs → take n xs ≡ front → take next (slice_set xs n y) ≡ front ++ y ∷ []
put_one xs front n next y is_next room is =
    ap (λ k. take k (slice_set xs n y)) is_next ∙ take_more_set xs n y room ∙ ap (λ l. l ++ y ∷ []) is

-- four more characters are put for three octets
pub four_put : (xs octets : List ℕ) (index n a b c d : ℕ) → n ≡ 4 * index → n + 4 ≤ length xs → 3 * index + 3 ≤ length octets → AreOctets octets
    → (a ∷ b ∷ c ∷ d ∷ []) ≡ four_of (get_or octets (3 * index) 0) (get_or octets (3 * index + 1) 0) (get_or octets (3 * index + 2) 0)
    → take n xs ≡ characters_of SixtyFour (take (3 * index) octets)
    → take (4 * (index + 1)) (slice_set (slice_set (slice_set (slice_set xs n a) (n + 1) b) (n + 2) c) (n + 3) d)
    ≡ characters_of SixtyFour (take (3 * (index + 1)) octets)
four_put xs octets index n a b c d at room within are four before =
    let front = characters_of SixtyFour (take (3 * index) octets) in
    let s1 = slice_set xs n a in
    let s2 = slice_set s1 (n + 1) b in
    let s3 = slice_set s2 (n + 2) c in
    let one = length-set xs n a in
    let two = length-set s1 (n + 1) b in
    let three = length-set s2 (n + 2) c in
    put_one s3 _ (n + 3) (4 * (index + 1)) d (omega (arith, at)) (omega (arith, one, two, three, room))
    (put_one s2 _ (n + 2) (n + 3) c (omega arith) (omega (arith, one, two, room))
    (put_one s1 _ (n + 1) (n + 2) b (omega arith) (omega (arith, one, room))
    (put_one xs front n (n + 1) a (omega arith) (omega (arith, room)) before)))
    ∙ joined front ∙ ap (λ l. front ++ l) four ∙ sym (three_more octets index within are)
  where
    joined : (front : List ℕ) → (((front ++ a ∷ []) ++ b ∷ []) ++ c ∷ []) ++ d ∷ [] ≡ front ++ a ∷ b ∷ c ∷ d ∷ []
    joined front = simp append_assoc

-- the characters are ASCII
glyph_small : (n : ℕ) → n < 64 → character_64 n < 128
glyph_small n small = grind (arith, nat_tests, small)

glyphs_ascii : (numbers : List ℕ) → AllByRecursion (λ n. n < 64) numbers → IsAscii (map (character SixtyFour) numbers)
glyphs_ascii [] each i = omega arith
glyphs_ascii (n ∷ numbers) each zero = glyph_small n each.0
glyphs_ascii (n ∷ numbers) each (suc i) = glyphs_ascii numbers each.1 i

pub characters_utf8 : (octets : List ℕ) → IsUtf8 (characters_of SixtyFour octets)
characters_utf8 octets = IsUtf8-from_ascii _ (glyphs_ascii _ (numbers_small SixtyFour octets))
