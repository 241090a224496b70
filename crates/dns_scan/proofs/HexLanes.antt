-- Vectors of numbers below 16, and their hexadecimal digits lane by lane.
use Rattle.std.proofs.Common.{◌≡◌, ◌+◌, ◌-◌, ◌*◌, ◌%◌, ◌/◌, ◌<◌, ◌≤◌, ◌++◌, ℕ, zero, suc, true, cond, List, [], ◌∷◌, nat_lt, map, length, take, drop, refl, sym, ◌∙◌, ap, subst, arith}
use Rattle.std.specs.Fmt.{digit_glyph}
use Rattle.std.specs.List.{AllByRecursion}
use Rattle.std.specs.Str.{IsAscii, IsUtf8}
use Rattle.std.proofs.lemmas.Str.{IsUtf8-from_ascii}
use Rattle.dns_label.specs.Octets.{AreOctets}
use Rattle.std.proofs.lemmas.Bool.Decides.{nat_tests}
use Rattle.std.proofs.lemmas.Grind.{flat_map-append}
use Rattle.std.proofs.lemmas.List.{length-take-le, length-drop, take-take, take_all, take_at}
use Rattle.std.proofs.lemmas.Slice.{take-put_mid}
use Rattle.std.proofs.Math.Seq.{take-add}
use Rattle.dns_name.specs.UnknownText.{hex_of}
use Rattle.dns_scan.specs.Base.{IsHexNumber}
use lib.Lanes.{zip2, sel_l, top}
use lib.ListN.{replicate}
use borrow.Rule.Slice.PartMut.{put_mid}

abbrev mark : ℕ → ℕ → ℕ
mark a b = cond (nat_lt a b) 255 0

abbrev plus : ℕ → ℕ → ℕ
plus a b = (a + b) % 256

-- one lane
abbrev lane : ℕ → ℕ
lane n = cond (top 7 (mark n 10)) (plus n 48) (plus n 55)

abbrev lanes : ℕ → List ℕ → List ℕ
lanes n numbers =
    sel_l (map (top 7) (zip2 mark numbers (replicate n 10))) (zip2 plus numbers (replicate n 48)) (zip2 plus numbers (replicate n 55))

lane_ok : (n : ℕ) → n < 16 → lane n ≡ digit_glyph true n
lane_ok n small = grind (arith, nat_tests, small)

all_ok : (numbers : List ℕ) → AllByRecursion IsHexNumber numbers → lanes (length numbers) numbers ≡ map (digit_glyph true) numbers
all_ok [] are = refl
all_ok (number ∷ numbers) are =
    let one = lane_ok number are.0 in
    let behind = all_ok numbers are.1 in λ i. one i ∷ behind i

pub sixteen_ok : (numbers : List ℕ) → length numbers ≡ 16 → AllByRecursion IsHexNumber numbers → lanes 16 numbers ≡ map (digit_glyph true) numbers
sixteen_ok numbers long are = subst (λ (n : ℕ). lanes n numbers ≡ map (digit_glyph true) numbers) long (all_ok numbers are)

-- the digits of one octet
abbrev pair_of : ℕ → List ℕ
pair_of octet = digit_glyph true (octet / 16) ∷ digit_glyph true (octet % 16) ∷ []

length-hex : (octets : List ℕ) → length (hex_of octets) ≡ 2 * length octets
length-hex [] = refl
length-hex (octet ∷ octets) = let behind = length-hex octets in omega (arith, behind)

-- sixteen more octets are written
pub piece_written : (digits octets new : List ℕ) (at size : ℕ) → at + 16 ≤ length octets → 2 * at ≤ length digits
    → take (2 * at) digits ≡ hex_of (take at octets) → new ≡ hex_of (take 16 (drop at octets))
    → take (2 * (at + 16)) (put_mid (2 * at) size digits new) ≡ hex_of (take (at + 16) octets)
piece_written digits octets new at size within room before is =
    let long : length new ≡ 2 * length (take 16 (drop at octets)) = ap (λ (l : List ℕ). length l) is ∙ length-hex (take 16 (drop at octets)) in
    let left : length (drop at octets) ≡ length octets - at = length-drop at octets in
    let all : length (take 16 (drop at octets)) ≡ 16 = length-take-le 16 (drop at octets) (omega (arith, left, within)) in
    take-put_mid (2 * at) size digits new (2 * (at + 16)) (omega (arith, long, all)) room
    ∙ (λ i. before i ++ is i) ∙ sym (ap hex_of (take-add at 16 octets) ∙ flat_map-append pair_of (take at octets) (take 16 (drop at octets)))

-- what is written for some octets begins with what is written for the first ones of them
fewer_written : (digits octets : List ℕ) (less more : ℕ) → less ≤ more → more ≤ length octets → take (2 * more) digits ≡ hex_of (take more octets)
    → take (2 * less) digits ≡ hex_of (take less octets)
fewer_written digits octets less more order within before =
    let front = take less octets in
    let others = take (more - less) (drop less octets) in
    let whole : less + (more - less) ≡ more = omega (arith, order) in
    let long : length (hex_of front) ≡ 2 * less = length-hex front ∙ ap (λ (n : ℕ). 2 * n) (length-take-le less octets (omega (arith, order, within))) in
    let parts : hex_of (take more octets) ≡ hex_of front ++ hex_of others = ap (λ (n : ℕ). hex_of (take n octets)) (sym whole)
    ∙ ap hex_of (take-add less (more - less) octets) ∙ flat_map-append pair_of front others in
    sym (take-take (2 * less) (2 * more) digits (omega (arith, order))) ∙ ap (take (2 * less)) (before ∙ parts)
    ∙ take_at (hex_of front) (hex_of others) (2 * less) long

-- the last sixteen octets are written, where at most those are not yet
pub last_written : (digits octets new : List ℕ) (at size : ℕ) → at ≤ length octets → 16 ≤ length octets → length octets ≤ at + 16
    → 2 * length octets ≤ length digits → take (2 * at) digits ≡ hex_of (take at octets)
    → new ≡ hex_of (take 16 (drop (length octets - 16) octets))
    → take (2 * length octets) (put_mid (2 * (length octets - 16)) size digits new) ≡ hex_of octets
last_written digits octets new at size within enough few room before is =
    let last = length octets - 16 in
    let all : last + 16 ≡ length octets = omega (arith, enough) in
    let so_far = fewer_written digits octets last at (omega (arith, few)) within before in
    let written = piece_written digits octets new last size (omega (arith, enough)) (omega (arith, room)) so_far is in
    subst (λ (n : ℕ). take (2 * n) (put_mid (2 * last) size digits new) ≡ hex_of (take n octets)) all written
    ∙ ap hex_of (take_all (length octets) octets (omega arith))

-- the digits are ASCII
glyph_small : (n : ℕ) → n < 16 → digit_glyph true n < 128
glyph_small n small = grind (arith, nat_tests, small)

hex_ascii : (octets : List ℕ) → AreOctets octets → IsAscii (hex_of octets)
hex_ascii [] are i = omega arith
hex_ascii (octet ∷ octets) are zero = glyph_small (octet / 16) (omega (arith, are.0))
hex_ascii (octet ∷ octets) are (suc zero) = glyph_small (octet % 16) (omega arith)
hex_ascii (octet ∷ octets) are (suc (suc i)) = hex_ascii octets are.1 i

pub hex_utf8 : (octets : List ℕ) → AreOctets octets → IsUtf8 (hex_of octets)
hex_utf8 octets are = IsUtf8-from_ascii (hex_of octets) (hex_ascii octets are)

pub hex_parts : (front rest : List ℕ) → hex_of (front ++ rest) ≡ hex_of front ++ hex_of rest
hex_parts front rest = flat_map-append pair_of front rest
