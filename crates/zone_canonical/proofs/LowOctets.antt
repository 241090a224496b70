-- Octets in lower case, in two blocks that may overlap.
use Rattle.std.proofs.Common.{◌≡◌, ◌≤◌, ◌+◌, ◌-◌, ℕ, List, [], ◌∷◌, ◌++◌, length, take, drop, map, refl, sym, ap, ◌∙◌, arith, append_assoc, length-append}
use borrow.Rule.Slice.PartMut.{put_mid}
use Rattle.std.specs.Char.{to_ascii_lowercase}
use Rattle.std.proofs.lemmas.Str.Ascii.{lowercase-lowercase}
use Rattle.std.proofs.lemmas.List.{drop-drop, drop_at, length-drop, length-map, length-take-le, map-append, take-append-drop, take_at}

abbrev lower : List ℕ → List ℕ
lower = map to_ascii_lowercase

text_low : (text : List ℕ) → lower (lower text) ≡ lower text
text_low [] = refl
text_low (octet ∷ text) = λ i. lowercase-lowercase octet i ∷ text_low text i

-- a list with a part of it in lower case
abbrev part_lowered : ℕ → ℕ → List ℕ → List ℕ
part_lowered back size xs = put_mid back size xs (lower (take size (drop back xs)))

low_pieces : (p q r s : List ℕ) (back size : ℕ) → length p ≡ back → length (q ++ r) ≡ size
    → part_lowered back size (lower (p ++ q) ++ (r ++ s)) ≡ lower (p ++ (q ++ r)) ++ s
low_pieces p q r s back size back_is size_is =
    let mid = lower q ++ r in
    let whole : lower (p ++ q) ++ (r ++ s) ≡ lower p ++ (mid ++ s) =
    ap (λ l. l ++ (r ++ s)) (map-append to_ascii_lowercase p q) ∙ append_assoc (lower p) (lower q) (r ++ s)
    ∙ ap (λ l. lower p ++ l) (sym (append_assoc (lower q) r s)) in
    let before : length (lower p) ≡ back = length-map p to_ascii_lowercase ∙ back_is in
    let long : length mid ≡ size = omega (arith, length-append (lower q) r, length-map q to_ascii_lowercase, length-append q r) in
    let low_mid : lower mid ≡ lower q ++ lower r =
    map-append to_ascii_lowercase (lower q) r ∙ ap (λ l. l ++ lower r) (text_low q) in
    ap (part_lowered back size) whole
    ∙ (λ i. take_at (lower p) (mid ++ s) back before i ++ (lower (take size (drop_at (lower p) (mid ++ s) back before i)) ++ drop size (drop_at (lower p) (mid ++ s) back before i)))
    ∙ (λ i. lower p ++ (lower (take_at mid s size long i) ++ drop_at mid s size long i))
    ∙ ap (λ l. lower p ++ (l ++ s)) (low_mid ∙ sym (map-append to_ascii_lowercase q r))
    ∙ sym (append_assoc (lower p) (lower (q ++ r)) s)
    ∙ ap (λ l. l ++ s) (sym (map-append to_ascii_lowercase p (q ++ r)))

-- the first block, and then the block that ends at `count`
pub lowered_twice : (xs first second : List ℕ) (count back size : ℕ) → 16 ≤ count → count ≤ 32 → count ≤ length xs
    → back ≡ count - 16 → size ≡ count - back → first ≡ map to_ascii_lowercase (take 16 xs)
    → second ≡ map to_ascii_lowercase (take size (drop back (first ++ drop 16 xs)))
    → put_mid back size (first ++ drop 16 xs) second ≡ map to_ascii_lowercase (take count xs) ++ drop count xs
lowered_twice xs first second count back size many few within back_is size_is first_is second_is =
    let p = take back xs in
    let q = take (16 - back) (drop back xs) in
    let r = take back (drop 16 xs) in
    let s = drop back (drop 16 xs) in
    let p_long : length p ≡ back = length-take-le back xs (omega arith) in
    let q_long : length q ≡ 16 - back = length-take-le (16 - back) (drop back xs) (omega (arith, length-drop back xs)) in
    let r_long : length r ≡ back = length-take-le back (drop 16 xs) (omega (arith, length-drop 16 xs)) in
    let seam : back + (16 - back) ≡ 16 = omega arith in
    let behind : drop 16 xs ≡ r ++ s = sym (take-append-drop back (drop 16 xs)) in
    let whole : xs ≡ p ++ (q ++ (r ++ s)) =
    sym (take-append-drop back xs)
    ∙ ap (λ l. p ++ l)
    (sym (take-append-drop (16 - back) (drop back xs))
    ∙ ap (λ l. q ++ l) (drop-drop (16 - back) back xs ∙ ap (λ n. drop n xs) seam ∙ behind)) in
    let whole' : xs ≡ (p ++ (q ++ r)) ++ s = whole ∙ ap (λ l. p ++ l) (sym (append_assoc q r s)) ∙ sym (append_assoc p (q ++ r) s) in
    let front : take 16 xs ≡ p ++ q =
    ap (take 16) (whole ∙ sym (append_assoc p q (r ++ s)))
    ∙ take_at (p ++ q) (r ++ s) 16 (omega (arith, length-append p q, p_long, q_long)) in
    let middle : length (q ++ r) ≡ size = omega (arith, length-append q r, q_long, r_long) in
    let all_long : length (p ++ (q ++ r)) ≡ count = omega (arith, length-append p (q ++ r), p_long, middle) in
    let all : take count xs ≡ p ++ (q ++ r) = ap (take count) whole' ∙ take_at (p ++ (q ++ r)) s count all_long in
    let end : drop count xs ≡ s = ap (drop count) whole' ∙ drop_at (p ++ (q ++ r)) s count all_long in
    ap (put_mid back size (first ++ drop 16 xs)) second_is
    ∙ ap (λ (l : List ℕ). part_lowered back size (l ++ drop 16 xs)) first_is
    ∙ (λ i. part_lowered back size (lower (front i) ++ behind i))
    ∙ low_pieces p q r s back size p_long middle
    ∙ (λ i. lower (sym all i) ++ sym end i)
