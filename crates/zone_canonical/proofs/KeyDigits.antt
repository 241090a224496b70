-- The digits of keys, one after another.
use Rattle.std.proofs.Common.{◌≡◌, ℕ, zero, suc, ◌+◌, ◌*◌, ◌^◌, ◌<◌, ◌≤◌, List, [], ◌∷◌, ◌++◌, map, reverse, length, take, get_or, refl, sym, ap, ◌∙◌, arith, append_assoc, append-nil}
use Rattle.std.specs.Char.{to_ascii_lowercase}
use Rattle.dns_label.specs.Name.{low}
use Rattle.std.proofs.Math.Nat.{pow-succ', pow-le-pow_right}
use Rattle.std.proofs.lemmas.List.{map-append, reverse-append}
use Rattle.std.proofs.Math.Seq.{take-length, take-suc}
use Rattle.zone_canonical.specs.OwnerKey.{TakesLast, some, none, code, front_key}
use Rattle.zone_canonical.proofs.KeyOrder.{code_digit}

abbrev pub lowered : List ℕ → List ℕ
lowered label = map to_ascii_lowercase label

abbrev pub from_right : List (List ℕ) → List (List ℕ)
from_right labels = reverse (low labels)

-- labels after others come first from the right
pub right_front : (front rest : List (List ℕ)) → from_right (front ++ rest) ≡ from_right rest ++ from_right front
right_front front rest = ap reverse (map-append lowered front rest) ∙ reverse-append (low front) (low rest)

-- the digit of an octet
pub digit_inside : (octet digit left : ℕ) (text label : List ℕ) (labels : List (List ℕ)) → text ≡ octet ∷ label
    → digit ≡ to_ascii_lowercase octet + 1 → digit ≤ 256
    → code (suc left) (lowered text) labels ≡ digit * 512 ^ left + code left (lowered label) labels
digit_inside octet digit left text label labels is digit_is few =
    ap (λ l. code (suc left) (lowered l) labels) is
    ∙ code_digit (to_ascii_lowercase octet) left (lowered label) labels (omega arith)
    ∙ ap (λ n. n * 512 ^ left + code left (lowered label) labels) (omega arith)

code_none : (left : ℕ) → code left [] [] ≡ 0
unfolding code
code_none zero = refl
code_none (suc left) = refl

taken : (labels left : List (List ℕ)) (label : List ℕ) → labels ≡ left ++ label ∷ [] → from_right labels ≡ lowered label ∷ from_right left
taken labels left label is = ap from_right is ∙ right_front left (label ∷ [])

-- the digit between labels, and after the last of them
pub digit_between : (left : ℕ) (text label : List ℕ) (labels rest : List (List ℕ)) → text ≡ [] → TakesLast labels label rest
    → code (suc left) (lowered text) (from_right labels) ≡ code left (lowered label) (from_right rest)
unfolding code
digit_between left text label labels rest empty (some is) =
    ap (λ l. code (suc left) (lowered l) (from_right labels)) empty ∙ ap (code (suc left) []) (taken labels rest label is)
digit_between left text label labels rest empty (none is label_is rest_is) =
    ap (λ l. code (suc left) (lowered l) (from_right labels)) empty ∙ ap (λ l. code (suc left) [] (from_right l)) is
    ∙ sym (code_none left) ∙ (λ i. code left (lowered (sym label_is i)) (from_right (sym rest_is i)))

-- the first label
pub first_label : (label : List ℕ) (labels rest : List (List ℕ)) → TakesLast labels label rest
    → code 14 (lowered label) (from_right rest) ≡ front_key (from_right labels)
unfolding front_key
first_label label labels rest (some is) = sym (ap front_key (taken labels rest label is))
first_label label labels rest (none is label_is rest_is) =
    (λ i. code 14 (lowered (label_is i)) (from_right (rest_is i))) ∙ code_none 14 ∙ sym (ap (λ l. front_key (from_right l)) is)

pub no_octets : (text : List ℕ) → length text ≡ 0 → text ≡ []
no_octets [] is = refl
no_octets (octet ∷ text) is = absurd (omega arith)

-- a digit more
pub key_more : (key digit count : ℕ) → key < 512 ^ count → digit ≤ 256 → key * 512 + digit < 512 ^ (count + 1)
key_more key digit count fits within =
    omega (arith, pow-succ' 512 count, ap (λ n. 512 ^ n) (let e : count + 1 ≡ suc count = omega arith in e))

-- half of them fit
pub half_fits : (key count : ℕ) → key < 512 ^ count → count ≤ 7 → key < 2 ^ 63
half_fits key count fits within = omega (arith, pow-le-pow_right {n = 512} (omega arith) {i = count} {j = 7} within)

pub key_whole : (whole key digit left more rest : ℕ) → whole ≡ key * 512 ^ suc left + more → more ≡ digit * 512 ^ left + rest
    → whole ≡ (key * 512 + digit) * 512 ^ left + rest
key_whole whole key digit left more rest is more_is = omega (arith, pow-succ' 512 left, ap (λ n. key * n) (pow-succ' 512 left))

-- no octets of a label
pub number_none : (octets label : List ℕ) (labels : List (List ℕ)) (left : ℕ)
    → code (0 + left) (lowered (take 0 octets ++ label)) labels ≡ 0 * 512 ^ left + code left (lowered label) labels
number_none octets label labels left =
    ap (λ n. code n (lowered label) labels) (let places : 0 + left ≡ left = omega arith in places) ∙ omega arith

-- an octet more of a label
pub number_more : (octets label : List ℕ) (labels : List (List ℕ)) (index number digit left : ℕ) → index < length octets
    → digit ≡ to_ascii_lowercase (get_or octets index 0) + 1 → digit ≤ 256
    → code (index + suc left) (lowered (take index octets ++ get_or octets index 0 ∷ label)) labels
    ≡ number * 512 ^ suc left + code (suc left) (lowered (get_or octets index 0 ∷ label)) labels
    → code (index + 1 + left) (lowered (take (index + 1) octets ++ label)) labels
    ≡ (number * 512 + digit) * 512 ^ left + code left (lowered label) labels
number_more octets label labels index number digit left inside digit_is few so_far =
    let octet = get_or octets index 0 in
    let next : index + 1 ≡ suc index = omega arith in
    let more : index + 1 + left ≡ index + suc left = omega arith in
    let taken : take (index + 1) octets ++ label ≡ take index octets ++ octet ∷ label =
    ap (λ n. take n octets ++ label) next ∙ ap (λ l. l ++ label) (take-suc octets index 0 inside) ∙ append_assoc (take index octets) (octet ∷ []) label in
    ap (λ n. code n (lowered (take (index + 1) octets ++ label)) labels) more
    ∙ ap (λ l. code (index + suc left) (lowered l) labels) taken
    ∙ key_whole _ number digit left _ _ so_far (digit_inside octet digit left (octet ∷ label) label labels refl digit_is few)

-- and all of them
pub number_all : (octets label : List ℕ) (labels : List (List ℕ)) (index left number : ℕ) → index ≡ length octets
    → code (index + left) (lowered (take index octets ++ label)) labels ≡ number
    → code (length octets + left) (lowered (octets ++ label)) labels ≡ number
number_all octets label labels index left number all is =
    sym ((λ i. code (all i + left) (lowered (take (all i) octets ++ label)) labels)
    ∙ ap (λ l. code (length octets + left) (lowered (l ++ label)) labels) (take-length octets))
    ∙ is

-- seven octets of a label
pub half_inside : (label octets rest : List ℕ) (labels : List (List ℕ)) (left number : ℕ) → length octets ≡ 7 → label ≡ octets ++ rest
    → code (length octets + left) (lowered (octets ++ rest)) labels ≡ number → code (7 + left) (lowered label) labels ≡ number
half_inside label octets rest labels left number long parts is =
    (λ i. code (sym long i + left) (lowered (parts i)) labels) ∙ is

-- the last octets of a label
pub across_first : (label : List ℕ) (labels : List (List ℕ)) (count more left number : ℕ) → count ≡ length label → count + more ≡ 7
    → code (length label + (more + left)) (lowered (label ++ [])) labels ≡ number → code (7 + left) (lowered label) labels ≡ number
across_first label labels count more left number long all is =
    let places : 7 + left ≡ length label + (more + left) = omega arith in
    (λ i. code (places i) (lowered (sym (append-nil label) i)) labels) ∙ is

-- a digit after them
pub across_more : (whole number digit more left : ℕ) (label new : List ℕ) (labels news : List (List ℕ))
    → whole ≡ number * 512 ^ (suc more + left) + code (suc more + left) label labels
    → code (suc (more + left)) label labels ≡ digit * 512 ^ (more + left) + code (more + left) new news
    → whole ≡ (number * 512 + digit) * 512 ^ (more + left) + code (more + left) new news
across_more whole number digit more left label new labels news is step =
    let places : suc more + left ≡ suc (more + left) = omega arith in
    key_whole whole number digit (more + left) _ _ (is ∙ (λ i. number * 512 ^ places i + code (places i) label labels)) step

pub across_all : (whole number left : ℕ) (label : List ℕ) (labels : List (List ℕ))
    → whole ≡ number * 512 ^ (0 + left) + code (0 + left) label labels → whole ≡ number * 512 ^ left + code left label labels
across_all whole number left label labels is =
    let places : 0 + left ≡ left = omega arith in is ∙ (λ i. number * 512 ^ places i + code (places i) label labels)

-- nothing is left after the last digit
code_end : (label : List ℕ) (labels : List (List ℕ)) → code 0 label labels ≡ 0
unfolding code
code_end label labels = refl

-- the halves are the key
pub halves_all : (whole high low mid : ℕ) (label : List ℕ) (labels : List (List ℕ)) → whole ≡ high * 512 ^ 7 + mid
    → mid ≡ low * 512 ^ 0 + code 0 label labels → high * 9223372036854775808 + low ≡ whole
halves_all whole high low mid label labels is low_is = omega (arith, code_end label labels)
