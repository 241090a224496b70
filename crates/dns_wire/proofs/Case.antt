-- Octets up to ASCII case.
use Rattle.std.proofs.Common.{◌≡◌, ℕ, ◌+◌, zero, suc, take, drop, ◌<◌, ◌≤◌, Bool, true, false, List, [], ◌∷◌, ◌++◌, length, map, refl, sym, ◌∙◌, ap, arith, append_assoc, length-append}
use Rattle.std.proofs.lemmas.List.{map-append, length-map, take-append-drop, drop-drop}
use Rattle.std.proofs.Math.Seq.{drop-append_seam}
use Rattle.std.specs.Prelude.{Option, Some, None}
use Rattle.std.specs.Iterator.{YieldsFirstBy}
use Rattle.dns_label.specs.declared.label.Label.{Label}
use Rattle.dns_label.specs.Label.{label_octets}
use Rattle.dns_wire.specs.Suffix.{EndsWith}
use Rattle.std.specs.Prelude.{nat_eq, IsTrue}
use Rattle.std.proofs.lemmas.Grind.{common_steps}
use Rattle.std.specs.List.{AllByRecursion}
use Rattle.std.specs.Char.{to_ascii_lowercase}
use Rattle.std.specs.Cmp.Lexicographic.{pointwise}
use lib.Pointwise.{pointwise_decides, bytes_decides}
use Rattle.dns_label.specs.Name.{IsLabel, IsName, wire, low, with_root}
use Rattle.dns_wire.proofs.Flat.{same_front}
use Rattle.dns_wire.proofs.Wire.{length-wire_is, last_same}

-- a label's length is no letter
pub low_length : (n : ℕ) → n ≤ 63 → to_ascii_lowercase n ≡ n
low_length n few = grind (arith, common_steps)

-- lowering the octets lowers the labels
pub low_wire : (name : List (List ℕ)) → AllByRecursion IsLabel name → map to_ascii_lowercase (wire name) ≡ wire (low name)
low_wire [] each = refl
low_wire (text ∷ name) each =
    let here : to_ascii_lowercase (length text) ≡ length (map to_ascii_lowercase text) =
    low_length (length text) each.0.short ∙ sym (length-map text to_ascii_lowercase) in
    let more : map to_ascii_lowercase (text ++ wire name) ≡ map to_ascii_lowercase text ++ wire (low name) =
    map-append to_ascii_lowercase text (wire name) ∙ ap (λ l. map to_ascii_lowercase text ++ l) (low_wire name each.1) in
    ap (λ n. n ∷ map to_ascii_lowercase (text ++ wire name)) here ∙ ap (λ l. length (map to_ascii_lowercase text) ∷ l) more

-- a wire form is that of one name only
pub wire_one : (name other : List (List ℕ)) → wire name ≡ wire other → name ≡ other
wire_one [] [] same = refl
wire_one [] (text ∷ other) same =
    let long = ap (length {A = ℕ}) same in
    absurd (omega (arith, length-append text (wire other), length-wire_is other))
wire_one (text ∷ name) [] same =
    let long = ap (length {A = ℕ}) same in
    absurd (omega (arith, length-append text (wire name), length-wire_is name))
wire_one (text ∷ name) (text' ∷ other) same =
    let long : length text ≡ length text' = cc in
    let rest : text ++ wire name ≡ text' ++ wire other = cc in
    let both = same_front text text' (wire name) (wire other) rest long in
    ap (λ t. t ∷ name) both.0 ∙ ap (λ n. text' ∷ n) (wire_one name other both.1)

pub same_bool : (a b : Bool) → (a ≡ true → b ≡ true) → (b ≡ true → a ≡ true) → a ≡ b
same_bool true true on back = refl
same_bool true false on back = sym (on refl)
same_bool false true on back = back refl
same_bool false false on back = refl

pub same_case : (result : Bool) (octets others : List ℕ) (name other : List (List ℕ)) → IsName name → IsName other
    → octets ≡ wire name → others ≡ wire other
    → (IsTrue result → map to_ascii_lowercase octets ≡ map to_ascii_lowercase others)
    → (map to_ascii_lowercase octets ≡ map to_ascii_lowercase others → IsTrue result)
    → result ≡ pointwise (pointwise nat_eq) (low name) (low other)
same_case result octets others name other is_name is_other is are on back =
    let decides = pointwise_decides {E = pointwise nat_eq} bytes_decides (low name) (low other) in
    let a = ap (map to_ascii_lowercase) is ∙ low_wire name is_name.labels in
    let b = ap (map to_ascii_lowercase) are ∙ low_wire other is_other.labels in
    same_bool result (pointwise (pointwise nat_eq) (low name) (low other))
    (λ yes. decides.1 (wire_one (low name) (low other) (sym a ∙ on yes ∙ b)))
    (λ yes. back (a ∙ ap wire (decides.0 yes) ∙ sym b))

-- one label more on both sides
pub low_more : {labels others rest rests : List (List ℕ)} {label other : List ℕ} → labels ≡ label ∷ rest → others ≡ other ∷ rests
    → map to_ascii_lowercase label ≡ map to_ascii_lowercase other → low rest ≡ low rests → low labels ≡ low others
low_more {rest = rest} {rests = rests} {label = label} {other = other} is are here more =
    ap low is ∙ ap (λ t. t ∷ low rest) here ∙ ap (λ n. map to_ascii_lowercase other ∷ n) more ∙ sym (ap low are)

pub low_less : {labels others rest rests : List (List ℕ)} {label other : List ℕ} → labels ≡ label ∷ rest → others ≡ other ∷ rests
    → low labels ≡ low others → (map to_ascii_lowercase label ≡ map to_ascii_lowercase other) × (low rest ≡ low rests)
low_less {rest = rest} {rests = rests} {label = label} {other = other} is are same =
    let e : low (label ∷ rest) ≡ low (other ∷ rests) = sym (ap low is) ∙ same ∙ ap low are in
    let a : map to_ascii_lowercase label ≡ map to_ascii_lowercase other = cc in
    let b : low rest ≡ low rests = cc in
    (a, b)

pub low_left : {labels others rest : List (List ℕ)} {label : List ℕ} → labels ≡ label ∷ rest → others ≡ [] → low labels ≡ low others → ⊥
low_left {rest = rest} {label = label} is none same =
    let e : low (label ∷ rest) ≡ low [] = sym (ap low is) ∙ same ∙ ap low none in cc

-- a call of `next` leaves the rest, also if there is no label
pub next_drops : (result : Option Label) (labels new initial : List (List ℕ)) (count more : ℕ)
    → YieldsFirstBy label_octets (λ (l : List (List ℕ)). l) labels result new → labels ≡ drop count initial → more ≡ count + 1
    → new ≡ drop more initial
next_drops None labels new initial count more steps is next =
    steps.1 ∙ ap (drop 1) (sym steps.0 ∙ is) ∙ drop-drop 1 count initial ∙ ap (λ (n : ℕ). drop n initial) (omega arith)
next_drops (Some label) labels new initial count more steps is next =
    ap (drop 1) (sym steps ∙ is) ∙ drop-drop 1 count initial ∙ ap (λ (n : ℕ). drop n initial) (omega arith)

drop_low : (n : ℕ) (labels : List (List ℕ)) → low (drop n labels) ≡ drop n (low labels)
drop_low zero labels = refl
drop_low (suc n) [] = refl
drop_low (suc n) (label ∷ labels) = drop_low n labels

pub ends_on : (labels rest end : List (List ℕ)) (count : ℕ) → rest ≡ drop count labels → low rest ≡ low end
    → EndsWith (low labels) (low end)
ends_on labels rest end count is same = record {
  front = take count (low labels);
  whole_is = sym (take-append-drop count (low labels))
      ∙ ap (λ l. take count (low labels) ++ l) (sym (drop_low count labels) ∙ sym (ap low is) ∙ same);
}

pub ends_back : (labels rest end : List (List ℕ)) (count : ℕ) → rest ≡ drop count labels → count + length end ≡ length labels
    → EndsWith (low labels) (low end) → low rest ≡ low end
ends_back labels rest end count is long ends =
    let l = ap (length {A = List ℕ}) ends.whole_is in
    let n : count ≡ length ends.front =
    omega (arith, l, length-append ends.front (low end), length-map labels (map to_ascii_lowercase), length-map end (map to_ascii_lowercase)) in
    ap low is ∙ drop_low count labels ∙ ap (λ (n : ℕ). drop n (low labels)) n ∙ ap (drop (length ends.front)) ends.whole_is
    ∙ drop-append_seam ends.front (low end)

pub ends_short : (labels end : List (List ℕ)) → length labels < length end → EndsWith (low labels) (low end) → ⊥
ends_short labels end short ends =
    omega (arith, ap (length {A = List ℕ}) ends.whole_is, length-append ends.front (low end), length-map labels (map to_ascii_lowercase), length-map end (map to_ascii_lowercase))

low_rooted : (name : List (List ℕ)) → low (with_root name) ≡ low name ++ [] ∷ []
low_rooted name = map-append (map to_ascii_lowercase) name ([] ∷ [])

-- the root's label at both ends changes nothing
pub rooted_on : (name base : List (List ℕ)) → EndsWith (low (with_root name)) (low (with_root base)) → EndsWith (low name) (low base)
rooted_on name base ends = record {
  front = ends.front;
  whole_is = (last_same (low name) (ends.front ++ low base) [] []
      (sym (low_rooted name) ∙ ends.whole_is ∙ ap (λ l. ends.front ++ l) (low_rooted base) ∙ sym (append_assoc ends.front (low base) ([] ∷ [])))).0;
}

pub rooted_back : (name base : List (List ℕ)) → EndsWith (low name) (low base) → EndsWith (low (with_root name)) (low (with_root base))
rooted_back name base ends = record {
  front = ends.front;
  whole_is = low_rooted name ∙ ap (λ l. l ++ [] ∷ []) ends.whole_is ∙ append_assoc ends.front (low base) ([] ∷ [])
      ∙ ap (λ l. ends.front ++ l) (sym (low_rooted base));
}

-- the root's label is the same in all names
pub low_with_root : (name other : List (List ℕ)) → low name ≡ low other → low (with_root name) ≡ low (with_root other)
low_with_root name other same = low_rooted name ∙ ap (λ l. l ++ [] ∷ []) same ∙ sym (low_rooted other)

pub low_without_root : (name other : List (List ℕ)) → low (with_root name) ≡ low (with_root other) → low name ≡ low other
low_without_root name other same = (last_same (low name) (low other) [] [] (sym (low_rooted name) ∙ same ∙ low_rooted other)).0
