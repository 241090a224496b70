-- Parts of names in octets.
use Rattle.std.proofs.Common.{◌≡◌, ℕ, ◌+◌, ◌-◌, ◌<◌, ◌≤◌, zero, suc, List, [], ◌∷◌, ◌++◌, length, take, drop, map, refl, sym, ◌∙◌, ap, subst, arith, append-nil, length-append, length-drop}
use Rattle.std.specs.Char.{to_ascii_lowercase}
use Rattle.std.proofs.lemmas.List.{length-map, take-append-drop}
use Rattle.std.proofs.Math.Seq.{drop-append_seam}
use Rattle.dns_label.specs.Name.{IsName, labels_wire, low}
use Rattle.dns_wire.specs.Flat.{IsWritten}
use Rattle.dns_wire.specs.FlatLabels.{flat_labels}
use Rattle.dns_wire.specs.Parts.{IsLabelStart, IsFront, IsBack, IsBetween}
use Rattle.dns_wire.specs.Suffix.{EndsWith}
use Rattle.std.specs.List.{AllByRecursion}
use Rattle.std.specs.Prelude.{Option, Some}
use Rattle.dns_label.proofs.Spelling.{drop_behind}
use Rattle.dns_flat.specs.Relative.{StandsIn}
use Rattle.dns_wire.specs.FlatLabels.{AreLabels, IsShort}
use Rattle.dns_wire.proofs.Readable.{name_behind}
use Rattle.dns_flat.proofs.Standing.{front_rest}
use Rattle.dns_wire.proofs.FlatForms.{are_labels, flat_is, short_labels, relative-written, labels_wire_one, drop_front, take_front, start_within, name_part, parted}
use Rattle.dns_wire.proofs.Wire.{labels_wire-append}

no_last : {octets : List ℕ} (labels : List (List ℕ)) → octets ≡ labels_wire labels → octets ≡ labels_wire labels ++ []
no_last labels is = is ∙ sym (append-nil (labels_wire labels))

-- the octets up to a label's start
pub front_written : {octets taken : List ℕ} {labels : List (List ℕ)} {place : ℕ} → octets ≡ labels_wire labels → IsName labels
    → (start : IsLabelStart labels place) → taken ≡ take place octets → IsWritten (taken ++ 0 ∷ [])
front_written {taken = taken} {labels = labels} {place = place} is is_name start got =
    relative-written taken start.front (name_part is_name start.whole).0
    (got ∙ take_front start.front start.back place [] (no_last labels is) start.whole start.at)

pub front_is : {octets taken : List ℕ} {labels part : List (List ℕ)} {place : ℕ} → octets ≡ labels_wire labels
    → (start : IsLabelStart labels place) → taken ≡ take place octets → taken ≡ labels_wire part → part ≡ start.front
front_is {labels = labels} {part = part} {place = place} is start got made =
    labels_wire_one part start.front (sym made ∙ got ∙ take_front start.front start.back place [] (no_last labels is) start.whole start.at)

pub is_front : {labels part : List (List ℕ)} {place : ℕ} (start : IsLabelStart labels place) → part ≡ start.front → IsFront labels place part
is_front start same = record {
  back = start.back;
  whole = start.whole ∙ ap (λ l. l ++ start.back) (sym same);
  at = start.at ∙ ap (λ (l : List (List ℕ)). length (labels_wire l)) (sym same);
}

-- the octets from a label's start on
pub back_octets : {octets taken : List ℕ} {labels : List (List ℕ)} {place : ℕ} → octets ≡ labels_wire labels
    → (start : IsLabelStart labels place) → taken ≡ drop place octets → taken ≡ labels_wire start.back
back_octets {labels = labels} {place = place} is start got =
    got ∙ drop_front start.front start.back place [] (no_last labels is) start.whole start.at ∙ append-nil (labels_wire start.back)

pub back_written : {octets taken : List ℕ} {labels : List (List ℕ)} {place : ℕ} → octets ≡ labels_wire labels → IsName labels
    → (start : IsLabelStart labels place) → taken ≡ drop place octets → IsWritten (taken ++ 0 ∷ [])
back_written {taken = taken} is is_name start got =
    relative-written taken start.back (name_part is_name start.whole).1 (back_octets is start got)

pub is_back : {octets taken : List ℕ} {labels part : List (List ℕ)} {place : ℕ} → octets ≡ labels_wire labels
    → (start : IsLabelStart labels place) → taken ≡ drop place octets → taken ≡ labels_wire part → IsBack labels place part
is_back {part = part} is start got made =
    let same : part ≡ start.back = labels_wire_one part start.back (sym made ∙ back_octets is start got) in
    record { front = start.front; whole = start.whole ∙ ap (λ l. start.front ++ l) (sym same); at = start.at }

pub within : {octets : List ℕ} {labels : List (List ℕ)} {place : ℕ} → octets ≡ labels_wire labels → (start : IsLabelStart labels place)
    → place ≤ length octets
within {labels = labels} {place = place} is start = start_within start.front start.back place [] (no_last labels is) start.whole start.at

-- what is after a place, cut at a later one
pub start_behind : {labels back : List (List ℕ)} {start end : ℕ} → IsBack labels start back → IsLabelStart labels end → start ≤ end
    → IsLabelStart back (end - start)
start_behind {back = back} {start = start} {end = end} behind to less =
    let parts = parted behind.front back to.front to.back (sym behind.whole ∙ to.whole) (omega (arith, behind.at, to.at)) in
    let long = ap (λ (l : List (List ℕ)). length (labels_wire l)) parts.front_is in
    record {
      front = parts.part;
      back = to.back;
      whole = parts.back_is;
      at = omega (arith, behind.at, to.at, long, ap (length {A = ℕ}) (labels_wire-append behind.front parts.part), length-append (labels_wire behind.front) (labels_wire parts.part));
    }

pub is_between : {labels back part : List (List ℕ)} {start end : ℕ} → IsBack labels start back → start ≤ end → IsFront back (end - start) part
    → IsBetween labels start end part
is_between {part = part} behind less front = record {
  front = behind.front;
  back = front.back;
  whole = behind.whole ∙ ap (λ l. behind.front ++ l) front.whole;
  from = behind.at;
  to = omega (arith, front.at);
}

-- the same place splits the labels in one way only
pub same_place : (front back other_front other_back : List (List ℕ)) → front ++ back ≡ other_front ++ other_back
    → length (labels_wire front) ≡ length (labels_wire other_front) → (front ≡ other_front) × (back ≡ other_back)
same_place [] back [] other_back same long = (refl, same)
same_place [] back (text ∷ other_front) other_back same long = absurd (omega arith)
same_place (text ∷ front) back [] other_back same long = absurd (omega arith)
same_place (text ∷ front) back (other ∷ other_front) other_back same long =
    let e : text ≡ other = cc in
    let f : front ++ back ≡ other_front ++ other_back = cc in
    let both = same_place front back other_front other_back f
    (omega (arith, length-append text (labels_wire front), length-append other (labels_wire other_front), ap (length {A = ℕ}) e)) in
    (ap (λ l. l ∷ front) e ∙ ap (λ l. other ∷ l) both.0, both.1)

pub length-labels_wire-low : (labels : List (List ℕ)) → length (labels_wire (low labels)) ≡ length (labels_wire labels)
length-labels_wire-low [] = refl
length-labels_wire-low (text ∷ labels) =
    omega (
      arith,
      length-labels_wire-low labels,
      length-map text to_ascii_lowercase,
      length-append text (labels_wire labels),
      length-append (map to_ascii_lowercase text) (labels_wire (low labels)),
    )

-- the labels before a suffix that is the other name up to ASCII case
pub record Stripped (labels base : List (List ℕ)) : Type 0 where
  pub front : List (List ℕ)
  pub rest : List (List ℕ)
  pub whole : labels ≡ front ++ rest
  pub same : low rest ≡ low base
  pub long : length (labels_wire rest) ≡ length (labels_wire base)

low_drop : (n : ℕ) (labels : List (List ℕ)) → low (drop n labels) ≡ drop n (low labels)
low_drop zero labels = refl
low_drop (suc n) [] = refl
low_drop (suc n) (label ∷ labels) = low_drop n labels

pub stripped : (labels base : List (List ℕ)) → EndsWith (low labels) (low base) → Stripped labels base
stripped labels base ends =
    let n = length ends.front in
    let same : low (drop n labels) ≡ low base =
    low_drop n labels ∙ ap (drop n) ends.whole_is ∙ drop-append_seam ends.front (low base) in
    record {
      front = take n labels;
      rest = drop n labels;
      whole = sym (take-append-drop n labels);
      same = same;
      long = sym (length-labels_wire-low (drop n labels)) ∙ ap (λ (l : List (List ℕ)). length (labels_wire l)) same ∙ length-labels_wire-low base;
    }

length-parts : {labels : List (List ℕ)} (front back : List (List ℕ)) → labels ≡ front ++ back
    → length (labels_wire labels) ≡ length (labels_wire front) + length (labels_wire back)
length-parts front back whole =
    ap (λ (l : List (List ℕ)). length (labels_wire l)) whole ∙ ap (length {A = ℕ}) (labels_wire-append front back)
    ∙ length-append (labels_wire front) (labels_wire back)

pub strip_start : {labels base : List (List ℕ)} (place : ℕ) → Stripped labels base
    → place + length (labels_wire base) ≡ length (labels_wire labels) → IsLabelStart labels place
strip_start place strip at = record {
  front = strip.front;
  back = strip.rest;
  whole = strip.whole;
  at = omega (arith, strip.long, length-parts strip.front strip.rest strip.whole);
}

pub strip_within : {labels base : List (List ℕ)} → Stripped labels base → length (labels_wire base) ≤ length (labels_wire labels)
strip_within strip = omega (arith, strip.long, length-parts strip.front strip.rest strip.whole)

pub strip_rest : {labels base part : List (List ℕ)} {place : ℕ} (strip : Stripped labels base)
    → place + length (labels_wire base) ≡ length (labels_wire labels) → IsFront labels place part
    → (rest : List (List ℕ)) × (labels ≡ part ++ rest) × (low rest ≡ low base)
strip_rest {part = part} strip at front =
    let both = same_place part front.back strip.front strip.rest (sym front.whole ∙ strip.whole)
    (omega (arith, front.at, strip.long, length-parts strip.front strip.rest strip.whole)) in
    (front.back, front.whole, ap low both.1 ∙ strip.same)

-- ---- where labels begin

pub start_on : {labels rest : List (List ℕ)} {text : List ℕ} {place left : ℕ} → labels ≡ text ∷ rest → place ≡ left + (length text + 1)
    → IsLabelStart rest left → IsLabelStart labels place
start_on {text = text} is at start = record {
  front = text ∷ start.front;
  back = start.back;
  whole = is ∙ ap (λ l. text ∷ l) start.whole;
  at = omega (arith, start.at, length-append text (labels_wire start.front));
}

start_back_by : (rest front back : List (List ℕ)) (text : List ℕ) (place left : ℕ) → text ∷ rest ≡ front ++ back
    → place ≡ length (labels_wire front) → 0 < place → (length text + 1 ≤ place) × (place ≡ left + (length text + 1) → IsLabelStart rest left)
start_back_by rest [] back text place left is at some = absurd (omega arith)
start_back_by rest (first ∷ front) back text place left is at some =
    let e : text ≡ first = cc in
    let f : rest ≡ front ++ back = cc in
    let long = length-append first (labels_wire front) in
    let same = ap (length {A = ℕ}) e in
    (omega arith, λ there. record { front = front; back = back; whole = f; at = omega arith })

pub start_back : {labels rest : List (List ℕ)} {text : List ℕ} {place left : ℕ} → labels ≡ text ∷ rest → 0 < place
    → IsLabelStart labels place → (length text + 1 ≤ place) × (place ≡ left + (length text + 1) → IsLabelStart rest left)
start_back {rest = rest} {text = text} {place = place} {left = left} is some start =
    start_back_by rest start.front start.back text place left (sym is ∙ start.whole) start.at some

start_none_by : (front back : List (List ℕ)) (place : ℕ) → [] ≡ front ++ back → place ≡ length (labels_wire front) → 0 < place → ⊥
start_none_by [] back place is at some = omega arith
start_none_by (text ∷ front) back place is at some = cc

pub start_none : {labels : List (List ℕ)} {place : ℕ} → labels ≡ [] → 0 < place → IsLabelStart labels place → ⊥
start_none {place = place} none some start = start_none_by start.front start.back place (sym none ∙ start.whole) start.at some

-- ---- labels at places of a relative name's octets

short_drop : (labels : List (List ℕ)) (index : ℕ) → AllByRecursion IsShort labels → AllByRecursion IsShort (drop index labels)
short_drop labels zero short = short
short_drop [] (suc index) short = tt
short_drop (text ∷ labels) (suc index) short = short_drop labels index short.1

-- the octets from the place on
pub record Rest (octets : List ℕ) (labels : List (List ℕ)) (index place : ℕ) (rest : List ℕ) : Type 0 where
  pub inside : place ≤ length octets
  pub is : rest ≡ labels_wire (drop index labels)
  pub are : AreLabels rest
  pub flat : flat_labels rest ≡ drop index labels
  pub behind : drop place octets ≡ rest

pub rest_of : {octets rest : List ℕ} {labels : List (List ℕ)} {index place : ℕ} {at : Option ℕ} → IsName labels
    → StandsIn octets labels index at → at ≡ Some place → rest ≡ drop place octets → Rest octets labels index place rest
rest_of {octets} {rest} {labels} {index} {place} is_name stands here got =
    let P : Option ℕ → Type 0 = λ o. StandsIn octets labels index o in
    let there = subst P here stands in
    let is : rest ≡ labels_wire (drop index labels) = got ∙ there.1 in
    record {
      inside = there.0;
      is = is;
      are = are_labels rest (drop index labels) is (short_drop labels index (short_labels labels is_name.labels));
      flat = flat_is rest (drop index labels) is;
      behind = sym got;
    }

pub rest_next : {octets rest text : List ℕ} (behind : List ℕ) {labels : List (List ℕ)} {index place : ℕ} (next : ℕ) → Rest octets labels index place rest
    → flat_labels rest ≡ text ∷ flat_labels behind → next ≡ place + 1 + length text
    → StandsIn octets labels (index + 1) (Some next)
rest_next {octets} {rest} {text} behind {labels} {index} {place} next here found is =
    let more = flat_labels behind in
    let drops : drop index labels ≡ text ∷ more = sym here.flat ∙ found in
    let whole : drop place octets ≡ (length text ∷ text) ++ labels_wire more = here.behind ∙ here.is ∙ ap labels_wire drops in
    let long = ap (length {A = ℕ}) whole in (
      omega (arith, here.inside, long, length-drop place octets, length-append text (labels_wire more)),
      drop_behind octets place next (length text ∷ text) (labels_wire more) whole (omega arith)
          ∙ ap labels_wire (sym (front_rest labels index text more drops)),
    )

-- the first label, and those after it
pub first_written : {octets text : List ℕ} (behind : List ℕ) {labels : List (List ℕ)} → octets ≡ labels_wire labels → IsName labels
    → flat_labels octets ≡ text ∷ flat_labels behind → AreLabels behind → IsWritten (behind ++ 0 ∷ [])
first_written {octets} {text} behind {labels} is is_name found are =
    let P : List (List ℕ) → Type 0 = λ n. IsName n in
    let whole : labels ≡ text ∷ flat_labels behind = sym (flat_is octets labels is) ∙ found in
    relative-written behind (flat_labels behind) (name_behind text (flat_labels behind) (subst P whole is_name)) are.whole

pub first_split : {octets text : List ℕ} (behind : List ℕ) {labels rest : List (List ℕ)} → octets ≡ labels_wire labels
    → flat_labels octets ≡ text ∷ flat_labels behind → AreLabels behind → behind ≡ labels_wire rest → labels ≡ text ∷ rest
first_split {octets} {text} behind {labels} {rest} is found are made =
    sym (flat_is octets labels is) ∙ found ∙ ap (λ l. text ∷ l) (labels_wire_one (flat_labels behind) rest (sym are.whole ∙ made))

pub start_at : (labels : List (List ℕ)) (place : ℕ) → place ≡ 0 → IsLabelStart labels place
start_at labels place none = record { front = []; back = labels; whole = refl; at = none }
