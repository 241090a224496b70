-- The labels that are seen at a place are one list, and it is the one that is found there.
use Rattle.std.proofs.Common.{◌≡◌, ℕ, ◌+◌, ◌-◌, ◌*◌, ◌<◌, ◌≤◌, ◌⊎◌, zero, suc, List, [], ◌∷◌, ◌++◌, length, drop, take, refl, sym, ◌∙◌, ap, subst, arith, inl, inr, true, false}
use Rattle.std.proofs.Common.{length-append}
use Rattle.std.proofs.lemmas.Grind.{common_steps}
use Rattle.std.proofs.Math.Seq.{take-append_seam}
use Rattle.std.proofs.lemmas.Bool.{cases_lt}
use Rattle.std.proofs.lemmas.List.{length-drop, length-take-le, take-append-drop}
use Rattle.dns_label.specs.declared.label.SplitLabelError.{SplitLabelError}
use Rattle.dns_label.specs.declared.label.SplitLabelError.TheVariants.{Pointer, BadType, ShortInput}
use Rattle.dns_label.specs.declared.label.LabelTypeError.TheVariants.{Undefined, Extended}
use Rattle.dns_label.specs.Name.{IsLabel, with_root}
use Rattle.dns_label.specs.Spelled.{EncodesName}
use Rattle.dns_label.specs.Spelled.EncodesName.{root as spelled_root, label as spelled_label, pointer as spelled_pointer}
use Rattle.dns_label.specs.Split.{NoLabel, StartsWithLabel, StartsWithPointer}
use Rattle.dns_label.specs.Seen.{Seen, EndsThem, seen_in, seen_by, most_heads, labels_seen}
use Rattle.dns_label.specs.Seen.Seen.{root, label, pointer, fault}

-- the first octets decide
seen_in-label : (more : ℕ → ℕ → List (List ℕ)) (pointers place : ℕ) (octets text rest : List ℕ) → octets ≡ length text ∷ text ++ rest
    → IsLabel text → seen_in more pointers place octets ≡ text ∷ more pointers (place + 1 + length text)
seen_in-label more pointers place octets text rest is is_label =
    rw is (grind (arith, common_steps, take-append_seam text rest, length-append text rest))

seen_in-pointer : (more : ℕ → ℕ → List (List ℕ)) (pointers place : ℕ) (octets : List ℕ) (first second : ℕ) (rest : List ℕ)
    → octets ≡ first ∷ second ∷ rest → 192 ≤ first → 256 * (first - 192) + second < place
    → seen_in more (suc pointers) place octets ≡ more pointers (256 * (first - 192) + second)
seen_in-pointer more pointers place octets first second rest is both back = rw is (grind (arith, common_steps))

seen_in-forward : (more : ℕ → ℕ → List (List ℕ)) (pointers place target first second : ℕ) (octets rest : List ℕ)
    → octets ≡ first ∷ second ∷ rest → 192 ≤ first → target ≡ 256 * (first - 192) + second → (pointers ≡ 0) ⊎ (place ≤ target)
    → seen_in more pointers place octets ≡ []
seen_in-forward more zero place target first second octets rest is both at ends = rw is (grind (arith, common_steps))
seen_in-forward more (suc pointers) place target first second octets rest is both at (inl none) = absurd (omega arith)
seen_in-forward more (suc pointers) place target first second octets rest is both at (inr forward) = rw is (grind (arith, common_steps))

seen_in-kind : (more : ℕ → ℕ → List (List ℕ)) (pointers place first : ℕ) (octets rest : List ℕ) → octets ≡ first ∷ rest → 64 ≤ first
    → first < 192 → seen_in more pointers place octets ≡ []
seen_in-kind more pointers place first octets rest is least below = rw is (grind (arith, common_steps))

seen_in-short : (more : ℕ → ℕ → List (List ℕ)) (pointers place : ℕ) (octets : List ℕ) → NoLabel octets ShortInput
    → seen_in more pointers place octets ≡ []
seen_in-short more pointers place [] ends = refl
seen_in-short more pointers place (first ∷ rest) (inl short) = let few = short.0 in let less = short.1 in grind (arith, common_steps)
seen_in-short more zero place (first ∷ rest) (inr none) = let both = none.0 in grind (arith, common_steps)
seen_in-short more (suc pointers) place (first ∷ rest) (inr none) = let both = none.0 in rw none.1 (grind (arith, common_steps))

seen_in-fault : (more : ℕ → ℕ → List (List ℕ)) (pointers place : ℕ) (octets : List ℕ) (error : SplitLabelError) → NoLabel octets error
    → EndsThem pointers place error → seen_in more pointers place octets ≡ []
seen_in-fault more pointers place octets (Pointer target) at ends =
    seen_in-forward more pointers place target at.first at.second octets at.rest at.spelled at.both_bits at.is ends
seen_in-fault more pointers place octets (BadType Extended) at ends =
    seen_in-kind more pointers place at.first octets at.rest at.spelled at.from (let below = at.to in omega arith)
seen_in-fault more pointers place octets (BadType Undefined) at ends =
    seen_in-kind more pointers place at.first octets at.rest at.spelled (let least = at.from in omega arith) at.to
seen_in-fault more pointers place octets ShortInput at ends = seen_in-short more pointers place octets at

-- enough heads are looked at
pub most_heads-least : (len pointers : ℕ) → len + 1 ≤ most_heads len pointers
most_heads-least len zero = omega arith
most_heads-least len (suc pointers) = let more = most_heads-least len pointers in omega arith

abbrev IsEnough : List ℕ → ℕ → ℕ → ℕ → Type 0
IsEnough message heads pointers place = (0 < heads) × (most_heads (length message) pointers ≤ heads + place)

within : (message : List ℕ) (place : ℕ) (front rest : List ℕ) → drop place message ≡ front ++ rest → 0 < length front
    → place + length front ≤ length message
within message place front rest at some =
    omega (arith, ap (length {A = ℕ}) at, length-append front rest, length-drop place message)

enough_label : (message : List ℕ) (heads pointers place : ℕ) (text rest : List ℕ) → drop place message ≡ length text ∷ text ++ rest
    → IsEnough message (suc heads) pointers place → IsEnough message heads pointers (place + 1 + length text)
enough_label message heads pointers place text rest at enough =
    let in_message = within message place (length text ∷ text) rest at (omega arith) in
    let least = most_heads-least (length message) pointers in
    let here = enough.1 in
    (omega arith, omega arith)

enough_pointer : (message : List ℕ) (heads pointers place target first : ℕ) (rest : List ℕ) → drop place message ≡ first ∷ rest
    → IsEnough message (suc heads) (suc pointers) place → IsEnough message heads pointers target
enough_pointer message heads pointers place target first rest at enough =
    let in_message = within message place (first ∷ []) rest at (omega arith) in
    let least = most_heads-least (length message) pointers in
    let here = enough.1 in
    (omega arith, omega arith)

-- so what is found is what is seen
pub seen_by-seen : (message : List ℕ) (heads : ℕ) {pointers place : ℕ} {labels : List (List ℕ)} → Seen message pointers place labels
    → IsEnough message heads pointers place → seen_by message heads pointers place ≡ labels
unfolding seen_by
seen_by-seen message zero seen enough = absurd (omega (arith, enough.0))
seen_by-seen message (suc heads) (root rest at) enough = rw at refl
seen_by-seen message (suc heads) {pointers = pointers} {place = place} (label {label = text} rest at is_label behind) enough =
    let found = seen_by-seen message heads behind (enough_label message heads pointers place text rest at enough) in
    seen_in-label (seen_by message heads) pointers place (drop place message) text rest at is_label ∙ ap (λ more. text ∷ more) found
seen_by-seen message (suc heads) {place = place} (pointer {pointers = pointers} first second rest at both back behind) enough =
    seen_in-pointer (seen_by message heads) pointers place (drop place message) first second rest at both back
    ∙ seen_by-seen message heads behind (enough_pointer message heads pointers place _ first (second ∷ rest) at enough)
seen_by-seen message (suc heads) {pointers = pointers} {place = place} (fault error at ends) enough =
    seen_in-fault (seen_by message heads) pointers place (drop place message) error at ends

-- the first octets: one of four cases
data Front (octets : List ℕ) : ℕ → ℕ → Type 0 where
  at_root : {pointers place : ℕ} (rest : List ℕ) → octets ≡ 0 ∷ rest → Front octets pointers place
  at_label : {pointers place : ℕ} (text rest : List ℕ) → octets ≡ length text ∷ text ++ rest → IsLabel text → Front octets pointers place
  at_pointer : {pointers place : ℕ} (first second : ℕ) (rest : List ℕ) → octets ≡ first ∷ second ∷ rest → 192 ≤ first
      → 256 * (first - 192) + second < place → Front octets (suc pointers) place
  at_fault : {pointers place : ℕ} (error : SplitLabelError) → NoLabel octets error → EndsThem pointers place error → Front octets pointers place

front_pointer : (pointers place first : ℕ) (rest : List ℕ) → 192 ≤ first → Front (first ∷ rest) pointers place
front_pointer pointers place first [] both = at_fault ShortInput (inr (both, refl)) tt
front_pointer zero place first (second ∷ rest) both =
    at_fault (Pointer (256 * (first - 192) + second))
    (record { first = first; second = second; rest = rest; spelled = refl; both_bits = both; is = refl }) (inl refl)
front_pointer (suc pointers) place first (second ∷ rest) both = by_place (cases_lt (256 * (first - 192) + second) place)
  where
    by_place : (256 * (first - 192) + second < place) ⊎ (place ≤ 256 * (first - 192) + second) → Front (first ∷ second ∷ rest) (suc pointers) place
    by_place (inl back) = at_pointer first second rest refl both back
    by_place (inr forward) =
        at_fault (Pointer (256 * (first - 192) + second))
        (record { first = first; second = second; rest = rest; spelled = refl; both_bits = both; is = refl }) (inr forward)

front_high : (pointers place first : ℕ) (rest : List ℕ) → 64 ≤ first → Front (first ∷ rest) pointers place
front_high pointers place first rest least = by_extended (cases_lt first 128)
  where
    by_undefined : 128 ≤ first → (first < 192) ⊎ (192 ≤ first) → Front (first ∷ rest) pointers place
    by_undefined past (inl below) =
        at_fault (BadType Undefined) (record { first = first; rest = rest; spelled = refl; from = past; to = below }) tt
    by_undefined past (inr both) = front_pointer pointers place first rest both

    by_extended : (first < 128) ⊎ (128 ≤ first) → Front (first ∷ rest) pointers place
    by_extended (inl below) =
        at_fault (BadType Extended) (record { first = first; rest = rest; spelled = refl; from = least; to = below }) tt
    by_extended (inr past) = by_undefined past (cases_lt first 192)

front_low : (pointers place first : ℕ) (rest : List ℕ) → first < 64 → Front (first ∷ rest) pointers place
front_low pointers place zero rest below = at_root rest refl
front_low pointers place (suc less) rest below = by_len (cases_lt (length rest) (suc less))
  where
    by_len : (length rest < suc less) ⊎ (suc less ≤ length rest) → Front (suc less ∷ rest) pointers place
    by_len (inl short) = at_fault ShortInput (inl (omega arith, short)) tt
    by_len (inr long) =
        let size = length-take-le (suc less) rest long in
        at_label (take (suc less) rest) (drop (suc less) rest)
        (ap (λ n. n ∷ rest) (sym size) ∙ ap (λ l. length (take (suc less) rest) ∷ l) (sym (take-append-drop (suc less) rest)))
        (record { some = omega arith; short = omega arith })

front_of : (octets : List ℕ) (pointers place : ℕ) → Front octets pointers place
front_of [] pointers place = at_fault ShortInput tt tt
front_of (first ∷ rest) pointers place = by_first (cases_lt first 64)
  where
    by_first : (first < 64) ⊎ (64 ≤ first) → Front (first ∷ rest) pointers place
    by_first (inl below) = front_low pointers place first rest below
    by_first (inr least) = front_high pointers place first rest least

-- and it is seen
seen_front : (message : List ℕ) (heads : ℕ) {pointers place : ℕ}
    → ((pointers place : ℕ) → IsEnough message heads pointers place → Seen message pointers place (seen_by message heads pointers place))
    → Front (drop place message) pointers place → IsEnough message (suc heads) pointers place
    → Seen message pointers place (seen_in (seen_by message heads) pointers place (drop place message))
seen_front message heads more (at_root rest at) enough = rw at (root rest at)
seen_front message heads {pointers} {place} more (at_label text rest at is_label) enough =
    let P : List (List ℕ) → Type 0 = λ l. Seen message pointers place l in
    subst P (sym (seen_in-label (seen_by message heads) pointers place (drop place message) text rest at is_label))
    (label rest at is_label (more pointers (place + 1 + length text) (enough_label message heads pointers place text rest at enough)))
seen_front message heads {place = place} more (at_pointer {pointers = pointers} first second rest at both back) enough =
    let P : List (List ℕ) → Type 0 = λ l. Seen message (suc pointers) place l in
    subst P (sym (seen_in-pointer (seen_by message heads) pointers place (drop place message) first second rest at both back))
    (pointer first second rest at both back
    (more pointers (256 * (first - 192) + second) (enough_pointer message heads pointers place _ first (second ∷ rest) at enough)))
seen_front message heads {pointers} {place} more (at_fault error at ends) enough =
    let P : List (List ℕ) → Type 0 = λ l. Seen message pointers place l in
    subst P (sym (seen_in-fault (seen_by message heads) pointers place (drop place message) error at ends)) (fault error at ends)

pub seen-seen_by : (message : List ℕ) (heads pointers place : ℕ) → IsEnough message heads pointers place
    → Seen message pointers place (seen_by message heads pointers place)
unfolding seen_by
seen-seen_by message zero pointers place enough = absurd (omega (arith, enough.0))
seen-seen_by message (suc heads) pointers place enough =
    seen_front message heads (seen-seen_by message heads) (front_of (drop place message) pointers place) enough

enough_all : (message : List ℕ) (pointers place : ℕ) → IsEnough message (most_heads (length message) pointers) pointers place
enough_all message pointers place = let least = most_heads-least (length message) pointers in (omega arith, omega arith)

pub seen-labels_seen : (message : List ℕ) (pointers place : ℕ) → Seen message pointers place (labels_seen message pointers place)
unfolding labels_seen
seen-labels_seen message pointers place =
    seen-seen_by message (most_heads (length message) pointers) pointers place (enough_all message pointers place)

pub labels_seen-seen : (message : List ℕ) {pointers place : ℕ} {labels : List (List ℕ)} → Seen message pointers place labels
    → labels_seen message pointers place ≡ labels
unfolding labels_seen
labels_seen-seen message {pointers} {place} seen =
    seen_by-seen message (most_heads (length message) pointers) seen (enough_all message pointers place)

-- if a name is spelled, its labels are seen
pub seen-spelled : (message : List ℕ) {pointers place next : ℕ} {name : List (List ℕ)} → EncodesName message pointers place name next
    → Seen message pointers place (with_root name)
seen-spelled message (spelled_root rest at) = root rest at
seen-spelled message (spelled_label rest at is_label parent) = label rest at is_label (seen-spelled message parent)
seen-spelled message (spelled_pointer first second after rest at both back name) =
    pointer first second rest at both back (seen-spelled message name)

pub labels_seen-spelled : (message : List ℕ) {pointers place next : ℕ} {name : List (List ℕ)} → EncodesName message pointers place name next
    → labels_seen message pointers place ≡ with_root name
labels_seen-spelled message spells = labels_seen-seen message (seen-spelled message spells)

-- the next label is there
pub next_label : (message : List ℕ) (pointers start left place : ℕ) (text rest : List ℕ) → StartsWithLabel (drop place message) text rest
    → 0 < length text → ((labels : List (List ℕ)) → Seen message left place labels → Seen message pointers start labels)
    → labels_seen message pointers start ≡ text ∷ labels_seen message left (place + 1 + length text)
next_label message pointers start left place text rest starts some there =
    labels_seen-seen message
    (there _ (label rest starts.spelled (record { some = some; short = starts.short }) (seen-labels_seen message left (place + 1 + length text))))

pub next_root : (message : List ℕ) (pointers start left place : ℕ) (text rest : List ℕ) → StartsWithLabel (drop place message) text rest
    → text ≡ [] → ((labels : List (List ℕ)) → Seen message left place labels → Seen message pointers start labels)
    → labels_seen message pointers start ≡ text ∷ []
next_root message pointers start left place text rest starts none there =
    let P : List ℕ → Type 0 = λ t. drop place message ≡ length t ∷ t ++ rest in
    labels_seen-seen message (there ([] ∷ []) (root rest (subst P none starts.spelled))) ∙ ap (λ t. t ∷ []) (sym none)

-- a pointer is followed
pub seen_pointer : (message : List ℕ) (pointers place target : ℕ) (labels : List (List ℕ)) → StartsWithPointer (drop place message) target
    → target < place → 0 < pointers → Seen message (pointers - 1) target labels → Seen message pointers place labels
seen_pointer message zero place target labels at back some seen = absurd (omega arith)
seen_pointer message (suc pointers) place target labels at back some seen =
    let less : suc pointers - 1 ≡ pointers = omega arith in
    let P : ℕ → Type 0 = λ p. Seen message p target labels in
    let Q : ℕ → Type 0 = λ t. Seen message pointers t labels in
    pointer at.first at.second at.rest at.spelled at.both_bits (let is = at.is in omega arith) (subst Q at.is (subst P less seen))

pub some_octets : (octets : List ℕ) → (octets ≡ [] → false ≡ true) → 0 < length octets
some_octets [] some = let no = some refl in cc
some_octets (octet ∷ octets) some = omega arith

-- there are no more labels than heads
length-seen_in : (more : ℕ → ℕ → List (List ℕ)) (heads pointers place : ℕ) (octets : List ℕ)
    → ((pointers place : ℕ) → length (more pointers place) ≤ heads) → length (seen_in more pointers place octets) ≤ heads + 1
length-seen_in more heads pointers place octets few = by_front (front_of octets pointers place)
  where
    by_front : {pointers : ℕ} → Front octets pointers place → length (seen_in more pointers place octets) ≤ heads + 1
    by_front (at_root rest is) = rw is (omega arith)
    by_front {pointers = pointers} (at_label text rest is is_label) =
        rw (seen_in-label more pointers place octets text rest is is_label) (let less = few pointers (place + 1 + length text) in omega arith)
    by_front (at_pointer {pointers = pointers} first second rest is both back) =
        rw (seen_in-pointer more pointers place octets first second rest is both back)
        (let less = few pointers (256 * (first - 192) + second) in omega arith)
    by_front {pointers = pointers} (at_fault error is ends) =
        rw (seen_in-fault more pointers place octets error is ends) (omega arith)

length-seen_by : (message : List ℕ) (heads pointers place : ℕ) → length (seen_by message heads pointers place) ≤ heads
unfolding seen_by
length-seen_by message zero pointers place = omega arith
length-seen_by message (suc heads) pointers place =
    let less = length-seen_in (seen_by message heads) heads pointers place (drop place message) (length-seen_by message heads) in
    omega arith

most_heads-is : (len pointers : ℕ) → most_heads len pointers ≡ (pointers + 1) * (len + 1)
most_heads-is len zero = omega arith
most_heads-is len (suc pointers) = let more = most_heads-is len pointers in grind arith

pub length-labels_seen : (message : List ℕ) (pointers place : ℕ)
    → length (labels_seen message pointers place) ≤ (pointers + 1) * (length message + 1)
unfolding labels_seen
length-labels_seen message pointers place =
    let most = length-seen_by message (most_heads (length message) pointers) pointers place in
    omega (arith, most_heads-is (length message) pointers)
