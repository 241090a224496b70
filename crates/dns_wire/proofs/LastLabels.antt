-- The last of the labels that are left, which is found from the left.
use Rattle.std.proofs.Common.{◌≡◌, ℕ, ◌+◌, ◌≤◌, zero, suc, List, [], ◌∷◌, ◌++◌, length, take, refl, sym, ◌∙◌, ap, arith, append_assoc, append-nil, length-append, length-take, subst}
use Rattle.std.specs.Prelude.{Option, Some, None}
use Rattle.std.specs.List.{AllByRecursion}
use Rattle.dns_label.specs.declared.label.Label.{Label}
use Rattle.dns_label.specs.Label.{label_octets}
use Rattle.dns_label.specs.Name.{labels_wire}
use Rattle.dns_wire.specs.FlatLabels.{AreLabels, IsShort, flat_labels}
use Rattle.dns_wire.proofs.FlatForms.{are_labels, flat_is, take_front}
use Rattle.dns_wire.proofs.Wire.{length-labels_wire_more}

-- how far a walk over labels has come: the last label, the number of labels before it, and what is left
abbrev pub Walked : List (List ℕ) → List (List ℕ) → ℕ → Option (ℕ × Label) → Type 0
Walked all left count None = (all ≡ left) × (count ≡ 0)
Walked all left count (Some last) =
    (front : List (List ℕ)) × (all ≡ front ++ (label_octets last.1 ∷ left)) × (last.0 ≡ length front) × (count ≡ last.0 + 1)

pub walked_on : (all left next : List (List ℕ)) (count : ℕ) (last : Option (ℕ × Label)) (label : Label) → Walked all left count last
    → left ≡ label_octets label ∷ next → Walked all next (count + 1) (Some (count, label))
walked_on all left next count None label at is = ([], at.0 ∙ is, at.1, refl)
walked_on all left next count (Some last) label at is = (
  at.0 ++ (label_octets last.1 ∷ []),
  at.1 ∙ ap (λ l. at.0 ++ (label_octets last.1 ∷ l)) is ∙ sym (append_assoc at.0 (label_octets last.1 ∷ []) (label_octets label ∷ next)),
  omega (arith, at.2, at.3, length-append at.0 (label_octets last.1 ∷ [])),
  refl,
)

pub walked_few : (all left : List (List ℕ)) (count : ℕ) (last : Option (ℕ × Label)) → Walked all left count last
    → count + length left ≡ length all
walked_few all left count None at = omega (arith, at.1, ap (length {A = List ℕ}) at.0)
walked_few all left count (Some last) at =
    omega (arith, at.2, at.3, ap (length {A = List ℕ}) at.1, length-append at.0 (label_octets last.1 ∷ left))

-- as many labels as there were before it
pub take_less : (most : ℕ) (labels front : List (List ℕ)) (label : List ℕ) → take most labels ≡ front ++ (label ∷ [])
    → take (length front) labels ≡ front
take_less most labels [] label is = refl
take_less zero labels (text ∷ front) label is = cc
take_less (suc most) [] (text ∷ front) label is = cc
take_less (suc most) (first ∷ labels) (text ∷ front) label is =
    let e : first ≡ text = cc in
    let f : take most labels ≡ front ++ (label ∷ []) = cc in
    let n : length (text ∷ front) ≡ suc (length front) = omega arith in
    ap (λ (n : ℕ). take n (first ∷ labels)) n ∙ ap (λ l. first ∷ l) (take_less most labels front label f) ∙ ap (λ t. t ∷ front) e

pub take_next : {labels rest : List (List ℕ)} {label : List ℕ} (most less : ℕ) → most ≡ less + 1 → labels ≡ label ∷ rest
    → take most labels ≡ label ∷ take less rest
take_next {labels = labels} most less more is =
    let n : most ≡ suc less = omega arith in ap (λ (n : ℕ). take n labels) n ∙ ap (take (suc less)) is

take_nil : (most : ℕ) → take {A = List ℕ} most [] ≡ []
take_nil zero = refl
take_nil (suc most) = refl

pub take_none : {labels : List (List ℕ)} (most : ℕ) → labels ≡ [] → take most labels ≡ []
take_none most none = ap (take most) none ∙ take_nil most

pub take_few : (most : ℕ) (labels : List (List ℕ)) → length (take most labels) ≤ most
take_few most labels = omega (arith, length-take most labels)

-- what the walk ends with
pub walked_back : (all left : List (List ℕ)) (count : ℕ) (labels : List (List ℕ)) (most : ℕ) {found : Option (ℕ × Label)} (last : ℕ × Label) → Walked all left count found
    → found ≡ Some last → left ≡ [] → all ≡ take most labels → all ≡ take last.0 labels ++ (label_octets last.1 ∷ [])
walked_back all left count labels most last walked found none is =
    let P : Option (ℕ × Label) → Type 0 = λ f. Walked all left count f in
    let at = subst P found walked in
    let whole = at.1 ∙ ap (λ l. at.0 ++ (label_octets last.1 ∷ l)) none in
    let front : take last.0 labels ≡ at.0 =
    ap (λ (n : ℕ). take n labels) at.2 ∙ take_less most labels at.0 (label_octets last.1) (sym is ∙ whole) in
    whole ∙ ap (λ l. l ++ (label_octets last.1 ∷ [])) (sym front)

-- a label of flat octets, with the labels before it and the octets after it
pub record Stands (octets : List ℕ) (text rest : List ℕ) : Type 0 where
  pub front : List (List ℕ)
  pub whole : flat_labels octets ≡ front ++ (text ∷ flat_labels rest)
  pub are : AreLabels rest

pub stands_next : {octets text rest label behind : List ℕ} → Stands octets text rest → flat_labels rest ≡ label ∷ flat_labels behind → AreLabels behind
    → Stands octets label behind
stands_next {text = text} {label = label} {behind = behind} stands is are = record {
  front = stands.front ++ (text ∷ []);
  whole = stands.whole ∙ ap (λ l. stands.front ++ (text ∷ l)) is ∙ sym (append_assoc stands.front (text ∷ []) (label ∷ flat_labels behind));
  are = are;
}

short_front : (front : List (List ℕ)) (text : List ℕ) → AllByRecursion IsShort (front ++ (text ∷ [])) → AllByRecursion IsShort front
short_front [] text each = tt
short_front (label ∷ front) text each = (each.0, short_front front text each.1)

-- the octets before the last label
pub record Cuts (octets text part : List ℕ) : Type 0 where
  pub whole : flat_labels octets ≡ flat_labels part ++ (text ∷ [])
  pub are : AreLabels part

last_whole : {octets text rest : List ℕ} (stands : Stands octets text rest) → flat_labels rest ≡ [] → flat_labels octets ≡ stands.front ++ (text ∷ [])
last_whole {text = text} stands none = stands.whole ∙ ap (λ l. stands.front ++ (text ∷ l)) none

pub last_length : {octets text rest : List ℕ} → AreLabels octets → (stands : Stands octets text rest) → flat_labels rest ≡ []
    → length octets ≡ length (labels_wire stands.front) + 1 + length text
last_length {text = text} are stands none =
    ap (length {A = ℕ}) are.whole ∙ ap (λ (l : List (List ℕ)). length (labels_wire l)) (last_whole stands none) ∙ length-labels_wire_more stands.front text

pub cut_last : {octets text rest part : List ℕ} (place : ℕ) → AreLabels octets → Stands octets text rest → flat_labels rest ≡ []
    → place + 1 + length text ≡ length octets → part ≡ take place octets → Cuts octets text part
cut_last {octets = octets} {text = text} {part = part} place are stands none at is =
    let whole = last_whole stands none in
    let long = last_length are stands none in
    let P : List (List ℕ) → Type 0 = λ l. AllByRecursion IsShort l in
    let here : part ≡ labels_wire stands.front =
    is ∙ take_front stands.front (text ∷ []) place [] (are.whole ∙ sym (append-nil (labels_wire (flat_labels octets)))) whole (omega arith) in
    record {
      whole = whole ∙ ap (λ l. l ++ (text ∷ [])) (sym (flat_is part stands.front here));
      are = are_labels part stands.front here (short_front stands.front text (subst P whole are.short));
    }
