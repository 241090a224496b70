-- Labels at a place.
use Rattle.std.proofs.Common.{◌≡◌, ℕ, ◌+◌, ◌≤◌, zero, suc, List, [], ◌∷◌, length, drop, refl, ◌∙◌, ap, subst, arith}
use Rattle.std.specs.Prelude.{Option, Some, None, slice_get}
use Rattle.dns_label.specs.Name.{IsName, labels_wire, with_root}
use Rattle.dns_label.specs.Labels.{labels_at}
use Rattle.dns_wire.specs.Parsed.{IsLeft, labels_left, LabelsStandAt}
use Rattle.dns_wire.proofs.Wire.{labels_wire-with_root}

-- the first item of what is left, and what is left after it
pub front_item : {A : Type 0} (items : List A) (index : ℕ) (item : A) (rest : List A) → drop index items ≡ item ∷ rest
    → Some item ≡ slice_get items index
front_item [] zero item rest is = cc
front_item [] (suc index) item rest is = cc
front_item (first ∷ items) zero item rest is = let e : item ≡ first = cc in ap Some e
front_item (first ∷ items) (suc index) item rest is = front_item items index item rest is

pub front_rest : {A : Type 0} (items : List A) (index : ℕ) (item : A) (rest : List A) → drop index items ≡ item ∷ rest
    → drop (index + 1) items ≡ rest
front_rest [] zero item rest is = cc
front_rest [] (suc index) item rest is = cc
front_rest (first ∷ items) zero item rest is = cc
front_rest (first ∷ items) (suc index) item rest is =
    let e : suc index + 1 ≡ suc (index + 1) = omega arith in
    ap (λ (n : ℕ). drop n (first ∷ items)) e ∙ front_rest items index item rest is

pub no_item : {A : Type 0} (items : List A) (index : ℕ) → drop index items ≡ [] → None ≡ slice_get items index
no_item [] zero is = refl
no_item [] (suc index) is = refl
no_item (first ∷ items) zero is = cc
no_item (first ∷ items) (suc index) is = no_item items index is

-- what the label that is split off at the place says
pub stands-left : {message octets : List ℕ} {labels : List (List ℕ)} {index : ℕ} {place : Option ℕ} {here : ℕ} {text : List ℕ} (next : Option ℕ)
    → LabelsStandAt message labels index place → place ≡ Some here → octets ≡ message
    → with_root (labels_at octets here) ≡ text ∷ labels_left octets next
    → drop index labels ≡ text ∷ labels_left message next
stands-left {message} {here = here} {text = text} next stands is same labels =
    let P : List ℕ → Type 0 = λ o. with_root (labels_at o here) ≡ text ∷ labels_left o next in
    stands.is ∙ ap (labels_left message) is ∙ subst P same labels

pub stands-label : {message octets : List ℕ} {labels : List (List ℕ)} {index : ℕ} {place : Option ℕ} {here : ℕ} {text : List ℕ} (next : Option ℕ)
    → LabelsStandAt message labels index place → place ≡ Some here → octets ≡ message
    → with_root (labels_at octets here) ≡ text ∷ labels_left octets next
    → Some text ≡ slice_get labels index
stands-label {labels = labels} {index = index} {text = text} next stands is same behind =
    front_item labels index text _ (stands-left next stands is same behind)

pub stands-next : {message octets : List ℕ} {labels : List (List ℕ)} {index : ℕ} {place : Option ℕ} {here : ℕ} {text : List ℕ} (next : Option ℕ)
    → LabelsStandAt message labels index place → place ≡ Some here → octets ≡ message
    → with_root (labels_at octets here) ≡ text ∷ labels_left octets next → IsLeft octets next
    → LabelsStandAt message labels (index + 1) next
stands-next {labels = labels} {index = index} {text = text} next stands is same behind left =
    let P : List ℕ → Type 0 = λ o. IsLeft o next in
    record {
      left = subst P same left;
      is = front_rest labels index text _ (stands-left next stands is same behind);
    }

pub stands-none : {message : List ℕ} {labels : List (List ℕ)} {index : ℕ} {place : Option ℕ}
    → LabelsStandAt message labels index place → place ≡ None → None ≡ slice_get labels index
stands-none {message} {labels} {index} stands none = no_item labels index (stands.is ∙ ap (labels_left message) none)

-- the octets of the labels of a name
pub short_wire : (name : List (List ℕ)) → IsName name → length (labels_wire (with_root name)) ≤ 255
short_wire name is_name = omega (arith, is_name.short, ap (length {A = ℕ}) (labels_wire-with_root name))
