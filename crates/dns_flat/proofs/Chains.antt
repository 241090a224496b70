-- Chains of two names.
use Rattle.std.proofs.Common.{◌≡◌, ℕ, ◌+◌, ◌<◌, ◌≤◌, ◌⊎◌, List, [], ◌∷◌, ◌++◌, length, refl, sym, ◌∙◌, ap, arith, append_assoc, subst, length-append, inl, inr}
use Rattle.std.specs.List.{AllByRecursion}
use mathlib.Core.Logic.{∥∥₁_map}
use Rattle.dns_label.specs.Name.{IsLabel, IsName, wire, labels_wire, with_root}
use Rattle.dns_wire.specs.Chain.{before_root, AreOfName}
use Rattle.dns_wire.proofs.FlatForms.{wire-append}
use Rattle.dns_wire.proofs.Readable.{none_from_merely}
use Rattle.dns_flat.proofs.Standing.{short_wire}
use Rattle.dns_wire.proofs.Wire.{few_labels, length-wire_is, labels_wire-append}

before_name : (name : List (List ℕ)) → AllByRecursion IsLabel name → before_root name ≡ name
before_name [] each = refl
before_name ([] ∷ name) each = absurd (omega (arith, each.0.some))
before_name ((octet ∷ text) ∷ name) each = ap (λ l. (octet ∷ text) ∷ l) (before_name name each.1)

before_rooted : (name : List (List ℕ)) → AllByRecursion IsLabel name → before_root (with_root name) ≡ name
before_rooted [] each = refl
before_rooted ([] ∷ name) each = absurd (omega (arith, each.0.some))
before_rooted ((octet ∷ text) ∷ name) each = ap (λ l. (octet ∷ text) ∷ l) (before_rooted name each.1)

before_of : {labels : List (List ℕ)} (are : AreOfName labels) → before_root labels ≡ are.name
before_of are = by_case are.name are.is_name.labels are.listed
  where
    by_case : {labels : List (List ℕ)} (name : List (List ℕ)) → AllByRecursion IsLabel name → (labels ≡ name) ⊎ (labels ≡ with_root name)
        → before_root labels ≡ name
    by_case name each (inl is) = ap before_root is ∙ before_name name each
    by_case name each (inr is) = ap before_root is ∙ before_rooted name each

all_labels : (front more : List (List ℕ)) → AllByRecursion IsLabel front → AllByRecursion IsLabel more → AllByRecursion IsLabel (front ++ more)
all_labels [] more each others = others
all_labels (text ∷ front) more each others = (each.0, all_labels front more each.1 others)

listed_on : (front : List (List ℕ)) {labels name : List (List ℕ)} → (labels ≡ name) ⊎ (labels ≡ with_root name)
    → (front ++ labels ≡ front ++ name) ⊎ (front ++ labels ≡ with_root (front ++ name))
listed_on front (inl is) = inl (ap (λ l. front ++ l) is)
listed_on front {name = name} (inr is) = inr (ap (λ l. front ++ l) is ∙ sym (append_assoc front name ([] ∷ [])))

both_of : (front labels : List (List ℕ)) → IsName front → length (labels_wire front) + length (labels_wire (before_root labels)) ≤ 254
    → AreOfName labels → AreOfName (front ++ labels)
both_of front labels is_name few are =
    let long = ap (λ (l : List (List ℕ)). length (labels_wire l)) (before_of are) in
    record {
      name = front ++ are.name;
      is_name = record {
        labels = all_labels front are.name is_name.labels are.is_name.labels;
        short = omega (arith, ap (length {A = ℕ}) (wire-append front are.name), length-append (labels_wire front) (wire are.name), length-wire_is are.name);
      };
      listed = listed_on front are.listed;
    }

-- a relative name followed by another one
pub chain_are : (front labels : List (List ℕ)) → IsName front → length (labels_wire front) + length (labels_wire (before_root labels)) ≤ 254
    → ∥ AreOfName labels ∥₁ → ∥ AreOfName (front ++ labels) ∥₁
chain_are front labels is_name few there = ∥∥₁_map there (both_of front labels is_name few)

few_by : {labels : List (List ℕ)} (name : List (List ℕ)) → IsName name → (labels ≡ name) ⊎ (labels ≡ with_root name) → length labels ≤ 128
few_by name is_name (inl is) = omega (arith, few_labels name is_name, length-append name ([] ∷ []), ap (length {A = List ℕ}) is)
few_by name is_name (inr is) = omega (arith, few_labels name is_name, ap (length {A = List ℕ}) is)

short_by : {labels : List (List ℕ)} (name : List (List ℕ)) → IsName name → (labels ≡ name) ⊎ (labels ≡ with_root name) → length (labels_wire labels) ≤ 255
short_by name is_name (inl is) = omega (arith, is_name.short, length-wire_is name, ap (λ (l : List (List ℕ)). length (labels_wire l)) is)
short_by name is_name (inr is) = omega (arith, short_wire name is_name, ap (λ (l : List (List ℕ)). length (labels_wire l)) is)

pub are_few : (labels : List (List ℕ)) → ∥ AreOfName labels ∥₁ → (128 < length labels → ⊥)
are_few labels there many = none_from_merely there (λ are. let few = few_by are.name are.is_name are.listed in omega arith)

pub are_short : (labels : List (List ℕ)) → ∥ AreOfName labels ∥₁ → (255 < length (labels_wire labels) → ⊥)
are_short labels there many = none_from_merely there (λ are. let few = short_by are.name are.is_name are.listed in omega arith)

pub length-labels_wire-append : (front more : List (List ℕ)) → length (labels_wire (front ++ more)) ≡ length (labels_wire front) + length (labels_wire more)
length-labels_wire-append front more = ap (length {A = ℕ}) (labels_wire-append front more) ∙ length-append (labels_wire front) (labels_wire more)

-- the labels before the root's have no more octets than all
pub before_less : (labels : List (List ℕ)) → length (labels_wire (before_root labels)) ≤ length (labels_wire labels)
before_less [] = omega arith
before_less ([] ∷ labels) = omega arith
before_less ((octet ∷ text) ∷ labels) =
    omega (arith, before_less labels, length-append text (labels_wire labels), length-append text (labels_wire (before_root labels)))

pub before_step : {labels rest : List (List ℕ)} {text : List ℕ} → labels ≡ text ∷ rest → (text ≡ [] → ⊥)
    → length (labels_wire (before_root labels)) ≡ length text + 1 + length (labels_wire (before_root rest))
before_step {rest = rest} {text = []} is some = absurd (some refl)
before_step {rest = rest} {text = octet ∷ text} is some =
    omega (arith, ap (λ (l : List (List ℕ)). length (labels_wire (before_root l))) is, length-append text (labels_wire (before_root rest)))

-- a relative name followed by an absolute one
pub joined_name : (front name : List (List ℕ)) → IsName front → IsName name → length (labels_wire front) + length (wire name) ≤ 255 → IsName (front ++ name)
joined_name front name is_name is_other few = record {
  labels = all_labels front name is_name.labels is_other.labels;
  short = omega (arith, ap (length {A = ℕ}) (wire-append front name), length-append (labels_wire front) (wire name));
}

pub never_rooted : (name : List (List ℕ)) → AllByRecursion IsLabel (with_root name) → ⊥
never_rooted [] each = omega (arith, each.0.some)
never_rooted (text ∷ name) each = never_rooted name each.1

room_by : {labels : List (List ℕ)} (name : List (List ℕ)) → AllByRecursion IsLabel labels → IsName name → (labels ≡ name) ⊎ (labels ≡ with_root name)
    → length (labels_wire labels) ≤ 254
room_by name each is_name (inl is) = omega (arith, is_name.short, length-wire_is name, ap (λ (l : List (List ℕ)). length (labels_wire l)) is)
room_by name each is_name (inr is) =
    let P : List (List ℕ) → Type 0 = λ l. AllByRecursion IsLabel l in absurd (never_rooted name (subst P is each))

-- two relative names in a row
pub joined_relative : (front more : List (List ℕ)) → IsName front → IsName more → ∥ AreOfName (front ++ more) ∥₁ → IsName (front ++ more)
joined_relative front more is_name is_other there =
    let each = all_labels front more is_name.labels is_other.labels in
    let few : 254 < length (labels_wire (front ++ more)) → ⊥ =
    λ many. none_from_merely there (λ are. let room = room_by are.name each are.is_name are.listed in omega arith) in
    record { labels = each; short = omega (arith, length-wire_is (front ++ more)) }
