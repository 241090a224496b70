-- Parts of absolute names in octets.
use Rattle.std.proofs.Common.{◌≡◌, ℕ, ◌+◌, ◌≤◌, List, [], ◌∷◌, ◌++◌, length, take, drop, refl, sym, ◌∙◌, ap, subst, arith, append-nil, length-append}
use Rattle.dns_label.specs.Name.{IsName, wire, labels_wire, with_root}
use Rattle.dns_wire.specs.Flat.{IsWritten}
use Rattle.dns_wire.specs.FlatLabels.{AreLabels, flat_labels}
use Rattle.dns_wire.specs.Parts.{IsLabelStart, IsBack}
use Rattle.dns_wire.proofs.Case.{wire_one}
use Rattle.dns_wire.proofs.Flat.{flat-written}
use Rattle.dns_wire.proofs.FlatForms.{are_labels, flat_is, short_with_root, relative-written, labels_wire_one, drop_front, take_front, start_within, name_part}
use Rattle.dns_wire.proofs.Readable.{name_behind}
use Rattle.dns_wire.proofs.Wire.{length-wire_is, wire_is, labels_wire-with_root}

-- all octets but the root's
pub rootless : {octets taken : List ℕ} (name : List (List ℕ)) (place : ℕ) → octets ≡ wire name → place + 1 ≡ length octets
    → taken ≡ take place octets → taken ≡ labels_wire name
rootless name place is at got =
    got ∙ take_front name [] place (0 ∷ []) (is ∙ wire_is name) (sym (append-nil name))
    (omega (arith, ap (length {A = ℕ}) is, length-wire_is name))

pub rootless_written : {octets taken : List ℕ} (name : List (List ℕ)) (place : ℕ) → IsName name → octets ≡ wire name → place + 1 ≡ length octets
    → taken ≡ take place octets → IsWritten (taken ++ 0 ∷ [])
rootless_written {taken = taken} name place is_name is at got = relative-written taken name is_name (rootless name place is at got)

pub rootless_is : {octets taken : List ℕ} {part : List (List ℕ)} (name : List (List ℕ)) (place : ℕ) → octets ≡ wire name → place + 1 ≡ length octets
    → taken ≡ take place octets → taken ≡ labels_wire part → part ≡ name
rootless_is {part = part} name place is at got made = labels_wire_one part name (sym made ∙ rootless name place is at got)

pub some_octet : {octets : List ℕ} (name : List (List ℕ)) → octets ≡ wire name → 1 ≤ length octets
some_octet name is = omega (arith, ap (length {A = ℕ}) is, length-wire_is name)

-- the octets from a label's start on
pub from_start : {octets taken : List ℕ} {name : List (List ℕ)} {place : ℕ} → octets ≡ wire name → (start : IsLabelStart name place)
    → taken ≡ drop place octets → taken ≡ wire start.back
from_start {name = name} {place = place} is start got =
    got ∙ drop_front start.front start.back place (0 ∷ []) (is ∙ wire_is name) start.whole start.at ∙ sym (wire_is start.back)

pub from_within : {octets : List ℕ} {name : List (List ℕ)} {place : ℕ} → octets ≡ wire name → (start : IsLabelStart name place)
    → place ≤ length octets
from_within {name = name} {place = place} is start =
    start_within start.front start.back place (0 ∷ []) (is ∙ wire_is name) start.whole start.at

pub from_written : {octets taken : List ℕ} {name : List (List ℕ)} {place : ℕ} → octets ≡ wire name → IsName name
    → (start : IsLabelStart name place) → taken ≡ drop place octets → IsWritten taken
from_written {taken = taken} is is_name start got =
    flat-written taken start.back (name_part is_name start.whole).1 (from_start is start got)

pub from_is : {octets taken : List ℕ} {name part : List (List ℕ)} {place : ℕ} → octets ≡ wire name → (start : IsLabelStart name place)
    → taken ≡ drop place octets → taken ≡ wire part → IsBack name place part
from_is {part = part} is start got made =
    let same : part ≡ start.back = wire_one part start.back (sym made ∙ from_start is start got) in
    record { front = start.front; whole = start.whole ∙ ap (λ l. start.front ++ l) (sym same); at = start.at }

-- the labels, the root's too
pub rooted : {octets : List ℕ} (name : List (List ℕ)) → octets ≡ wire name → octets ≡ labels_wire (with_root name)
rooted name is = is ∙ sym (labels_wire-with_root name)

pub name_labels : {octets : List ℕ} (name : List (List ℕ)) → IsName name → octets ≡ wire name → AreLabels octets
name_labels {octets} name is_name is = are_labels octets (with_root name) (rooted name is) (short_with_root name is_name.labels)

pub flat_rooted : {octets : List ℕ} (name : List (List ℕ)) → octets ≡ wire name → flat_labels octets ≡ with_root name
flat_rooted {octets} name is = flat_is octets (with_root name) (rooted name is)

pub never_none : (name : List (List ℕ)) → with_root name ≡ [] → ⊥
never_none name none = omega (arith, ap (length {A = List ℕ}) none, length-append name ([] ∷ []))

-- the first label
pub record First (name : List (List ℕ)) (text behind : List ℕ) : Type 0 where
  pub parent : List (List ℕ)
  pub name_is : name ≡ text ∷ parent
  pub behind_is : behind ≡ wire parent

first_by : (name : List (List ℕ)) (text behind : List ℕ) (more : List (List ℕ)) → with_root name ≡ text ∷ more → behind ≡ labels_wire more
    → (text ≡ [] → ⊥) → First name text behind
first_by [] text behind more is left some = let e : text ≡ [] = cc in absurd (some e)
first_by (first ∷ name) text behind more is left some =
    let e : first ≡ text = cc in
    let f : with_root name ≡ more = cc in
    record {
      parent = name;
      name_is = ap (λ l. l ∷ name) e;
      behind_is = left ∙ ap labels_wire (sym f) ∙ labels_wire-with_root name;
    }

pub first_of : {octets text behind : List ℕ} (name : List (List ℕ)) → octets ≡ wire name → flat_labels octets ≡ text ∷ flat_labels behind
    → AreLabels behind → (text ≡ [] → ⊥) → First name text behind
first_of {octets} {text} {behind} name is found are some =
    first_by name text behind (flat_labels behind) (sym (flat_rooted name is) ∙ found) are.whole some

pub parent_name : {text behind : List ℕ} {name : List (List ℕ)} → IsName name → (first : First name text behind) → IsName first.parent
parent_name {text} is_name first =
    let P : List (List ℕ) → Type 0 = λ n. IsName n in name_behind text first.parent (subst P first.name_is is_name)

pub first_parent : {text behind : List ℕ} {name : List (List ℕ)} → IsName name → First name text behind → IsWritten behind
first_parent {text} {behind} is_name first =
    let P : List (List ℕ) → Type 0 = λ n. IsName n in
    flat-written behind first.parent (name_behind text first.parent (subst P first.name_is is_name)) first.behind_is

pub first_is : {text behind : List ℕ} {name part : List (List ℕ)} → First name text behind → behind ≡ wire part → name ≡ text ∷ part
first_is {text} {part = part} first made =
    first.name_is ∙ ap (λ l. text ∷ l) (wire_one first.parent part (sym first.behind_is ∙ made))

none_by : (name : List (List ℕ)) (text : List ℕ) (more : List (List ℕ)) → IsName name → with_root name ≡ text ∷ more → text ≡ [] → name ≡ []
none_by [] text more is_name is none = refl
none_by (first ∷ name) text more is_name is none =
    let e : first ≡ text = cc in
    absurd (omega (arith, is_name.labels.0.some, ap (length {A = ℕ}) (e ∙ none)))

pub first_root : {octets text : List ℕ} (behind : List ℕ) (name : List (List ℕ)) → IsName name → octets ≡ wire name → flat_labels octets ≡ text ∷ flat_labels behind
    → text ≡ [] → name ≡ []
first_root {text = text} behind name is_name is found none =
    none_by name text (flat_labels behind) is_name (sym (flat_rooted name is) ∙ found) none
