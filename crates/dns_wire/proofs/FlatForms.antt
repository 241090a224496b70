-- Labels that are written one after another, and runs of them.
use Rattle.std.proofs.Common.{◌≡◌, ℕ, ◌≤◌, zero, suc, List, [], ◌∷◌, ◌++◌, length, take, drop, refl, sym, ◌∙◌, ap, subst, arith, append_assoc, length-append}
use Rattle.std.proofs.Math.Seq.{take-append_seam, drop-append_seam}
use Rattle.std.specs.List.{AllByRecursion}
use Rattle.dns_label.specs.Name.{IsLabel, IsName, wire, labels_wire, with_root}
use Rattle.dns_label.specs.Labels.{labels_at}
use Rattle.dns_label.specs.Split.{StartsWithLabel, NoLabel}
use Rattle.dns_label.specs.declared.label.SplitLabelError.{SplitLabelError}
use Rattle.dns_wire.specs.Flat.{IsWritten}
use Rattle.dns_wire.specs.FlatLabels.{labels_within, flat_labels, IsShort, AreLabels}
use Rattle.dns_wire.proofs.Flat.{same_front, no_label_no_front, flat-written, flat-labels}
use Rattle.dns_wire.proofs.Wire.{labels_wire-append, wire_is, length-wire_is}

pub length-labels_wire : (labels : List (List ℕ)) → length labels ≤ length (labels_wire labels)
length-labels_wire [] = omega arith
length-labels_wire (text ∷ labels) = omega (arith, length-labels_wire labels, length-append text (labels_wire labels))

within_wire : (count : ℕ) (labels : List (List ℕ)) → length labels ≤ count → labels_within count (labels_wire labels) ≡ labels
unfolding labels_within
within_wire zero [] few = refl
within_wire zero (text ∷ labels) few = absurd (omega arith)
within_wire (suc count) [] few = refl
within_wire (suc count) (text ∷ labels) few =
    ap (λ l. l ∷ labels_within count (drop (length text) (text ++ labels_wire labels))) (take-append_seam text (labels_wire labels))
    ∙ ap (λ l. text ∷ labels_within count l) (drop-append_seam text (labels_wire labels))
    ∙ ap (λ l. text ∷ l) (within_wire count labels (omega arith))

-- the labels found in the octets of labels are these
pub flat_labels-wire : (labels : List (List ℕ)) → flat_labels (labels_wire labels) ≡ labels
unfolding flat_labels
flat_labels-wire labels = within_wire (length (labels_wire labels)) labels (length-labels_wire labels)

pub are_labels : (octets : List ℕ) (labels : List (List ℕ)) → octets ≡ labels_wire labels → AllByRecursion IsShort labels
    → AreLabels octets
are_labels octets labels is short =
    let found : flat_labels octets ≡ labels = ap flat_labels is ∙ flat_labels-wire labels in
    let P : List (List ℕ) → Type 0 = λ l. AllByRecursion IsShort l in
    record { whole = is ∙ ap labels_wire (sym found); short = subst P (sym found) short }

pub flat_is : (octets : List ℕ) (labels : List (List ℕ)) → octets ≡ labels_wire labels → flat_labels octets ≡ labels
flat_is octets labels is = ap flat_labels is ∙ flat_labels-wire labels

pub short_labels : (labels : List (List ℕ)) → AllByRecursion IsLabel labels → AllByRecursion IsShort labels
short_labels [] each = tt
short_labels (text ∷ labels) each = (each.0.short, short_labels labels each.1)

pub short_with_root : (labels : List (List ℕ)) → AllByRecursion IsLabel labels → AllByRecursion IsShort (with_root labels)
short_with_root [] each = (omega arith, tt)
short_with_root (text ∷ labels) each = (each.0.short, short_with_root labels each.1)

-- the first label of such octets
pub record Splits (octets text behind : List ℕ) : Type 0 where
  pub labels : flat_labels octets ≡ text ∷ flat_labels behind
  pub are : AreLabels behind

splits_by : (octets text behind : List ℕ) (labels : List (List ℕ)) → octets ≡ labels_wire labels → AllByRecursion IsShort labels
    → StartsWithLabel octets text behind → Splits octets text behind
splits_by octets text behind [] is short at = let a = at.spelled in cc
splits_by octets text behind (first ∷ labels) is short at =
    let whole : length text ∷ text ++ behind ≡ length first ∷ first ++ labels_wire labels = sym at.spelled ∙ is in
    let long : length text ≡ length first = cc in
    let rest : text ++ behind ≡ first ++ labels_wire labels = cc in
    let both = same_front text first behind (labels_wire labels) rest long in
    let are = are_labels behind labels both.1 short.1 in
    record {
      labels = flat_is octets (first ∷ labels) is ∙ ap (λ l. l ∷ labels) (sym both.0) ∙ ap (λ l. text ∷ l) (sym (flat_is behind labels both.1));
      are = are;
    }

pub splits : (octets text behind : List ℕ) → AreLabels octets → StartsWithLabel octets text behind → Splits octets text behind
splits octets text behind are at = splits_by octets text behind (flat_labels octets) are.whole are.short at

front_by : (octets : List ℕ) (labels : List (List ℕ)) (error : SplitLabelError) → octets ≡ labels_wire labels → AllByRecursion IsShort labels
    → (octets ≡ [] → ⊥) → NoLabel octets error → ⊥
front_by octets [] error is short some none = some is
front_by octets (first ∷ labels) error is short some none =
    no_label_no_front octets first (labels_wire labels) error none (record { spelled = is; short = short.0 })

-- there is one if there is an octet
pub no_split : (octets : List ℕ) (error : SplitLabelError) → AreLabels octets → (length octets ≡ 0 → ⊥) → NoLabel octets error → ⊥
no_split octets error are some none =
    front_by octets (flat_labels octets) error are.whole are.short (λ is. some (ap (length {A = ℕ}) is)) none

-- no octets are no labels
pub flat-none : (octets : List ℕ) → length octets ≡ 0 → flat_labels octets ≡ []
flat-none [] none = flat_is [] [] refl
flat-none (octet ∷ octets) none = absurd (omega arith)

-- ---- parts

pub wire-append : (front more : List (List ℕ)) → wire (front ++ more) ≡ labels_wire front ++ wire more
wire-append [] more = refl
wire-append (text ∷ front) more =
    ap (λ l. length text ∷ text ++ l) (wire-append front more) ∙ sym (append_assoc (length text ∷ text) (labels_wire front) (wire more))

all_front : (front more : List (List ℕ)) → AllByRecursion IsLabel (front ++ more) → AllByRecursion IsLabel front
all_front [] more each = tt
all_front (text ∷ front) more each = (each.0, all_front front more each.1)

all_back : (front more : List (List ℕ)) → AllByRecursion IsLabel (front ++ more) → AllByRecursion IsLabel more
all_back [] more each = each
all_back (text ∷ front) more each = all_back front more each.1

pub name_front : (front more : List (List ℕ)) → IsName (front ++ more) → IsName front
name_front front more is_name = record {
  labels = all_front front more is_name.labels;
  short = omega (arith, is_name.short, ap (length {A = ℕ}) (wire-append front more), length-append (labels_wire front) (wire more), length-wire_is front, length-wire_is more);
}

pub name_back : (front more : List (List ℕ)) → IsName (front ++ more) → IsName more
name_back front more is_name = record {
  labels = all_back front more is_name.labels;
  short = omega (arith, is_name.short, ap (length {A = ℕ}) (wire-append front more), length-append (labels_wire front) (wire more));
}

pub name_part : {labels front more : List (List ℕ)} → IsName labels → labels ≡ front ++ more → IsName front × IsName more
name_part {front = front} {more = more} is_name is =
    let P : List (List ℕ) → Type 0 = λ n. IsName n in
    let here = subst P is is_name in (name_front front more here, name_back front more here)

-- the octets of a relative name and the root's are those of a name
pub relative-written : (octets : List ℕ) (name : List (List ℕ)) → IsName name → octets ≡ labels_wire name → IsWritten (octets ++ 0 ∷ [])
relative-written octets name is_name is =
    flat-written (octets ++ 0 ∷ []) name is_name (ap (λ l. l ++ 0 ∷ []) is ∙ sym (wire_is name))

pub relative-labels : (octets : List ℕ) (name : List (List ℕ)) → IsName name → octets ≡ labels_wire name → labels_at (octets ++ 0 ∷ []) 0 ≡ name
relative-labels octets name is_name is =
    flat-labels (octets ++ 0 ∷ []) name is_name (ap (λ l. l ++ 0 ∷ []) is ∙ sym (wire_is name))

pub relative-octets : (octets : List ℕ) → IsWritten (octets ++ 0 ∷ []) → octets ≡ labels_wire (labels_at (octets ++ 0 ∷ []) 0)
relative-octets octets written =
    let name = labels_at (octets ++ 0 ∷ []) 0 in
    let is : octets ++ 0 ∷ [] ≡ labels_wire name ++ 0 ∷ [] = written.whole ∙ wire_is name in
    (same_front octets (labels_wire name) (0 ∷ []) (0 ∷ []) is
    (omega (arith, ap (length {A = ℕ}) is, length-append octets (0 ∷ []), length-append (labels_wire name) (0 ∷ [])))).0

pub labels_wire_one : (name other : List (List ℕ)) → labels_wire name ≡ labels_wire other → name ≡ other
labels_wire_one name other same = sym (flat_labels-wire name) ∙ ap flat_labels same ∙ flat_labels-wire other

-- octets from a label's start on, and up to one
pub drop_front : {octets : List ℕ} {labels : List (List ℕ)} (front back : List (List ℕ)) (place : ℕ) (last : List ℕ) → octets ≡ labels_wire labels ++ last
    → labels ≡ front ++ back → place ≡ length (labels_wire front) → drop place octets ≡ labels_wire back ++ last
drop_front {labels = labels} front back place last is whole at =
    let all : labels_wire labels ++ last ≡ labels_wire front ++ (labels_wire back ++ last) =
    ap (λ l. labels_wire l ++ last) whole ∙ ap (λ l. l ++ last) (labels_wire-append front back) ∙ append_assoc (labels_wire front) (labels_wire back) last in
    ap (drop place) (is ∙ all) ∙ ap (λ (n : ℕ). drop n (labels_wire front ++ (labels_wire back ++ last))) at
    ∙ drop-append_seam (labels_wire front) (labels_wire back ++ last)

pub take_front : {octets : List ℕ} {labels : List (List ℕ)} (front back : List (List ℕ)) (place : ℕ) (last : List ℕ) → octets ≡ labels_wire labels ++ last
    → labels ≡ front ++ back → place ≡ length (labels_wire front) → take place octets ≡ labels_wire front
take_front {labels = labels} front back place last is whole at =
    let all : labels_wire labels ++ last ≡ labels_wire front ++ (labels_wire back ++ last) =
    ap (λ l. labels_wire l ++ last) whole ∙ ap (λ l. l ++ last) (labels_wire-append front back) ∙ append_assoc (labels_wire front) (labels_wire back) last in
    ap (take place) (is ∙ all) ∙ ap (λ (n : ℕ). take n (labels_wire front ++ (labels_wire back ++ last))) at
    ∙ take-append_seam (labels_wire front) (labels_wire back ++ last)

pub start_within : {octets : List ℕ} {labels : List (List ℕ)} (front back : List (List ℕ)) (place : ℕ) (last : List ℕ) → octets ≡ labels_wire labels ++ last
    → labels ≡ front ++ back → place ≡ length (labels_wire front) → place ≤ length octets
start_within {labels = labels} front back place last is whole at =
    omega (
      arith,
      ap (length {A = ℕ}) is,
      length-append (labels_wire labels) last,
      ap (λ (l : List (List ℕ)). length (labels_wire l)) whole,
      ap (length {A = ℕ}) (labels_wire-append front back),
      length-append (labels_wire front) (labels_wire back),
    )

-- the labels between two label starts
pub record Parted (front back other_front other_back : List (List ℕ)) : Type 0 where
  pub part : List (List ℕ)
  pub front_is : other_front ≡ front ++ part
  pub back_is : back ≡ part ++ other_back

pub parted : (front back other_front other_back : List (List ℕ)) → front ++ back ≡ other_front ++ other_back
    → length (labels_wire front) ≤ length (labels_wire other_front) → Parted front back other_front other_back
parted [] back other_front other_back same less = record { part = other_front; front_is = refl; back_is = same }
parted (text ∷ front) back [] other_back same less = absurd (omega arith)
parted (text ∷ front) back (other ∷ other_front) other_back same less =
    let e : text ≡ other = cc in
    let f : front ++ back ≡ other_front ++ other_back = cc in
    let more = parted front back other_front other_back f
    (omega (arith, length-append text (labels_wire front), length-append other (labels_wire other_front), ap (length {A = ℕ}) e)) in
    record {
      part = more.part;
      front_is = ap (λ l. l ∷ other_front) (sym e) ∙ ap (λ l. text ∷ l) more.front_is;
      back_is = more.back_is;
    }
