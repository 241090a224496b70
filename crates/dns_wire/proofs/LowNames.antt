-- Names in lower case.
use Rattle.std.proofs.Common.{◌≡◌, ℕ, List, [], ◌∷◌, ◌++◌, length, take, drop, map, append-nil, refl, sym, ◌∙◌, ap, arith}
use Rattle.std.specs.Prelude.{Result, Ok, Err, IfOk}
use Rattle.std.specs.List.{AllByRecursion}
use Rattle.std.specs.Char.{to_ascii_lowercase}
use Rattle.std.proofs.lemmas.List.{length-map, map-append, drop_all, take_all}
use Rattle.dns_label.specs.Name.{IsLabel, IsName, wire, labels_wire, low}
use Rattle.dns_wire.proofs.Case.{low_length, low_wire, wire_one}
use Rattle.dns_wire.proofs.FlatForms.{labels_wire_one}
use Rattle.std.specs.List.{refill}

low_labels : (name : List (List ℕ)) → AllByRecursion IsLabel name → AllByRecursion IsLabel (low name)
low_labels [] each = tt
low_labels (text ∷ name) each =
    let long = length-map text to_ascii_lowercase in
    (record { some = omega (arith, each.0.some); short = omega (arith, each.0.short) }, low_labels name each.1)

-- a name in lower case is as long
pub length-wire-low : (name : List (List ℕ)) → IsName name → length (wire (low name)) ≡ length (wire name)
length-wire-low name is_name =
    sym (ap (length {A = ℕ}) (low_wire name is_name.labels)) ∙ length-map (wire name) to_ascii_lowercase

pub low_name : (name : List (List ℕ)) → IsName name → IsName (low name)
low_name name is_name = record {
  labels = low_labels name is_name.labels;
  short = omega (arith, length-wire-low name is_name, is_name.short);
}

-- names are the same in lower case if their octets are
pub low_octets : (name other : List (List ℕ)) → IsName name → IsName other → low name ≡ low other
    → map to_ascii_lowercase (wire name) ≡ map to_ascii_lowercase (wire other)
low_octets name other is_name is_other same =
    low_wire name is_name.labels ∙ ap wire same ∙ sym (low_wire other is_other.labels)

pub low_same : (name other : List (List ℕ)) → IsName name → IsName other
    → map to_ascii_lowercase (wire name) ≡ map to_ascii_lowercase (wire other) → low name ≡ low other
low_same name other is_name is_other same =
    wire_one (low name) (low other) (sym (low_wire name is_name.labels) ∙ same ∙ low_wire other is_other.labels)

-- a name that was made of the octets of another
pub made_same : {E : Type 0} (result : Result (List (List ℕ)) E) (octets : List ℕ) (name : List (List ℕ))
    → IfOk result (λ made. octets ≡ wire made) → octets ≡ wire name → IfOk result (λ made. made ≡ name)
made_same (Ok made) octets name is here = wire_one made name (sym is ∙ here)
made_same (Err error) octets name is here = tt

-- lowering the octets lowers the labels
pub low_labels_wire : (labels : List (List ℕ)) → AllByRecursion IsLabel labels → map to_ascii_lowercase (labels_wire labels) ≡ labels_wire (low labels)
low_labels_wire [] each = refl
low_labels_wire (text ∷ labels) each =
    let here : to_ascii_lowercase (length text) ≡ length (map to_ascii_lowercase text) =
    low_length (length text) each.0.short ∙ sym (length-map text to_ascii_lowercase) in
    let more : map to_ascii_lowercase (text ++ labels_wire labels) ≡ map to_ascii_lowercase text ++ labels_wire (low labels) =
    map-append to_ascii_lowercase text (labels_wire labels) ∙ ap (λ l. map to_ascii_lowercase text ++ l) (low_labels_wire labels each.1) in
    ap (λ n. n ∷ map to_ascii_lowercase (text ++ labels_wire labels)) here ∙ ap (λ l. length (map to_ascii_lowercase text) ∷ l) more

-- a write of all octets
pub refilled : (items new : List ℕ) → length new ≡ length items → refill (length items) items new ≡ new
refilled items new long =
    ap (λ l. take (length items) (new ++ l)) (drop_all (length new) items (omega arith)) ∙ ap (take (length items)) (append-nil new)
    ∙ take_all (length items) new (omega arith)

-- a relative name that was made of the octets of another
pub made_relative : {E : Type 0} (result : Result (List (List ℕ)) E) (octets : List ℕ) (name : List (List ℕ))
    → IfOk result (λ made. octets ≡ labels_wire made) → octets ≡ labels_wire name → IfOk result (λ made. made ≡ name)
made_relative (Ok made) octets name is here = labels_wire_one made name (sym is ∙ here)
made_relative (Err error) octets name is here = tt

-- a write of the octets in lower case
pub lowered_back : (items new : List ℕ) (count : ℕ) → count ≡ length items → new ≡ map to_ascii_lowercase items
    → take count (new ++ drop (length new) items) ≡ map to_ascii_lowercase items
lowered_back items new count all is =
    let long : length new ≡ length items = ap (length {A = ℕ}) is ∙ length-map items to_ascii_lowercase in
    ap (λ (n : ℕ). take n (new ++ drop (length new) items)) all ∙ refilled items new long ∙ is
