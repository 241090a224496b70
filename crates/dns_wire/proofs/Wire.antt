-- The octets of labels.
use Rattle.std.proofs.Common.{◌≡◌, ℕ, ◌+◌, ◌≤◌, List, [], ◌∷◌, ◌++◌, length, refl, sym, ◌∙◌, ap, arith, append_assoc, append-nil, length-append}
use Rattle.dns_label.specs.Name.{IsName, wire, labels_wire, with_root}
use Rattle.dns_label.proofs.Spelling.{length-wire}

pub labels_wire-append : (front more : List (List ℕ)) → labels_wire (front ++ more) ≡ labels_wire front ++ labels_wire more
labels_wire-append [] more = refl
labels_wire-append (text ∷ front) more =
    ap (λ l. length text ∷ text ++ l) (labels_wire-append front more)
    ∙ sym (append_assoc (length text ∷ text) (labels_wire front) (labels_wire more))

-- the labels and then the root's
pub labels_wire-with_root : (name : List (List ℕ)) → labels_wire (with_root name) ≡ wire name
labels_wire-with_root [] = refl
labels_wire-with_root (text ∷ name) = ap (λ l. length text ∷ text ++ l) (labels_wire-with_root name)

-- a name is its labels and the root's length
pub wire_is : (name : List (List ℕ)) → wire name ≡ labels_wire name ++ 0 ∷ []
wire_is [] = refl
wire_is (text ∷ name) =
    ap (λ l. length text ∷ text ++ l) (wire_is name) ∙ sym (append_assoc (length text ∷ text) (labels_wire name) (0 ∷ []))

pub length-wire_is : (name : List (List ℕ)) → length (wire name) ≡ length (labels_wire name) + 1
length-wire_is name = ap (length {A = ℕ}) (wire_is name) ∙ length-append (labels_wire name) (0 ∷ [])

pub length-wire-append : (front more : List (List ℕ)) → length (wire (front ++ more)) ≡ length (labels_wire front) + length (wire more)
length-wire-append front more =
    omega (arith, length-wire_is (front ++ more), length-wire_is more, ap (length {A = ℕ}) (labels_wire-append front more), length-append (labels_wire front) (labels_wire more))

-- one label more
pub length-labels_wire_more : (front : List (List ℕ)) (text : List ℕ) → length (labels_wire (front ++ text ∷ [])) ≡ length (labels_wire front) + 1 + length text
length-labels_wire_more front text =
    omega (arith, ap (length {A = ℕ}) (labels_wire-append front (text ∷ [])), length-append (labels_wire front) (labels_wire (text ∷ [])), length-append text (labels_wire []))

-- the root alone has one octet
pub root_length : (name : List (List ℕ)) → IsName name → length (wire name) ≡ 1 → name ≡ []
root_length [] is_name one = refl
root_length (text ∷ name) is_name one = absurd (omega (arith, length-wire (text ∷ name) is_name.labels))

-- a name has at most 127 labels, and the root's
pub few_labels : (name : List (List ℕ)) → IsName name → length (with_root name) ≤ 128
few_labels name is_name =
    omega (arith, length-wire name is_name.labels, is_name.short, length-append name ([] ∷ []))

-- a label written after those before it
pub wire_step : (whole items pushed extended text : List ℕ) (labels rest : List (List ℕ)) (count : ℕ)
    → whole ≡ items ++ labels_wire labels → labels ≡ text ∷ rest → pushed ≡ items ++ count ∷ [] → count ≡ length text
    → extended ≡ pushed ++ text → whole ≡ extended ++ labels_wire rest
wire_step whole items pushed extended text labels rest count is are push long extend =
    is ∙ ap (λ n. items ++ labels_wire n) are ∙ sym (append_assoc items (length text ∷ text) (labels_wire rest))
    ∙ ap (λ l. l ++ labels_wire rest)
    (sym (append_assoc items (length text ∷ []) text) ∙ ap (λ (n : ℕ). (items ++ n ∷ []) ++ text) (sym long) ∙ ap (λ l. l ++ text) (sym push) ∙ sym extend)

-- all labels are written
pub wire_made : (items : List ℕ) (left name : List (List ℕ)) → labels_wire (with_root name) ≡ items ++ labels_wire left → left ≡ []
    → items ≡ wire name
wire_made items left name is none =
    sym (append-nil items) ∙ sym (ap (λ n. items ++ labels_wire n) none) ∙ sym is ∙ labels_wire-with_root name

-- two equal lists, each of labels and a last label
pub last_same : (a b : List (List ℕ)) (x y : List ℕ) → a ++ x ∷ [] ≡ b ++ y ∷ [] → (a ≡ b) × (x ≡ y)
last_same [] [] x y same = let e : x ≡ y = cc in (refl, e)
last_same [] (label ∷ b) x y same =
    let e : b ++ y ∷ [] ≡ [] = cc in absurd (omega (arith, ap (length {A = List ℕ}) e, length-append b (y ∷ [])))
last_same (label ∷ a) [] x y same =
    let e : a ++ x ∷ [] ≡ [] = cc in absurd (omega (arith, ap (length {A = List ℕ}) e, length-append a (x ∷ [])))
last_same (label ∷ a) (first ∷ b) x y same =
    let e : label ≡ first = cc in
    let f : a ++ x ∷ [] ≡ b ++ y ∷ [] = cc in
    let both = last_same a b x y f in
    (ap (λ l. l ∷ a) e ∙ ap (λ n. first ∷ n) both.0, both.1)

-- with one more label first, a name has that label's octets more
pub wire_more : {name parent : List (List ℕ)} {text : List ℕ} → name ≡ text ∷ parent
    → length (wire name) ≡ 1 + length text + length (wire parent)
wire_more {parent = parent} {text = text} is =
    omega (arith, ap (λ (n : List (List ℕ)). length (wire n)) is, length-append text (wire parent))
