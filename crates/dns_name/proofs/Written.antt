-- Names in their wire form in a message, and names with pointers.
use Rattle.std.proofs.Common.{◌≡◌, ℕ, ◌+◌, ◌≤◌, suc, List, [], ◌∷◌, ◌++◌, length, take, drop, length-append, refl, sym, ◌∙◌, ap, subst, arith}
use Rattle.dns_label.proofs.Spelling.{drop_behind}
use Rattle.dns_label.specs.Name.{IsName, wire}
use Rattle.dns_label.specs.Labels.{labels_at}
use Rattle.dns_label.specs.Split.{StartsWithLabel, StartsWithPointer}
use Rattle.dns_wire.specs.Parsed.{IsReadAt, IsWrittenAt}
use Rattle.dns_wire.proofs.Readable.{read-name}
use Rattle.dns_wire.proofs.Flat.{same_front}

-- octets begin with the wire form of a name
abbrev Begins : List ℕ → List (List ℕ) → Type 0
Begins octets name = take (length (wire name)) octets ≡ wire name

take_on : (a b : List ℕ) (n : ℕ) → take (length a + n) (a ++ b) ≡ a ++ take n b
take_on [] b n = ap (λ (k : ℕ). take k b) (omega arith)
take_on (x ∷ a) b n =
    let e : suc (length a) + n ≡ suc (length a + n) = omega arith in
    ap (λ (k : ℕ). take k (x ∷ (a ++ b))) e ∙ ap (λ l. x ∷ l) (take_on a b n)

begins-label : (text rest : List ℕ) (parent : List (List ℕ)) → Begins rest parent → Begins (length text ∷ text ++ rest) (text ∷ parent)
begins-label text rest parent here =
    let e : length (wire (text ∷ parent)) ≡ suc (length text + length (wire parent)) = ap suc (length-append text (wire parent)) in
    ap (λ (k : ℕ). take k (length text ∷ text ++ rest)) e ∙ ap (λ l. length text ∷ l) (take_on text rest (length (wire parent)) ∙ ap (λ l. text ++ l) here)

begins-behind : (text rest : List ℕ) (parent : List (List ℕ)) → Begins (length text ∷ text ++ rest) (text ∷ parent) → Begins rest parent
begins-behind text rest parent here =
    let e : length (wire (text ∷ parent)) ≡ suc (length text + length (wire parent)) = ap suc (length-append text (wire parent)) in
    let all : length text ∷ (text ++ take (length (wire parent)) rest) ≡ length text ∷ text ++ wire parent =
    ap (λ l. length text ∷ l) (sym (take_on text rest (length (wire parent)))) ∙ sym (ap (λ (k : ℕ). take k (length text ∷ text ++ rest)) e) ∙ here in
    let both : text ++ take (length (wire parent)) rest ≡ text ++ wire parent = cc in
    (same_front text text (take (length (wire parent)) rest) (wire parent) both refl).1

-- what follows the first label
pub behind_label : (message text rest : List ℕ) (place next : ℕ) → StartsWithLabel (drop place message) text rest
    → next ≡ place + 1 + length text → drop next message ≡ rest
behind_label message text rest place next at is =
    drop_behind message place next (length text ∷ text) rest at.spelled (omega arith)

pub written-label : (message text rest : List ℕ) (place next : ℕ) → StartsWithLabel (drop place message) text rest
    → next ≡ place + 1 + length text → labels_at message place ≡ text ∷ labels_at message next
    → IsWrittenAt message next → IsWrittenAt message place
written-label message text rest place next at is labels here =
    let behind = behind_label message text rest place next at is in
    let P : List (List ℕ) → Type 0 = λ n. Begins (drop place message) n in
    let Q : List ℕ → Type 0 = λ o. Begins o (text ∷ labels_at message next) in
    let R : List ℕ → Type 0 = λ o. Begins o (labels_at message next) in
    subst P (sym labels) (subst Q (sym at.spelled) (begins-label text rest (labels_at message next) (subst R behind here)))

pub written-behind : (message text rest : List ℕ) (place next : ℕ) → StartsWithLabel (drop place message) text rest
    → next ≡ place + 1 + length text → labels_at message place ≡ text ∷ labels_at message next
    → IsWrittenAt message place → IsWrittenAt message next
written-behind message text rest place next at is labels here =
    let behind = behind_label message text rest place next at is in
    let P : List (List ℕ) → Type 0 = λ n. Begins (drop place message) n in
    let Q : List ℕ → Type 0 = λ o. Begins o (text ∷ labels_at message next) in
    let R : List ℕ → Type 0 = λ o. Begins o (labels_at message next) in
    subst R (sym behind) (begins-behind text rest (labels_at message next) (subst Q at.spelled (subst P labels here)))

-- the root is written out
pub written-root : (message text rest : List ℕ) (place : ℕ) → StartsWithLabel (drop place message) text rest → text ≡ []
    → labels_at message place ≡ [] → IsWrittenAt message place
written-root message text rest place at none labels =
    let R : List ℕ → Type 0 = λ t. StartsWithLabel (drop place message) t rest in
    let here = subst R none at in
    let P : List (List ℕ) → Type 0 = λ n. Begins (drop place message) n in
    let Q : List ℕ → Type 0 = λ o. Begins o [] in
    subst P (sym labels) (subst Q (sym here.spelled) refl)

begins_low : (first : ℕ) (rest : List ℕ) (name : List (List ℕ)) → IsName name → Begins (first ∷ rest) name → first ≤ 63
begins_low first rest [] is_name here = let e : first ≡ 0 = cc in omega arith
begins_low first rest (text ∷ name) is_name here =
    let e : first ≡ length text = cc in omega (arith, is_name.labels.0.short)

-- a name that begins with a pointer is not written out
pub pointer-written : (message : List ℕ) (place target : ℕ) → ∥ IsReadAt message place ∥₁
    → StartsWithPointer (drop place message) target → IsWrittenAt message place → ⊥
pointer-written message place target there at here =
    let Q : List ℕ → Type 0 = λ o. Begins o (labels_at message place) in
    omega (arith, at.both_bits, begins_low at.first (at.second ∷ at.rest) (labels_at message place) (read-name message place there) (subst Q at.spelled here))
