-- What a message spells at a place is one name, and it is the one that is found there.
use Rattle.std.proofs.Common.{◌≡◌, ℕ, ◌+◌, ◌-◌, ◌*◌, ◌<◌, ◌≤◌, zero, suc, List, [], ◌∷◌, ◌++◌, length, drop, refl, sym, ◌∙◌, ap, subst, arith}
use Rattle.std.proofs.Common.{length-append, append_assoc}
use Rattle.std.proofs.lemmas.Grind.{common_steps}
use Rattle.std.specs.List.{AllByRecursion}
use Rattle.std.proofs.Math.Seq.{take-append_seam, drop-append_seam}
use Rattle.std.proofs.lemmas.List.{drop-drop}
use Rattle.dns_label.specs.Name.{IsLabel, wire}
use Rattle.dns_label.specs.Spelled.{EncodesName, DecodesName}
use Rattle.dns_label.specs.Spelled.EncodesName.{root, label, pointer}
use Rattle.dns_label.specs.Labels.{head_in, labels_from, labels_at}
use Rattle.dns_label.specs.Labels.Head.{Holds, Points}

-- the head at a label's length
pub head_in-label : (octets text rest : List ℕ) → octets ≡ length text ∷ text ++ rest → IsLabel text → head_in octets ≡ Holds text
head_in-label octets text rest is is_label = rw is (grind (arith, common_steps, take-append_seam text rest))

pub head_in-pointer : (octets : List ℕ) (first second : ℕ) (rest : List ℕ) → octets ≡ first ∷ second ∷ rest → 192 ≤ first
    → head_in octets ≡ Points (256 * (first - 192) + second)
head_in-pointer octets first second rest is both = rw is (grind (arith, common_steps))

-- with few enough heads looked at, what is found is what is spelled
pub labels_from-spelled : (message : List ℕ) (heads : ℕ) {pointers place next : ℕ} {name : List (List ℕ)}
    → EncodesName message pointers place name next → pointers + length name < heads → labels_from heads message place ≡ name
unfolding labels_from
labels_from-spelled message zero spelled few = absurd (omega arith)
labels_from-spelled message (suc heads) (root rest at) few = rw at refl
labels_from-spelled message (suc heads) {place = place} (label {label = text} rest at is_label parent) few =
    let found = labels_from-spelled message heads parent (omega arith) in
    rw (head_in-label (drop place message) text rest at is_label) (ap (λ more. text ∷ more) found)
labels_from-spelled message (suc heads) {place = place} (pointer first second after rest at both back name) few =
    rw (head_in-pointer (drop place message) first second rest at both) (labels_from-spelled message heads name (omega arith))

-- a name has at most 127 labels
pub length-wire : (name : List (List ℕ)) → AllByRecursion IsLabel name → 2 * length name + 1 ≤ length (wire name)
length-wire [] each = omega arith
length-wire (text ∷ name) each =
    let tail = length-wire name each.1 in
    let some = each.0.some in
    omega (arith, length-append text (wire name))

-- what is found at a place is the name that a reader parses there
pub labels_at-reads : {message : List ℕ} {place next : ℕ} {name : List (List ℕ)} → DecodesName message place name next
    → labels_at message place ≡ name
unfolding labels_at
labels_at-reads {message} {name = name} reads =
    let few = length-wire name reads.is_name.labels in
    labels_from-spelled message 383 reads.spelled (omega (arith, reads.is_name.short))

-- a name ends at one place
pub spelled_end : (message : List ℕ) {pointers others place here next end : ℕ} {name other : List (List ℕ)} → EncodesName message pointers place name next → EncodesName message others here other end → place ≡ here
    → next ≡ end
spelled_end message (root rest at) (root rest' at') same = ap (λ n. n + 1) same
spelled_end message (root rest at) (label {label = text} rest' at' is_label parent) same =
    let none : 0 ≡ length text = cc in absurd (omega arith)
spelled_end message (root rest at) (pointer first second after rest' at' both back name) same =
    let none : 0 ≡ first = cc in absurd (omega arith)
spelled_end message (label {label = text} rest at is_label parent) (root rest' at') same =
    let none : 0 ≡ length text = cc in absurd (omega arith)
spelled_end message (label {label = text} rest at is_label parent) (label {label = text'} rest' at' is_label' parent') same =
    let long : length text ≡ length text' = cc in spelled_end message parent parent' (omega arith)
spelled_end message (label {label = text} rest at is_label parent) (pointer first second after rest' at' both back name) same =
    let none : length text ≡ first = cc in absurd (omega arith)
spelled_end message (pointer first second after rest at both back name) (root rest' at') same =
    let none : 0 ≡ first = cc in absurd (omega arith)
spelled_end message (pointer first second after rest at both back name) (label {label = text} rest' at' is_label parent) same =
    let none : length text ≡ first = cc in absurd (omega arith)
spelled_end message (pointer first second after rest at both back name)
    (pointer first' second' after' rest' at' both' back' name') same = ap (λ n. n + 2) same

-- a message spells one name at a place for its reader
pub reads_one : {message : List ℕ} {place next end : ℕ} {name other : List (List ℕ)} → DecodesName message place name next
    → DecodesName message place other end → (name ≡ other) × (next ≡ end)
reads_one {message} {place} reads others =
    (sym (labels_at-reads reads) ∙ labels_at-reads others, spelled_end message reads.spelled others.spelled refl)

-- what follows the octets that are found at a place
pub drop_behind : (message : List ℕ) (place behind : ℕ) (front rest : List ℕ) → drop place message ≡ front ++ rest
    → behind ≡ place + length front → drop behind message ≡ rest
drop_behind message place behind front rest at is =
    ap (λ n. drop n message) is ∙ sym (drop-drop (length front) place message) ∙ ap (λ l. drop (length front) l) at
    ∙ drop-append_seam front rest

-- a name that is written out is read, whatever is around it
pub spelled-written : (message : List ℕ) (pointers place : ℕ) (name : List (List ℕ)) (rest : List ℕ)
    → drop place message ≡ wire name ++ rest → AllByRecursion IsLabel name
    → EncodesName message pointers place name (place + length (wire name))
spelled-written message pointers place [] rest at each = root rest at
spelled-written message pointers place (text ∷ name) rest at each =
    let here : drop place message ≡ length text ∷ text ++ (wire name ++ rest) = at ∙ append_assoc (length text ∷ text) (wire name) rest in
    let behind : drop (place + 1 + length text) message ≡ wire name ++ rest = drop_behind message place _ (length text ∷ text) (wire name ++ rest) here (omega arith) in
    let goes = spelled-written message pointers (place + 1 + length text) name rest behind each.1 in
    let P : ℕ → Type 0 = λ next. EncodesName message pointers place (text ∷ name) next in
    subst P (omega (arith, length-append text (wire name))) (label (wire name ++ rest) here each.0 goes)
