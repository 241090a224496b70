-- The labels of a name that is read at a place, one by one.
use Rattle.std.proofs.Common.{◌≡◌, ℕ, ◌+◌, ◌<◌, ◌≤◌, suc, List, [], ◌∷◌, length, drop, sym, ◌∙◌, ap, subst, arith, length-append}
use Rattle.std.proofs.lemmas.List.{drop_all}
use mathlib.Core.Logic.{∥∥₁_elim, ∥∥₁_map}
use Rattle.std.specs.Coded.{Coded-set, coded_ℕ, coded_list}
use Rattle.dns_label.specs.Name.{IsLabel, IsName, wire, with_root}
use Rattle.dns_wire.proofs.Wire.{few_labels, root_length}
use Rattle.std.specs.List.{AllByRecursion}
use Rattle.dns_label.specs.Spelled.{EncodesName, DecodesName}
use Rattle.dns_label.specs.Labels.{labels_at}
use Rattle.dns_label.specs.Split.{StartsWithLabel, StartsWithPointer}
use Rattle.dns_label.proofs.Spelling.{labels_at-reads}
use Rattle.dns_wire.specs.Parsed.{IsReadAt}
use Rattle.dns_wire.proofs.Heads.{spelled-more, spelled-not, spelled-root, spelled-label, spelled-pointer}

-- a name is read here
pub read_at : (message : List ℕ) (place next : ℕ) (name : List (List ℕ)) → DecodesName message place name next → IsReadAt message place
read_at message place next name reads =
    let P : List (List ℕ) → Type 0 = λ n. DecodesName message place n next in
    record { next = next; reads = subst P (sym (labels_at-reads reads)) reads }

-- an equation of names may be shown from a fact that is merely there
pub from_merely : {P : Type 0} {a b : List (List ℕ)} → ∥ P ∥₁ → (P → a ≡ b) → a ≡ b
from_merely {a = a} {b = b} there shown = ∥∥₁_elim there (Coded-set (coded_list (coded_list coded_ℕ)) a b) shown

pub none_from_merely : {P : Type 0} → ∥ P ∥₁ → (P → ⊥) → ⊥
none_from_merely there none = ∥∥₁_elim there (λ x y. absurd x) none

pub name_behind : (text : List ℕ) (parent : List (List ℕ)) → IsName (text ∷ parent) → IsName parent
name_behind text parent is_name =
    record { labels = is_name.labels.1; short = omega (arith, is_name.short, length-append text (wire parent)) }

-- after a label
pub record Goes (message : List ℕ) (place next : ℕ) (text : List ℕ) : Type 0 where
  pub labels : labels_at message place ≡ text ∷ labels_at message next
  pub read : IsReadAt message next

read-goes : (message text rest : List ℕ) (place next : ℕ) → StartsWithLabel (drop place message) text rest → 0 < length text
    → next ≡ place + 1 + length text → IsReadAt message place → Goes message place next text
read-goes message text rest place next at some is read =
    let behind = spelled-label text rest read.reads.spelled at some in
    let P : ℕ → Type 0 = λ n. EncodesName message 255 n behind.parent read.next in
    let Q : List (List ℕ) → Type 0 = λ n. IsName n in
    let parent : DecodesName message next behind.parent read.next = record {
      spelled = subst P (sym is) behind.spelled;
      is_name = name_behind text behind.parent (subst Q behind.whole_is read.reads.is_name);
    } in
    record {
      labels = behind.whole_is ∙ ap (λ n. text ∷ n) (sym (labels_at-reads parent));
      read = read_at message next read.next behind.parent parent;
    }

pub label-labels : (message text rest : List ℕ) (place next : ℕ) → ∥ IsReadAt message place ∥₁
    → StartsWithLabel (drop place message) text rest → 0 < length text → next ≡ place + 1 + length text
    → labels_at message place ≡ text ∷ labels_at message next
label-labels message text rest place next there at some is =
    from_merely there (λ read. (read-goes message text rest place next at some is read).labels)

pub label-read : (message text rest : List ℕ) (place next : ℕ) → ∥ IsReadAt message place ∥₁
    → StartsWithLabel (drop place message) text rest → 0 < length text → next ≡ place + 1 + length text
    → ∥ IsReadAt message next ∥₁
label-read message text rest place next there at some is =
    ∥∥₁_map there (λ read. (read-goes message text rest place next at some is read).read)

-- at the root
pub root-labels : (message text rest : List ℕ) (place : ℕ) → ∥ IsReadAt message place ∥₁
    → StartsWithLabel (drop place message) text rest → text ≡ [] → labels_at message place ≡ []
root-labels message text rest place there at none =
    let R : List ℕ → Type 0 = λ t. StartsWithLabel (drop place message) t rest in
    from_merely there (λ read. (spelled-root rest read.reads.spelled (subst R none at)).0)

-- where a pointer leads
pub record Leads_to (message : List ℕ) (place target : ℕ) : Type 0 where
  pub labels : labels_at message place ≡ labels_at message target
  pub read : IsReadAt message target

more_by_one : {message : List ℕ} {left place next : ℕ} {name : List (List ℕ)} → 255 ≡ suc left → EncodesName message left place name next
    → EncodesName message 255 place name next
more_by_one {message} {left} {place} {next} {name} is spelled =
    let P : ℕ → Type 0 = λ n. EncodesName message n place name next in subst P (sym is) (spelled-more spelled)

read-led : (message : List ℕ) (place target : ℕ) → StartsWithPointer (drop place message) target → IsReadAt message place
    → Leads_to message place target
read-led message place target at read =
    let led = spelled-pointer target read.reads.spelled at in
    let reads : DecodesName message target (labels_at message place) led.after =
    record { spelled = more_by_one led.pointers_is led.spelled; is_name = read.reads.is_name } in
    record {
      labels = sym (labels_at-reads reads);
      read = read_at message target led.after (labels_at message place) reads;
    }

pub pointer-labels : (message : List ℕ) (place target : ℕ) → ∥ IsReadAt message place ∥₁
    → StartsWithPointer (drop place message) target → labels_at message place ≡ labels_at message target
pointer-labels message place target there at = from_merely there (λ read. (read-led message place target at read).labels)

pub pointer-read : (message : List ℕ) (place target : ℕ) → ∥ IsReadAt message place ∥₁
    → StartsWithPointer (drop place message) target → ∥ IsReadAt message target ∥₁
pointer-read message place target there at = ∥∥₁_map there (λ read. (read-led message place target at read).read)

-- a pointer goes back
pub pointer-back : (message : List ℕ) (place target : ℕ) → ∥ IsReadAt message place ∥₁
    → StartsWithPointer (drop place message) target → (place ≤ target → ⊥)
pointer-back message place target there at forward =
    none_from_merely there (λ read. let led = spelled-pointer target read.reads.spelled at in omega (arith, led.back))

-- the place is within the message
pub read-within : (message : List ℕ) (place : ℕ) → ∥ IsReadAt message place ∥₁ → (length message < place → ⊥)
read-within message place there out =
    let none : drop place message ≡ [] = drop_all place message (omega arith) in
    none_from_merely there (λ read. spelled-not read.reads.spelled
    (λ text rest at. let is = at.spelled in cc) (λ target at. let is = at.spelled in cc))

pub read-few : (message : List ℕ) (place : ℕ) → ∥ IsReadAt message place ∥₁
    → (128 < length (with_root (labels_at message place)) → ⊥)
read-few message place there many =
    none_from_merely there (λ read. let few = few_labels (labels_at message place) read.reads.is_name in omega arith)

pub read-root : (message : List ℕ) (place : ℕ) → ∥ IsReadAt message place ∥₁ → length (wire (labels_at message place)) ≡ 1
    → labels_at message place ≡ []
read-root message place there one = from_merely there (λ read. root_length (labels_at message place) read.reads.is_name one)

-- the same reading, of the octets of the parser
pub parsed_ok : {octets whole : List ℕ} {place pos next end : ℕ} {name : List (List ℕ)} → octets ≡ whole → place ≡ pos → end ≡ next
    → DecodesName octets place name next → DecodesName whole pos (labels_at octets place) end
parsed_ok {octets} {whole} {place} {pos} {next} {end} same here there reads =
    let P : List ℕ → Type 0 = λ o. DecodesName o pos (labels_at octets place) end in
    let Q : ℕ → Type 0 = λ p. DecodesName octets p (labels_at octets place) end in
    let R : ℕ → Type 0 = λ n. DecodesName octets place (labels_at octets place) n in
    let S : List (List ℕ) → Type 0 = λ n. DecodesName octets place n next in
    subst P same (subst Q here (subst R (sym there) (subst S (sym (labels_at-reads reads)) reads)))

pub labels_from_merely : (name : List (List ℕ)) → ∥ AllByRecursion IsLabel name ∥₁ → AllByRecursion IsLabel name
labels_from_merely [] there = tt
labels_from_merely (text ∷ name) there =
    let some : length text ≤ 0 → ⊥ = λ none. none_from_merely there (λ each. omega (arith, each.0.some)) in
    let short : 63 < length text → ⊥ = λ long. none_from_merely there (λ each. omega (arith, each.0.short)) in
    (record { some = omega arith; short = omega arith }, labels_from_merely name (∥∥₁_map there (λ each. each.1)))

-- what is read is a name
pub read-name : (message : List ℕ) (place : ℕ) → ∥ IsReadAt message place ∥₁ → IsName (labels_at message place)
read-name message place there =
    let short : 255 < length (wire (labels_at message place)) → ⊥ =
    λ long. none_from_merely there (λ read. omega (arith, read.reads.is_name.short)) in
    record {
      labels = labels_from_merely (labels_at message place) (∥∥₁_map there (λ read. read.reads.is_name.labels));
      short = omega arith;
    }
