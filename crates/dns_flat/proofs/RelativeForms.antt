-- Octets of relative names, read label by label.
use Rattle.std.proofs.Common.{◌≡◌, ℕ, ◌≤◌, List, [], ◌∷◌, ◌++◌, length, refl, sym, ◌∙◌, ap, subst, arith, append_assoc, append-nil, length-append}
use Rattle.dns_label.specs.Name.{IsName, wire, labels_wire}
use Rattle.dns_label.specs.Split.{StartsWithLabel, NoLabel}
use Rattle.dns_label.specs.declared.label.SplitLabelError.{SplitLabelError}
use Rattle.dns_wire.specs.Flat.{IsWritten, StartsWithName}
use Rattle.dns_wire.proofs.Flat.{Leads, leads-label, root_front, written-whole, no_label_no_front, same_front}
use Rattle.dns_wire.proofs.Wire.{wire_is}

-- what octets start with, the same octets and the root's start with too
pub front_more : {octets text behind : List ℕ} → StartsWithLabel octets text behind
    → StartsWithLabel (octets ++ 0 ∷ []) text (behind ++ 0 ∷ [])
front_more {text = text} {behind = behind} at = record {
  spelled = ap (λ l. l ++ 0 ∷ []) at.spelled ∙ append_assoc (length text ∷ text) behind (0 ∷ []);
  short = at.short;
}

pub leads_on : (octets here text behind : List ℕ) → Leads (octets ++ 0 ∷ []) (here ++ 0 ∷ []) → StartsWithLabel here text behind
    → (text ≡ [] → ⊥) → Leads (octets ++ 0 ∷ []) (behind ++ 0 ∷ [])
leads_on octets here text behind leads at some =
    leads-label (octets ++ 0 ∷ []) (here ++ 0 ∷ []) text (behind ++ 0 ∷ []) leads (front_more at) some

no_octets : (octets : List ℕ) → length octets ≡ 0 → octets ≡ []
no_octets [] none = refl
no_octets (octet ∷ octets) none = absurd (omega arith)

-- at the end
pub leads_end : (octets here : List ℕ) → Leads (octets ++ 0 ∷ []) (here ++ 0 ∷ []) → length here ≡ 0 → length octets ≤ 254
    → IsWritten (octets ++ 0 ∷ [])
leads_end octets here leads none few =
    let root : StartsWithLabel (here ++ 0 ∷ []) [] [] =
    record { spelled = ap (λ l. l ++ 0 ∷ []) (no_octets here none); short = omega arith } in
    let found = leads.on [] [] (root_front (here ++ 0 ∷ []) [] root) in
    written-whole (octets ++ 0 ∷ []) found.0 (omega (arith, length-append octets (0 ∷ []))) found.1

-- a relative name followed by the root
whole_of : (octets : List ℕ) (name : List (List ℕ)) → IsName name → octets ≡ labels_wire name → StartsWithName (octets ++ 0 ∷ []) name []
whole_of octets name is_name is = record {
  labels = is_name.labels;
  whole = ap (λ l. l ++ 0 ∷ []) is ∙ sym (wire_is name) ∙ sym (append-nil (wire name));
}

root_in_front : (here behind : List ℕ) (name : List (List ℕ)) → StartsWithLabel here [] behind → StartsWithName (here ++ 0 ∷ []) name [] → ⊥
root_in_front here behind [] at front =
    let a : here ++ 0 ∷ [] ≡ 0 ∷ (behind ++ 0 ∷ []) = ap (λ l. l ++ 0 ∷ []) at.spelled in
    let b = front.whole in
    omega (arith, ap (length {A = ℕ}) (sym a ∙ b), length-append behind (0 ∷ []))
root_in_front here behind (first ∷ name) at front =
    let a : here ++ 0 ∷ [] ≡ 0 ∷ (behind ++ 0 ∷ []) = ap (λ l. l ++ 0 ∷ []) at.spelled in
    let b = front.whole in
    let none : 0 ≡ length first = cc in omega (arith, front.labels.0.some)

-- the root's label is in no relative name
pub leads_root : (octets here text behind : List ℕ) → Leads (octets ++ 0 ∷ []) (here ++ 0 ∷ []) → StartsWithLabel here text behind → text ≡ []
    → (name : List (List ℕ)) → IsName name → octets ≡ labels_wire name → ⊥
leads_root octets here text behind leads at none name is_name is =
    let P : List ℕ → Type 0 = λ t. StartsWithLabel here t behind in
    let found = leads.back name [] (whole_of octets name is_name is) in
    root_in_front here behind found.0 (subst P none at) found.1

no_front : (here : List ℕ) (error : SplitLabelError) (name : List (List ℕ)) → NoLabel here error → (length here ≡ 0 → ⊥)
    → StartsWithName (here ++ 0 ∷ []) name [] → ⊥
no_front here error [] none some front =
    some (omega (arith, ap (length {A = ℕ}) front.whole, length-append here (0 ∷ [])))
no_front here error (first ∷ name) none some front =
    let tail : wire name ++ [] ≡ labels_wire name ++ 0 ∷ [] = append-nil (wire name) ∙ wire_is name in
    let e : here ++ 0 ∷ [] ≡ (length first ∷ first ++ labels_wire name) ++ 0 ∷ [] =
    front.whole ∙ append_assoc (length first ∷ first) (wire name) [] ∙ ap (λ l. length first ∷ first ++ l) tail
    ∙ sym (append_assoc (length first ∷ first) (labels_wire name) (0 ∷ [])) in
    let same = same_front here (length first ∷ first ++ labels_wire name) (0 ∷ []) (0 ∷ []) e
    (omega (arith, ap (length {A = ℕ}) e, length-append here (0 ∷ []), length-append (length first ∷ first ++ labels_wire name) (0 ∷ []))) in
    no_label_no_front here first (labels_wire name) error none (record { spelled = same.0; short = front.labels.0.short })

-- if no label can be split off, there is no relative name
pub leads_none : (octets here : List ℕ) (error : SplitLabelError) → Leads (octets ++ 0 ∷ []) (here ++ 0 ∷ []) → NoLabel here error → (length here ≡ 0 → ⊥)
    → (name : List (List ℕ)) → IsName name → octets ≡ labels_wire name → ⊥
leads_none octets here error leads none some name is_name is =
    let found = leads.back name [] (whole_of octets name is_name is) in
    no_front here error found.0 none some found.1
