-- Names while their labels are printed one by one.
use Rattle.std.proofs.Common.{◌≡◌, ℕ, ◌⊎◌, List, [], ◌∷◌, ◌++◌, refl, ap, inl, inr, subst, sym, ◌∙◌, arith}
use Rattle.std.specs.List.{AllByRecursion}
use mathlib.Core.Logic.{∥∥₁_map}
use Rattle.dns_label.specs.Name.{IsLabel, with_root}
use Rattle.dns_label.specs.Printed.{printed_label, printed_labels, printed_name}
use Rattle.dns_wire.specs.Chain.{AreOfName}
use Rattle.dns_flat.specs.PrintedLabels.{printed_behind, printed_relative, printed_seen}
use Rattle.dns_flat.proofs.Chains.{never_rooted}
use Rattle.dns_wire.proofs.Readable.{labels_from_merely}
use Rattle.dns_wire.proofs.Wire.{last_same}

behind-root : (name : List (List ℕ)) → printed_behind (with_root name) ≡ 46 ∷ printed_labels name
behind-root [] = refl
behind-root (label ∷ name) = ap (λ l. (46 ∷ printed_label label) ++ l) (behind-root name)

pub dotted-relative : (label : List ℕ) (name : List (List ℕ)) → printed_relative (with_root (label ∷ name)) ≡ printed_name (label ∷ name)
dotted-relative label name = ap (λ l. printed_label label ++ l) (behind-root name)

-- an absolute name
pub seen-name : (name : List (List ℕ)) → AllByRecursion IsLabel name → printed_seen (with_root name) ≡ printed_name name
seen-name [] each = refl
seen-name ([] ∷ name) each = absurd (omega (arith, each.0.some))
seen-name ((octet ∷ label) ∷ name) each = dotted-relative (octet ∷ label) name

-- a relative one
pub seen-relative : (name : List (List ℕ)) → AllByRecursion IsLabel name → printed_seen name ≡ printed_relative name
seen-relative [] each = refl
seen-relative ([] ∷ name) each = absurd (omega (arith, each.0.some))
seen-relative ((octet ∷ label) ∷ name) each = refl

rooted_labels : (name : List (List ℕ)) → AreOfName (with_root name) → AllByRecursion IsLabel name
rooted_labels name are = by_case name are.name are.is_name.labels are.listed
  where
    by_case : (name other : List (List ℕ)) → AllByRecursion IsLabel other
        → (with_root name ≡ other) ⊎ (with_root name ≡ with_root other) → AllByRecursion IsLabel name
    by_case name other each (inl is) =
        let P : List (List ℕ) → Type 0 = λ l. AllByRecursion IsLabel l in absurd (never_rooted name (subst P (sym is) each))
    by_case name other each (inr is) =
        let P : List (List ℕ) → Type 0 = λ l. AllByRecursion IsLabel l in subst P (sym (last_same name other [] [] is).0) each

pub seen_as_name : {labels : List (List ℕ)} (name : List (List ℕ)) → labels ≡ with_root name → ∥ AreOfName labels ∥₁
    → printed_seen labels ≡ printed_name name
seen_as_name name is there =
    let P : List (List ℕ) → Type 0 = λ l. ∥ AreOfName l ∥₁ in
    ap printed_seen is ∙ seen-name name (labels_from_merely name (∥∥₁_map (subst P is there) (rooted_labels name)))
