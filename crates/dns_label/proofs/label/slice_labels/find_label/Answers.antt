use Rattle.std.proofs.Common.{◌≡◌, ◌-◌, ◌≤◌, ◌⊎◌, List, ℕ, [], subst, inl, inr, arith}
use Rattle.dns_label.specs.Seen.{Seen}
use Rattle.dns_label.specs.Seen.Seen.{fault}
use Rattle.dns_label.specs.declared.label.SplitLabelError.TheVariants.{Pointer, BadType, ShortInput}
use Rattle.dns_label.specs.Split.{NoLabel}
use Rattle.dns_label.proofs.Seeing.{seen_pointer}
use Rattle.dns_label.proofs.label.slice_labels.find_label.Goals as goal
use Rattle.dns_label.proofs.label.slice_labels.find_label.Goals.{then-target-place-via-then-target-place, then-target-place-via-else-target-place+then-left-eq0}

pub returns-then-target-place-clause-none : goal.returns-then-target-place-clause-none
returns-then-target-place-clause-none c =
    let ends : (c.loop-label.left ≡ 0) ⊎ (c.loop-label.place ≤ c.in-Err-Pointer.target) = elim c.then-target-place.branch [
      | then-target-place-via-then-target-place w ↦ inr (omega arith)
      | then-target-place-via-else-target-place+then-left-eq0 w ↦ inl (omega arith)
    ] in
    let P : List ℕ → Type 0 = λ octets. NoLabel octets (Pointer c.in-Err-Pointer.target) in
    c.loop-label.invariant [] (fault (Pointer c.in-Err-Pointer.target)
    (subst P c.octets_from.ensures (rw c.in-Err-Pointer.field-0-is at c.in-Err-Pointer.ensures.err)) ends)

pub loop-label-preserved : goal.loop-label-preserved
loop-label-preserved c = λ labels seen.
    let P : List ℕ → Type 0 = λ octets. NoLabel octets (Pointer c.in-Err-Pointer.target) in
    let Q : ℕ → Type 0 = λ target. Seen c.args.octets.now (c.loop-label.left - 1) target labels in
    c.loop-label.invariant labels
    (seen_pointer c.args.octets.now c.loop-label.left c.loop-label.place c.in-Err-Pointer.target labels
    (subst P c.octets_from.ensures (rw c.in-Err-Pointer.field-0-is at c.in-Err-Pointer.ensures.err)) (omega arith) (omega arith) (subst Q c.from-target.ensures seen))

pub returns-in-Err-BadType-clause-none : goal.returns-in-Err-BadType-clause-none
returns-in-Err-BadType-clause-none c =
    let P : List ℕ → Type 0 = λ octets. NoLabel octets (BadType c.in-Err-BadType.field-0-0) in
    c.loop-label.invariant [] (fault (BadType c.in-Err-BadType.field-0-0)
    (subst P c.octets_from.ensures (rw c.in-Err-BadType.field-0-is at c.in-Err-BadType.ensures.err)) tt)

pub returns-in-Err-ShortInput-clause-none : goal.returns-in-Err-ShortInput-clause-none
returns-in-Err-ShortInput-clause-none c =
    let P : List ℕ → Type 0 = λ octets. NoLabel octets ShortInput in
    c.loop-label.invariant [] (fault ShortInput
    (subst P c.octets_from.ensures (rw c.in-Err-ShortInput.field-0-is at c.in-Err-ShortInput.ensures.err)) tt)
