use Rattle.std.proofs.Common.{◌+◌, List, ℕ, ◌∷◌, refl, sym, ◌∙◌, ap, arith, rules}
use Rattle.std.specs.Prelude.{length}
use Rattle.dns_label.specs.Label.{label_octets}
use Rattle.dns_label.specs.Seen.{labels_to_see, labels_seen}
use Rattle.dns_label.proofs.Seeing.{labels_seen-seen, next_label, next_root, some_octets}
use Rattle.dns_label.proofs.label.slice_labels.SliceLabelsIterIterator.next.Goals as goal
use Rattle.dns_label.proofs.label.slice_labels.SliceLabelsIterIterator.next.Goals.{then-not-is_root, else-not-is_root}

pub returns-in_err-label-clause-steps : goal.returns-in_err-label-clause-steps
returns-in_err-label-clause-steps c =
    let seen = labels_seen-seen c.self.inside.octets.now c.in_err-label.ensures.none in
    rw c.from_residual-in_err-label.ensures
    (sym c.self.view_is ∙ ap (labels_to_see c.self.inside.octets.now c.self.inside.pointers) c.in_ok-start.was ∙ seen, refl)

pub returns-clause-steps : goal.returns-clause-steps
returns-clause-steps c =
    let found = c.in_ok-label.ensures.found in
    let there = c.in_ok-label.ensures.there in
    let view = sym c.self.view_is ∙ ap (labels_to_see c.self.inside.octets.now c.self.inside.pointers) c.in_ok-start.was in
    elim c.if-not-is_root.branch [
      | then-not-is_root w ↦
          let some = some_octets (label_octets c.in_ok-label.label) (λ none. w.if-not-is_root.ensures.1 none) in
          let behind = w.self-is ∙ ap (λ n. labels_seen c.self.inside.octets.now c.in_ok-label.pointers (c.in_ok-label.place + 1 + n)) w.len.ensures in
          view
          ∙ next_label c.self.inside.octets.now c.self.inside.pointers c.in_ok-start.start c.in_ok-label.pointers c.in_ok-label.place
          (label_octets c.in_ok-label.label) found.0 found.1 some there
          ∙ ap (λ more. label_octets c.in_ok-label.label ∷ more) (sym behind)
      | else-not-is_root w ↦
          view
          ∙ next_root c.self.inside.octets.now c.self.inside.pointers c.in_ok-start.start c.in_ok-label.pointers c.in_ok-label.place
          (label_octets c.in_ok-label.label) found.0 found.1 (w.if-not-is_root.ensures.0 refl) there
          ∙ ap (λ more. label_octets c.in_ok-label.label ∷ more) (sym w.self-is)
    ]

pub returns-clause-goes : goal.returns-clause-goes
returns-clause-goes c =
    let long = ap (length {A = List ℕ}) (returns-clause-steps c) in
    record { on = λ _. (search rules, search rules, omega arith); keeps = search rules; rests = search rules }
