use Rattle.std.proofs.Common.{◌≤◌, List, ℕ, length, sym, subst}
use Rattle.std.proofs.lemmas.List.{take_all}
use Rattle.dns_label.specs.Name.{labels_wire}
use Rattle.dns_wire.specs.Chain.{AreOfName}
use Rattle.dns_wire.proofs.label_iter.ToLabelIter.iter_labels.Goals as goal

pub returns-clause-labels : goal.returns-clause-labels
returns-clause-labels g c = take_all 128 (g.Self.ToLabelIter.labels c.args.self.now) c.first_place.ensures.few

pub returns-clause-few : goal.returns-clause-few
returns-clause-few g c =
    let P : List (List ℕ) → Type 0 = λ l. length l ≤ 128 in subst P (sym (returns-clause-labels g c)) c.first_place.ensures.few

pub returns-clause-short : goal.returns-clause-short
returns-clause-short g c =
    let P : List (List ℕ) → Type 0 = λ l. length (labels_wire l) ≤ 255 in
    subst P (sym (returns-clause-labels g c)) c.first_place.ensures.short

pub returns-clause-are : goal.returns-clause-are
returns-clause-are g c =
    let P : List (List ℕ) → Type 0 = λ l. ∥ AreOfName l ∥₁ in subst P (sym (returns-clause-labels g c)) c.first_place.ensures.are
