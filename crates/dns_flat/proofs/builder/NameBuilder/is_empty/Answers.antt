use Rattle.std.proofs.Common.{◌≡◌, ℕ, true, List, [], ◌∷◌, length, refl, sym, ◌∙◌, ap, rules, arith}
use Rattle.std.specs.Prelude.{◌==◌}
use borrow.Author.Tests.{tests}
use Rattle.dns_label.specs.Name.{labels_wire}
use Rattle.dns_flat.proofs.builder.NameBuilder.is_empty.Goals as goal

no_labels : (labels : List (List ℕ)) → length (labels_wire labels) ≡ 0 → labels ≡ []
no_labels [] none = refl
no_labels (label ∷ labels) none = absurd (omega arith)

zero_of : (n : ℕ) → (n == 0) ≡ true → n ≡ 0
zero_of n is = search (rules, tests)

pub returns : goal.returns
returns g c = (
  λ yes. no_labels _ (sym (ap (length {A = ℕ}) c.as_slice.ensures.labels) ∙ zero_of _ (sym c.is_empty.ensures ∙ yes)),
  λ none. c.is_empty.ensures ∙ ap (λ (n : ℕ). n == 0) (ap (length {A = ℕ}) (c.as_slice.ensures.labels ∙ ap labels_wire none)),
)
