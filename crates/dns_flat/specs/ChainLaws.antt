-- The root's label is still last after more labels.
use Rattle.std.specs.Prelude.{◌≡◌, ℕ, List, [], ◌∷◌, ◌++◌}
use Rattle.std.proofs.Common.{sym, ◌∙◌, ap, append_assoc}
use Rattle.dns_label.specs.Name.{with_root}

pub rooted_behind : (front : List (List ℕ)) {labels : List (List ℕ)} (name : List (List ℕ)) → labels ≡ with_root name → front ++ labels ≡ with_root (front ++ name)
rooted_behind front name is = ap (λ l. front ++ l) is ∙ sym (append_assoc front name ([] ∷ []))
