-- The suffixes of a list of labels.
use Rattle.std.proofs.Common.{◌≡◌, ℕ, ◌+◌, List, [], ◌∷◌, length, refl, ap, arith}
use Rattle.dns_wire.specs.Suffix.{suffixes}

-- as many as there are labels, and the empty one
pub length-suffixes : (labels : List (List ℕ)) → length (suffixes labels) ≡ length labels + 1
length-suffixes [] = refl
length-suffixes (label ∷ labels) = omega (arith, length-suffixes labels)

-- each begins with the list itself
pub suffixes-behind : {labels parent : List (List ℕ)} {label : List ℕ} → labels ≡ label ∷ parent
    → suffixes labels ≡ labels ∷ suffixes parent
suffixes-behind {labels = []} is = cc
suffixes-behind {labels = first ∷ labels} {parent} is =
    let e : labels ≡ parent = cc in ap (λ l. (first ∷ labels) ∷ suffixes l) e

pub suffixes-none : {labels : List (List ℕ)} → labels ≡ [] → suffixes labels ≡ labels ∷ []
suffixes-none {labels = []} is = refl
suffixes-none {labels = first ∷ labels} is = cc
