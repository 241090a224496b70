-- What holds of each element of two joined lists.
use Rattle.std.proofs.Common.{◌<◌, ◌^◌, ℕ, List, [], ◌∷◌, ◌++◌}
use Rattle.std.specs.List.{AllByRecursion}
use Rattle.dns_label.specs.Name.{wire}
use Rattle.dns_label.specs.Octets.{AreOctets}

-- what holds of each element of two joined lists
pub all_fronts : {X : Type 0} (P : X → Type 0) (front back : List X) → AllByRecursion P (front ++ back)
    → AllByRecursion P front × AllByRecursion P back
all_fronts P [] back all = (tt, all)
all_fronts P (x ∷ front) back all =
    let rest = all_fronts P front back all.1 in ((all.0, rest.0), rest.1)

pub all_append : {X : Type 0} (P : X → Type 0) (front back : List X) → AllByRecursion P front → AllByRecursion P back
    → AllByRecursion P (front ++ back)
all_append P [] back all more = more
all_append P (x ∷ front) back all more = (all.0, all_append P front back all.1 more)

-- the labels of a name whose octets these are
pub wire_back : (labels : List (List ℕ)) → AreOctets (wire labels) → AllByRecursion AreOctets labels
wire_back [] octets_are = tt
wire_back (label ∷ labels) octets_are =
    let both = all_fronts (λ octet. octet < 2 ^ 8) label (wire labels) octets_are.1 in (both.0, wire_back labels both.1)
