-- A name in octets of its own.
use Rattle.std.specs.Prelude.{◌≡◌, ◌++◌, ℕ, List}
use Rattle.std.specs.List.{AllByRecursion}
use Rattle.dns_label.specs.Name.{IsLabel, IsName, wire}
use Rattle.dns_label.specs.Labels.{labels_at}

-- the octets are the wire form of a name
pub record IsWritten (octets : List ℕ) : Type 0 where
  pub is_name : IsName (labels_at octets 0)
  pub whole : octets ≡ wire (labels_at octets 0)

-- the octets begin with the wire form of these labels and the root, and go on with the rest
pub record StartsWithName (octets : List ℕ) (name : List (List ℕ)) (rest : List ℕ) : Type 0 where
  pub labels : AllByRecursion IsLabel name
  pub whole : octets ≡ wire name ++ rest
