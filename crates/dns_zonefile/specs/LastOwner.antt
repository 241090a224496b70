-- The owner of the last record, in octets of its own. Only contracts inside the crate name it.
use Rattle.std.specs.Prelude.{◌≢◌, ℕ, List, [], ◌∷◌, Option, Some, None}
use Rattle.dns_label.specs.Labels.{labels_at}
use Rattle.dns_wire.specs.Flat.{IsWritten}

-- the name that octets are, if there are any
abbrev pub name_in : List ℕ → Option (List (List ℕ))
name_in [] = None
name_in (octet ∷ octets) = Some (labels_at (octet ∷ octets) 0)

-- there are no octets, or they are the wire form of a name
abbrev pub HoldsName : List ℕ → Type 0
HoldsName octets = octets ≢ [] → IsWritten octets
