-- The names that are written in the code.
use Rattle.std.proofs.Common.{[], ◌∷◌, arith}
use Rattle.dns_label.specs.Name.{IsName}

pub no_labels_name : IsName []
no_labels_name = record { labels = tt; short = omega arith }

pub wildcard_name : IsName ((42 ∷ []) ∷ [])
wildcard_name = record { labels = (record { some = omega arith; short = omega arith }, tt); short = omega arith }
