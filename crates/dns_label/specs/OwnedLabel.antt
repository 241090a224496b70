-- A label that holds its octets.
use Rattle.std.specs.Prelude.{ℕ, List, take, drop, slice_index}
use Rattle.dns_label.specs.declared.label.owned.OwnedLabel.{OwnedLabel}

-- the first octet is a length, and that number of octets after it are the label
abbrev pub octets_owned : OwnedLabel → List ℕ
octets_owned label = take (slice_index label.wire 0) (drop 1 label.wire)
