-- What an iterator over the suffixes of a flat name has left.
use Rattle.std.specs.Prelude.{ℕ, List, [], Option, Some, None}
use denote.Ref.{Bor}
use Rattle.dns_label.specs.Labels.{labels_at}
use Rattle.dns_wire.specs.Flat.{IsWritten}
use Rattle.dns_wire.specs.Suffix.{suffixes}

abbrev pub suffixes_in : Option (Bor (List ℕ)) → List (List (List ℕ))
suffixes_in None = []
suffixes_in (Some octets) = suffixes (labels_at octets.now 0)

abbrev pub IsLeftFlat : Option (Bor (List ℕ)) → Type 0
IsLeftFlat None = Unit {0}
IsLeftFlat (Some octets) = IsWritten octets.now
