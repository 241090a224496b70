-- What an iterator over the suffixes of a name has left.
use Rattle.std.specs.Prelude.{ℕ, List, [], Option, Some, None}
use denote.Ref.{Bor}
use Rattle.dns_name.specs.declared.parsed.ParsedName.{ParsedName}
use Rattle.dns_name.specs.ParsedName.{labels_of}
use Rattle.dns_wire.specs.Suffix.{suffixes}

abbrev pub suffixes_left : {ghosts : _} → Option (ParsedName (Bor (List ℕ)) ghosts) → List (List (List ℕ))
suffixes_left None = []
suffixes_left (Some name) = suffixes (labels_of name)
