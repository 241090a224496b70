-- The labels of a name in a message.
use Rattle.std.specs.Prelude.{ℕ, List}
use denote.Ref.{Bor}
use Rattle.dns_label.specs.Labels.{labels_at}
use Rattle.dns_wire.specs.Parsed.{IsWrittenAt}
use Rattle.dns_name.specs.declared.parsed.ParsedName.{ParsedName}

-- the labels without the root's, where `list` says which octets are held
abbrev pub labels_in : {Octs : Type 0} {ghosts : _} → (Octs → List ℕ) → ParsedName Octs ghosts → List (List ℕ)
labels_in list name = labels_at (list name.octets) name.start

-- the same for a name that borrows the message
abbrev pub labels_of : {ghosts : _} → ParsedName (Bor (List ℕ)) ghosts → List (List ℕ)
labels_of name = labels_in (λ octets. octets.now) name

-- the name is in its wire form where it begins
abbrev pub IsWrittenOut : {Octs : Type 0} {ghosts : _} → (Octs → List ℕ) → ParsedName Octs ghosts → Type 0
IsWrittenOut list name = IsWrittenAt (list name.octets) name.start
