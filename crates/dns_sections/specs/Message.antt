-- What contracts see of a message: its octets, the first twelve of them its header (RFC 1035 4.1).
use Rattle.std.specs.Prelude.{ℕ, List}
use denote.Ref.{Bor}
use Rattle.dns_sections.specs.declared.message.Message.{Message}

-- what holds the octets
abbrev pub held_by : {Octs : Type 0} {ghosts : _} → Message Octs ghosts → Octs
held_by message = message.octets

-- the octets, where `list` gives those of their holder
abbrev pub octets_in : {Octs : Type 0} {ghosts : _} → (Octs → List ℕ) → Message Octs ghosts → List ℕ
octets_in list message = list message.octets

-- the octets over a slice
abbrev pub message_octets : {ghosts : _} → Message (Bor (List ℕ)) ghosts → List ℕ
message_octets message = message.octets.now
