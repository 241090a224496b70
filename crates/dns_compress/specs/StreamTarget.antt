-- Contracts see a stream target as the wrapped target, and as the message after its length.
use Rattle.std.specs.Prelude.{ℕ, List, drop}
use Rattle.dns_compress.specs.declared.stream_target.StreamTarget.{StreamTarget}

abbrev pub target_in : {Target : Type 0} {composes : _} {builds : _} {holds : _} {remembers : _} → StreamTarget Target composes builds holds remembers → Target
target_in stream = stream.target

abbrev pub message_in : {Target : Type 0} {composes : _} {builds : _} {holds : _} {remembers : _} → (Target → List ℕ) → StreamTarget Target composes builds holds remembers → List ℕ
message_in list stream = drop 2 (list stream.target)
