-- What has left `rest` was appended.
use Rattle.std.proofs.Common.{◌≡◌, ℕ, List, ◌++◌, length}
use Rattle.std.specs.Io.KnownBytes.{Appends}
use Rattle.zonewire.proofs.sink.write_all.Given as goal

abbrev pub invariant-loop-rest : goal.invariant-loop-rest
invariant-loop-rest g l =
    ((front : List ℕ) × (l.initial.rest ≡ front ++ l.rest)
    × Appends (g.S.Sink.written l.initial.sink) (g.S.Sink.written l.sink) front)
    × (g.S.Sink.failed l.sink ≡ g.S.Sink.failed l.initial.sink)

abbrev pub decreases-loop-rest : goal.decreases-loop-rest
decreases-loop-rest g l = length l.rest
