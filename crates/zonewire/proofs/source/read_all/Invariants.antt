-- The octets read are those that the source lost. Each turn makes the vector longer, and its length has a bound.
use Rattle.std.proofs.Common.{◌≡◌, ◌<◌, ◌-◌, ◌^◌, vec_len}
use Rattle.std.specs.Io.KnownBytes.{Consumes}
use Rattle.zonewire.proofs.source.read_all.Given as goal

abbrev pub invariant-loop-octets : goal.invariant-loop-octets
invariant-loop-octets g l =
    Consumes (g.S.Source.remaining l.initial.source) (g.S.Source.remaining l.source) l.octets.items
    × (g.S.Source.failed l.source ≡ g.S.Source.failed l.initial.source)
    × (0 < vec_len l.piece)

abbrev pub decreases-loop-octets : goal.decreases-loop-octets
decreases-loop-octets g l = 2 ^ 64 - vec_len l.octets
