use Rattle.std.proofs.Common.{◌≡◌, length}
use Rattle.dns_octets.specs.Builder.{before}
use Rattle.dns_compress.specs.Listed.{listed}
use Rattle.dns_compress.proofs.suffix_map.SuffixMap.cut.Given as goal

abbrev pub invariant-loop : goal.invariant-loop
invariant-loop l = before l.len (listed l.self.list) ≡ before l.len (listed l.initial.self.list)

abbrev pub decreases-loop : goal.decreases-loop
decreases-loop l = length (listed l.self.list)
