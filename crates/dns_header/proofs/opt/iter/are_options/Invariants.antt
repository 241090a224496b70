use Rattle.std.proofs.Common.{◌↔◌, length}
use Rattle.dns_header.specs.Opt.{AreOptions}
use Rattle.dns_header.proofs.opt.iter.are_options.Given as goal

abbrev pub invariant-loop-rest : goal.invariant-loop-rest
invariant-loop-rest l = AreOptions l.rest ↔ AreOptions l.octets

abbrev pub decreases-loop-rest : goal.decreases-loop-rest
decreases-loop-rest l = length l.rest
