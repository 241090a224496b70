use Rattle.std.proofs.Common.{ap, ◌∙◌}
use Rattle.dns_octets.specs.Builder.{before}
use Rattle.dns_compress.proofs.Framing.{none_known}
use Rattle.dns_compress.proofs.stream_target.StreamTarget.new.Goals as goal

pub invariant_of-result-clause-none_known : goal.invariant_of-result-clause-none_known
invariant_of-result-clause-none_known g c =
    c.append_slice.ensures.known ∙ c.truncate.ensures.known
    ∙ ap (before 0) (none_known _ _ _ c.requires (g.met.Target.Composer.sound c.args.target))
