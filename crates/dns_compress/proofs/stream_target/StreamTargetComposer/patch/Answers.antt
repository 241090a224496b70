use Rattle.std.proofs.Common.{drop, ap, ◌∙◌}
use Rattle.dns_compress.proofs.Framing.{drop-patched, framed_some}
use Rattle.dns_compress.proofs.stream_target.StreamTargetComposer.patch.Goals as goal

pub returns-clause-octets : goal.returns-clause-octets
returns-clause-octets g c =
    ap (drop 2) c.patch.ensures.octets ∙ drop-patched _ c.args.place c.args.octets.now (framed_some _ c.args.self.now.framed)
