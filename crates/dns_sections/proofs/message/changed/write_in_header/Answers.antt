use Rattle.std.proofs.Common.{◌∙◌, arith}
use Rattle.dns_sections.proofs.Written.{written-more, written-all}
use Rattle.dns_sections.proofs.message.changed.write_in_header.Goals as goal

pub loop-i-preserved : goal.loop-i-preserved
loop-i-preserved g c =
    let old = g.Octs.Octets.list c.args.target.now in
    c.set_octet.ensures.octets
    ∙ written-more old c.args.octets.now (g.Octs.Octets.list c.loop-i.target) c.args.place c.loop-i.i c.loop-i.invariant (omega arith) (omega arith)

pub returns : goal.returns
returns g c =
    let old = g.Octs.Octets.list c.args.target.now in
    c.loop-i.invariant ∙ written-all old c.args.octets.now c.args.place c.loop-i.i (omega arith)
