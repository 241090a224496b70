use Rattle.std.proofs.Common.{arith, refl}
use Rattle.dns_flat.proofs.PartForms.{stripped, strip_start, strip_within, strip_rest}
use Rattle.dns_flat.proofs.relative.RelativeName.strip_suffix.Goals as goal

pub overflow_sub-mid : goal.overflow_sub-mid
overflow_sub-mid g c =
    let strip = stripped c.args.self.now (g.N.ToLabelIter.labels c.args.base.now) (c.if-not-ends_with.ensures.0 refl) in
    omega (arith, strip_within strip, c.from.ensures, c.compose_len.ensures, c.len.ensures.octets)

pub truncate-requires : goal.truncate-requires
truncate-requires g c =
    let strip = stripped c.args.self.now (g.N.ToLabelIter.labels c.args.base.now) (c.if-not-ends_with.ensures.0 refl) in
    strip_start _ strip (omega (arith, strip_within strip, c.from.ensures, c.compose_len.ensures, c.len.ensures.octets))

pub returns-clause-ok : goal.returns-clause-ok
returns-clause-ok g c =
    let strip = stripped c.args.self.now (g.N.ToLabelIter.labels c.args.base.now) (c.if-not-ends_with.ensures.0 refl) in
    strip_rest strip (omega (arith, strip_within strip, c.from.ensures, c.compose_len.ensures, c.len.ensures.octets)) c.truncate.ensures
