use Rattle.std.proofs.Common.{length, refl, ap, arith}
use Rattle.dns_scan.specs.Decoding.{progress_of}
use Rattle.dns_scan.proofs.Decoded.{no_more_pads, no_pad}
use Rattle.dns_scan.proofs.encoding.group.Group.push_pad.Goals as goal

pub returns-then-self-gt0-clause-why : goal.returns-then-self-gt0-clause-why
returns-then-self-gt0-clause-why c = λ octets.
    let view = c.self.view_is in
    let pads = ap (λ p. p.pads) view in
    let waits = ap (λ p. length p.waiting) view in
    let counted = c.len.ensures in (
      omega arith,
      no_more_pads (progress_of octets c.args.self.now)
          (λ fits. let bad = c.if-pad_fits.ensures.1 (omega (arith, fits.0), omega (arith, fits.1)) in cc),
    )

pub returns-clause-why : goal.returns-clause-why
returns-clause-why c = λ octets.
    let view = c.self.view_is in
    let pads = ap (λ p. p.pads) view in
    let waits = ap (λ p. length p.waiting) view in
    let counted = c.len.ensures in (
      refl,
      omega arith,
      no_pad,
      no_more_pads (progress_of octets c.args.self.now)
          (λ fits. let bad = c.if-pad_fits.ensures.1 (omega (arith, fits.0), omega (arith, fits.1)) in cc),
    )
