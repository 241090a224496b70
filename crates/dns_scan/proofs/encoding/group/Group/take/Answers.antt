use Rattle.std.proofs.Common.{ℕ, refl, sym, subst}
use Rattle.std.proofs.lemmas.Result.{err_from_is_err_and}
use Rattle.dns_scan.specs.Decoding.{WhyRefused, progress_of}
use Rattle.dns_scan.specs.declared.encoding.base.Base.{Base}
use Rattle.dns_scan.proofs.encoding.group.Group.take.Goals as goal

pub returns-in_err-push_pad-clause-why : goal.returns-in_err-push_pad-clause-why
returns-in_err-push_pad-clause-why c =
    let p = err_from_is_err_and c.from_residual.result c.from_residual.ensures.1 in
    rw (p.1, p.2)
    (λ octets.
    let pad = c.if-is_pad.ensures.0 refl in
    let P : Base → Type 0 = λ b. WhyRefused b (progress_of octets c.args.self.now) 61 c.in_err-push_pad.field-0.0 in
    let Q : ℕ → Type 0 = λ n. WhyRefused c.args.base (progress_of octets c.args.self.now) n c.in_err-push_pad.field-0.0 in
    subst Q (sym pad.1) (subst P (sym pad.0) (c.in_err-push_pad.ensures.why octets)))
