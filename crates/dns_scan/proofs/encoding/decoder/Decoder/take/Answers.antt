use Rattle.std.proofs.Common.{◌≡◌, sym, ◌∙◌, ap, subst}
use Rattle.std.specs.Prelude.{Option, None}
use Rattle.std.proofs.lemmas.Result.{err_from_is_err_and}
use Rattle.dns_scan.specs.declared.encoding.decode_error.DecodeError.{DecodeError}
use Rattle.dns_scan.specs.Decoding.{Progress, WhyRefused, progress_of}
use Rattle.dns_scan.specs.declared.encoding.base.Base.{Base}
use Rattle.dns_scan.proofs.encoding.decoder.Decoder.take.Goals as goal

pub returns-in_err-octet-clause-why : goal.returns-in_err-octet-clause-why
returns-in_err-octet-clause-why g c =
    let p = err_from_is_err_and c.from_residual.result c.from_residual.ensures.1 in
    let octets = g.Builder.Octets.list c.self.inside.builder in
    let group = c.self.inside.group in
    let none : c.self.inside.error ≡ None = ap (λ (q : Progress). q.error) c.self.view_is ∙ c.requires in
    let with_error : Option DecodeError → Progress =
    λ e. record { octets = octets; waiting = group.waiting; pads = group.pads; error = e } in
    let same : progress_of octets group ≡ c.args.self.now = ap with_error (sym none) ∙ c.self.view_is in
    let P : Progress → Type 0 = λ q. WhyRefused g.E.Encoding.BASE q c.args.character c.in_err-octet.field-0.0 in
    let Q : Base → Type 0 = λ b. WhyRefused b (progress_of octets group) c.args.character c.in_err-octet.field-0.0 in
    rw (p.1, p.2) (subst P same (subst Q c.BASE.ensures (c.in_err-octet.ensures.why octets)))
