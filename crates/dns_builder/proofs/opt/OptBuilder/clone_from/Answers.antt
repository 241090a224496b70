use Rattle.std.proofs.Common.{ℕ, length, inr, ◌∙◌, ap, subst}
use Rattle.dns_header.specs.Opt.{options_octets}
use Rattle.dns_builder.specs.OptReplaced.{RefusesOctets}
use Rattle.dns_builder.proofs.OptOptions.{no-octets}
use Rattle.dns_builder.proofs.opt.OptBuilder.clone_from.Goals as goal

pub returns-in-Err-clause-why : goal.returns-in-Err-clause-why
returns-in-Err-clause-why g c =
    let here = g.Target.Octets.list c.args.self.now.target in
    let bound = g.Target.OctetsBuilder.bound c.args.self.now.target in
    inr
    (subst (λ n. RefusesOctets here bound n c.in-Err.error) (ap (length {A = ℕ}) (c.as_slice-options.ensures.octets ∙ ap options_octets c.opt.ensures))
    (no-octets here c.as_slice-options.result.now bound c.in-Err.error c.in-Err.ensures.short c.in-Err.ensures.not_bad))
