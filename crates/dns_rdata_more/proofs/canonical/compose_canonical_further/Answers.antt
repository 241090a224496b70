use Rattle.std.proofs.Common.{◌≡◌, ℕ, length, ap, sym, ◌∙◌, ◌++◌, subst}
use Rattle.dns_octets.specs.Builder.{IsPast}
use Rattle.dns_name.proofs.Soundness.{merely-within}
use Rattle.dns_name.proofs.Growth.{known_back}
use Rattle.dns_octets.specs.Parser.{rest_of}
use Rattle.dns_rdata_more.specs.FurtherData.{lowered_octets}
use Rattle.dns_rdata_more.proofs.Composed.{canonical_forms}
use Rattle.dns_rdata_more.proofs.Whole.{at_start}
use Rattle.dns_rdata_more.proofs.canonical.compose_canonical_further.Goals as goal

pub returns-in-Ok-clause-ok : goal.returns-in-Ok-clause-ok
returns-in-Ok-clause-ok g c =
    let whole : rest_of c.from_ref.result ≡ c.args.octets.now = at_start c.from_ref.result c.from_ref.ensures.place c.from_ref.ensures.octets in
    c.in-Ok.ensures.ok
    ∙ ap (λ l. g.Target.Octets.list c.args.target.now ++ l)
    (ap (lowered_octets c.in-Some.forms.now) whole ∙ sym (canonical_forms c.args.rtype c.in-Some.forms.now c.args.octets.now c.in-Some.ensures.some))

pub returns-in-Err-clause-known : goal.returns-in-Err-clause-known
returns-in-Err-clause-known g c =
    known_back (length c.octets-len.result.now) _ (merely-within (g.met.Target.Composer.sound c.args.target.now)) c.compose_fields.ensures.grows
    (ap (length {A = ℕ}) c.octets-len.ensures) c.truncate.ensures.known

pub returns-in-Err-clause-short : goal.returns-in-Err-clause-short
returns-in-Err-clause-short g c = λ is.
    let whole : rest_of c.from_ref.result ≡ c.args.octets.now = at_start c.from_ref.result c.from_ref.ensures.place c.from_ref.ensures.octets in
    subst (λ l. IsPast (g.Target.OctetsBuilder.bound c.args.target.now) (length (g.Target.Octets.list c.args.target.now ++ l)))
    (ap (lowered_octets c.in-Some.forms.now) whole ∙ sym (canonical_forms c.args.rtype c.in-Some.forms.now c.args.octets.now c.in-Some.ensures.some))
    (c.compose_fields.ensures.short (c.in-Err.is ∙ is))
