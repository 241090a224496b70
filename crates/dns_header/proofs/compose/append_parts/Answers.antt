use Rattle.std.proofs.Common.{◌≡◌, ◌≤◌, ◌∙◌, ap, subst, rules, length}
use Rattle.std.specs.Prelude.{Err}
use Rattle.dns_octets.specs.Builder.{IsPast}
use Rattle.dns_octets.specs.declared.error.AppendError.TheVariants.{ShortBuf}
use Rattle.dns_name.specs.Page.{Page, write}
use Rattle.dns_name.specs.Page.Parts.{End, Octets, Named}
use Rattle.dns_name.specs.RecordData.{page_of, counted_length}
use Rattle.dns_name.proofs.Growth.{GrowsTo-trans}
use Rattle.dns_header.specs.Head.{fixed_octets}
use Rattle.dns_header.proofs.Composing.{on_ok, whole-is, past_front, past_whole}
use Rattle.dns_header.proofs.compose.append_parts.Goals as goal

pub returns-in_err-append_head-clause-short : goal.returns-in_err-append_head-clause-short
returns-in_err-append_head-clause-short g c is =
    let refused : c.append_head.result ≡ Err ShortBuf = search rules in
    let same : c.fixed.result ≡ fixed_octets (g.Data.RecordData.rtype c.args.rdata.now) c.args.class c.args.ttl =
    c.fixed.ensures ∙ ap (λ n. fixed_octets n c.args.class c.args.ttl) c.rtype.ensures in
    past_front _ _ _ _ _ _ (subst (λ more. IsPast (g.Target.OctetsBuilder.bound c.args.target.now) (length (write g.Target.Composer.spelling (page_of (g.Target.Octets.list c.args.target.now) (g.Target.Remembers.known c.args.target.now)) (Named (g.N.ToName.name c.args.owner.now) (Octets more End))).octets)) same (c.append_head.ensures.short refused))

pub returns-clause-ok : goal.returns-clause-ok
returns-clause-ok g c =
    let page : Page = page_of (g.Target.Octets.list c.args.target.now) (g.Target.Remembers.known c.args.target.now) in
    let name = g.N.ToName.name c.args.owner.now in
    let same : c.fixed.result ≡ fixed_octets (g.Data.RecordData.rtype c.args.rdata.now) c.args.class c.args.ttl =
    c.fixed.ensures ∙ ap (λ n. fixed_octets n c.args.class c.args.ttl) c.rtype.ensures in
    on_ok c.compose_len_rdata.result
    (λ is. whole-is _ page _ _ name _ _ (c.in_ok-append_head.ensures.ok ∙ ap (λ more. write g.Target.Composer.spelling page (Named name (Octets more End))) same) is)
    c.compose_len_rdata.ensures.ok

pub returns-clause-grows : goal.returns-clause-grows
returns-clause-grows g c = GrowsTo-trans c.append_head.ensures.grows c.compose_len_rdata.ensures.grows

pub returns-clause-short : goal.returns-clause-short
returns-clause-short g c is =
    let page : Page = page_of (g.Target.Octets.list c.args.target.now) (g.Target.Remembers.known c.args.target.now) in
    let name = g.N.ToName.name c.args.owner.now in
    let same : c.fixed.result ≡ fixed_octets (g.Data.RecordData.rtype c.args.rdata.now) c.args.class c.args.ttl =
    c.fixed.ensures ∙ ap (λ n. fixed_octets n c.args.class c.args.ttl) c.rtype.ensures in
    past_whole _ page _ name _ _ _ _ (c.in_ok-append_head.ensures.ok ∙ ap (λ more. write g.Target.Composer.spelling page (Named name (Octets more End))) same)
    c.append_head.ensures.same_bound (c.compose_len_rdata.ensures.short is)

pub returns-clause-counts : goal.returns-clause-counts
returns-clause-counts g c =
    let page : Page = page_of (g.Target.Octets.list c.args.target.now) (g.Target.Remembers.known c.args.target.now) in
    let name = g.N.ToName.name c.args.owner.now in
    let same : c.fixed.result ≡ fixed_octets (g.Data.RecordData.rtype c.args.rdata.now) c.args.class c.args.ttl =
    c.fixed.ensures ∙ ap (λ n. fixed_octets n c.args.class c.args.ttl) c.rtype.ensures in
    on_ok c.compose_len_rdata.result
    (subst (λ (p : Page). counted_length g.Target.Composer.spelling p (g.Data.ComposeRecordData.parts c.args.rdata.now) ≤ 65535)
    (c.in_ok-append_head.ensures.ok ∙ ap (λ more. write g.Target.Composer.spelling page (Named name (Octets more End))) same))
    c.compose_len_rdata.ensures.counts
