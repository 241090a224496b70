use Rattle.std.proofs.Common.{◌≡◌, ◌∙◌, length, subst}
use Rattle.dns_octets.specs.Builder.{IsPast}
use Rattle.dns_name.specs.Page.{Page, write}
use Rattle.dns_name.specs.Page.Parts.{End, Octets, Named}
use Rattle.dns_name.specs.RecordData.{page_of}
use Rattle.dns_header.specs.Head.{labelled, head_parts}
use Rattle.dns_header.proofs.Composing.{on_ok}
use Rattle.dns_header.proofs.record_header.RecordHeader.compose.Goals as goal

pub returns-clause-ok : goal.returns-clause-ok
returns-clause-ok g c =
    let page : Page = page_of (g.Target.Octets.list c.args.target.now) (g.Target.Remembers.known c.args.target.now) in
    on_ok c.compose_head.result
    (λ is. is ∙ (λ i. write g.Target.Composer.spelling page (Named (g.N.ToName.name (c.self.view_is i).owner) (Octets (c.fixed.ensures i) End))))
    c.compose_head.ensures.ok

pub returns-clause-short : goal.returns-clause-short
returns-clause-short g c is =
    let page : Page = page_of (g.Target.Octets.list c.args.target.now) (g.Target.Remembers.known c.args.target.now) in
    let same : write g.Target.Composer.spelling page (Named (g.N.ToName.name c.self.inside.owner) (Octets c.fixed.result End))
    ≡ write g.Target.Composer.spelling page (head_parts (labelled g.N.ToName.name c.args.self.now)) =
    λ i. write g.Target.Composer.spelling page (Named (g.N.ToName.name (c.self.view_is i).owner) (Octets (c.fixed.ensures i) End)) in
    subst (λ (p : Page). IsPast (g.Target.OctetsBuilder.bound c.args.target.now) (length p.octets)) same (c.compose_head.ensures.short is)
