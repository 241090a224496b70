use Rattle.std.proofs.Common.{◌≡◌, ◌∙◌, length, subst, sym, ap}
use Rattle.dns_octets.specs.Builder.{IsPast}
use Rattle.dns_label.specs.Name.{wire}
use Rattle.dns_name.specs.Page.{Page}
use Rattle.dns_name.specs.RecordData.{page_of}
use Rattle.dns_header.proofs.Composing.{on_ok}
use Rattle.zone_send.proofs.OpaqueRecords.{behind_owner_is, opaque_counted, stored_written}
use Rattle.zone_send.proofs.sending.opaque.OpaqueRecordComposeRecord.compose_record.Goals as goal

pub returns-clause-ok : goal.returns-clause-ok
returns-clause-ok g c =
    let r = c.args.self.now.inner.now in
    let page = page_of (g.Target.Octets.list c.args.target.now) (g.Target.Remembers.known c.args.target.now) in
    let long : c.len.result ≡ length (wire r.owner) = c.len.ensures.octets ∙ ap (λ n. length (wire n)) c.owner-owner.ensures.owner in
    on_ok c.compose_head.result
    (λ is. is ∙ stored_written g.Target.Composer.spelling page r _ _ c.owner-owner.ensures.owner (behind_owner_is r _ _ c.as_octets.ensures.octets long))
    c.compose_head.ensures.ok

pub returns-clause-short : goal.returns-clause-short
returns-clause-short g c is =
    let r = c.args.self.now.inner.now in
    let page = page_of (g.Target.Octets.list c.args.target.now) (g.Target.Remembers.known c.args.target.now) in
    let long : c.len.result ≡ length (wire r.owner) = c.len.ensures.octets ∙ ap (λ n. length (wire n)) c.owner-owner.ensures.owner in
    subst (λ (p : Page). IsPast (g.Target.OctetsBuilder.bound c.args.target.now) (length p.octets))
    (stored_written g.Target.Composer.spelling page r _ _ c.owner-owner.ensures.owner (behind_owner_is r _ _ c.as_octets.ensures.octets long))
    (c.compose_head.ensures.short is)

pub returns-clause-counts : goal.returns-clause-counts
returns-clause-counts g c =
    let r = c.args.self.now.inner.now in
    let page = page_of (g.Target.Octets.list c.args.target.now) (g.Target.Remembers.known c.args.target.now) in
    on_ok c.compose_head.result (λ is. opaque_counted g.Target.Composer.spelling page r c.as_octets.ensures.known.rdata) c.compose_head.ensures.ok
