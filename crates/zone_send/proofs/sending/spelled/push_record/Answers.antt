use Rattle.std.proofs.Common.{sym, ◌∙◌, ap}
use Rattle.dns_header.specs.Written as written
use Rattle.dns_name.specs.Page.Parts.{End, Octets}
use Rattle.dns_rdata.specs.Data as data_specs
use Rattle.dns_rdata.specs.Data.{number_of}
use Rattle.dns_builder.specs.Seen.{draft_of}
use Rattle.zone_records.specs.Typed.{seen_of}
use Rattle.zone_send.specs.SpelledSending.{may_have_pointer}
use Rattle.zone_send.proofs.OpaqueRecords.{opaque_written}
use Rattle.zone_send.proofs.SpelledPushes.{pushed_by, typed_written}
use Rattle.zone_send.proofs.sending.spelled.push_record.Goals as goal

pub returns-then-may_have_pointer : goal.returns-then-may_have_pointer
returns-then-may_have_pointer g c =
    let rr = seen_of c.typed_record.result in
    pushed_by g.Target.Composer.spelling c.args.next.now (written.written_of (λ labels. labels) number_of data_specs.parts_of rr)
    (draft_of c.args.builder.now) (draft_of c.push_ref.new.self) c.push_ref.result c.was_taken.result
    (typed_written g.Target.Composer.spelling rr c.args.next.now c.typed_record.ensures.fields c.typed_record.ensures.same)
    c.push_ref.ensures.ok c.push_ref.ensures.taken c.push_ref.ensures.err c.push_ref.ensures.why c.push_ref.ensures.limits
    c.was_taken.ensures.yes c.was_taken.ensures.no

pub returns-else-may_have_pointer : goal.returns-else-may_have_pointer
returns-else-may_have_pointer g c =
    let r = c.args.next.now in
    pushed_by g.Target.Composer.spelling r (record { owner = r.owner; rtype = r.rtype; class = r.class; ttl = r.ttl; rdata = Octets r.rdata End })
    (draft_of c.args.builder.now) (draft_of c.push_ref-else-may_have_pointer.new.self) c.push_ref-else-may_have_pointer.result
    c.was_taken-else-may_have_pointer.result
    (opaque_written g.Target.Composer.spelling r
    (ap may_have_pointer (sym c.rtype.ensures) ∙ sym c.may_have_pointer.ensures ∙ c.if-may_have_pointer.false) c.requires)
    c.push_ref-else-may_have_pointer.ensures.ok c.push_ref-else-may_have_pointer.ensures.taken c.push_ref-else-may_have_pointer.ensures.err
    c.push_ref-else-may_have_pointer.ensures.why c.push_ref-else-may_have_pointer.ensures.limits
    c.was_taken-else-may_have_pointer.ensures.yes c.was_taken-else-may_have_pointer.ensures.no
