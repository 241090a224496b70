use Rattle.std.proofs.Common.{refl, ap}
use Rattle.dns_sections.specs.Copied.{StopsIn, Stops}
use Rattle.dns_sections.specs.Message.{octets_in}
use Rattle.dns_sections.specs.Sections.{IsSectionOf, following}
use Rattle.dns_sections.specs.Seen.{records_at}
use Rattle.dns_sections.specs.declared.error.CopyRecordsError.TheVariants.{Parse}
use Rattle.dns_sections.specs.declared.section.Section.TheVariants.{Answer, Authority, Additional}
use Rattle.dns_sections.proofs.Copies.{handed-on, section-copied}
use Rattle.dns_sections.proofs.Reached.{section-on, section-stuck}
use Rattle.dns_sections.proofs.message.Message.copy_records.Goals as goal

pub returns-in_err-answer-clause-err : goal.returns-in_err-answer-clause-err
returns-in_err-answer-clause-err g c =
    handed-on c.from_residual.result (Parse c.in_err-answer.field-0.0) _ c.from_residual.ensures.1
    (Stops.in_answer (StopsIn.out_of_reach c.in_err-answer.ensures))

pub returns-in_err-copy_section-clause-err : goal.returns-in_err-copy_section-clause-err
returns-in_err-copy_section-clause-err g c =
    let first : IsSectionOf (octets_in g.Octs.Octets.list c.args.self.now) Answer (records_at c.in_ok-answer.answer) = c.in_ok-answer.ensures in
    handed-on c.from_residual-in_err-copy_section.result c.in_err-copy_section.field-0.0 _ c.from_residual-in_err-copy_section.ensures.1
    (Stops.in_answer (StopsIn.stopped first c.in_err-copy_section.ensures.err))

pub returns-in_err-authority-clause-err : goal.returns-in_err-authority-clause-err
returns-in_err-authority-clause-err g c =
    let first : IsSectionOf (octets_in g.Octs.Octets.list c.args.self.now) Answer (records_at c.in_ok-answer.answer) = c.in_ok-answer.ensures in
    handed-on c.from_residual-in_err-authority.result (Parse c.in_err-authority.field-0.0) _ c.from_residual-in_err-authority.ensures.1
    (Stops.in_authority (section-copied first c.in_ok-copy_section.ensures.ok) c.into_next-target.ensures
    (StopsIn.out_of_reach (section-stuck refl first c.in_err-authority.ensures)))

pub returns-in_err-copy_section-2-clause-err : goal.returns-in_err-copy_section-2-clause-err
returns-in_err-copy_section-2-clause-err g c =
    let first : IsSectionOf (octets_in g.Octs.Octets.list c.args.self.now) Answer (records_at c.in_ok-answer.answer) = c.in_ok-answer.ensures in
    let second : IsSectionOf (octets_in g.Octs.Octets.list c.args.self.now) Authority (records_at c.in_ok-authority.authority) =
    section-on refl first c.in_ok-authority.ensures in
    handed-on c.from_residual-in_err-copy_section-2.result c.in_err-copy_section-2.field-0.0 _
    c.from_residual-in_err-copy_section-2.ensures.1
    (Stops.in_authority (section-copied first c.in_ok-copy_section.ensures.ok) c.into_next-target.ensures
    (StopsIn.stopped second c.in_err-copy_section-2.ensures.err))

pub following-requires-2 : goal.following-requires-2
following-requires-2 g c =
    let first : IsSectionOf (octets_in g.Octs.Octets.list c.args.self.now) Answer (records_at c.in_ok-answer.answer) = c.in_ok-answer.ensures in
    let second : IsSectionOf (octets_in g.Octs.Octets.list c.args.self.now) Authority (records_at c.in_ok-authority.authority) =
    section-on refl first c.in_ok-authority.ensures in
    (Additional, ap (λ s. following s.section) second.is)

pub returns-in_err-additional-clause-err : goal.returns-in_err-additional-clause-err
returns-in_err-additional-clause-err g c =
    let first : IsSectionOf (octets_in g.Octs.Octets.list c.args.self.now) Answer (records_at c.in_ok-answer.answer) = c.in_ok-answer.ensures in
    let second : IsSectionOf (octets_in g.Octs.Octets.list c.args.self.now) Authority (records_at c.in_ok-authority.authority) =
    section-on refl first c.in_ok-authority.ensures in
    handed-on c.from_residual-in_err-additional.result (Parse c.in_err-additional.field-0.0) _ c.from_residual-in_err-additional.ensures.1
    (Stops.in_additional (section-copied first c.in_ok-copy_section.ensures.ok) c.into_next-target.ensures
    (section-copied second c.in_ok-copy_section-2.ensures.ok) c.into_next-target-2.ensures
    (StopsIn.out_of_reach (section-stuck refl second c.in_err-additional.ensures)))

pub returns-in_err-copy_section-3-clause-err : goal.returns-in_err-copy_section-3-clause-err
returns-in_err-copy_section-3-clause-err g c =
    let first : IsSectionOf (octets_in g.Octs.Octets.list c.args.self.now) Answer (records_at c.in_ok-answer.answer) = c.in_ok-answer.ensures in
    let second : IsSectionOf (octets_in g.Octs.Octets.list c.args.self.now) Authority (records_at c.in_ok-authority.authority) =
    section-on refl first c.in_ok-authority.ensures in
    let third : IsSectionOf (octets_in g.Octs.Octets.list c.args.self.now) Additional (records_at c.in_ok-additional.additional) =
    section-on refl second c.in_ok-additional.ensures in
    handed-on c.from_residual-in_err-copy_section-3.result c.in_err-copy_section-3.field-0.0 _
    c.from_residual-in_err-copy_section-3.ensures.1
    (Stops.in_additional (section-copied first c.in_ok-copy_section.ensures.ok) c.into_next-target.ensures
    (section-copied second c.in_ok-copy_section-2.ensures.ok) c.into_next-target-2.ensures
    (StopsIn.stopped third c.in_err-copy_section-3.ensures.err))

pub returns-clause-ok : goal.returns-clause-ok
returns-clause-ok g c =
    let first : IsSectionOf (octets_in g.Octs.Octets.list c.args.self.now) Answer (records_at c.in_ok-answer.answer) = c.in_ok-answer.ensures in
    let second : IsSectionOf (octets_in g.Octs.Octets.list c.args.self.now) Authority (records_at c.in_ok-authority.authority) =
    section-on refl first c.in_ok-authority.ensures in
    let third : IsSectionOf (octets_in g.Octs.Octets.list c.args.self.now) Additional (records_at c.in_ok-additional.additional) =
    section-on refl second c.in_ok-additional.ensures in (
      c.copy_section.new.op,
      c.copy_section-2.new.op,
      c.copy_section-3.new.op,
      c.copy_section.new.target,
      c.into_next-target.result,
      c.copy_section-2.new.target,
      c.into_next-target-2.result,
      section-copied first c.in_ok-copy_section.ensures.ok,
      c.into_next-target.ensures,
      section-copied second c.in_ok-copy_section-2.ensures.ok,
      c.into_next-target-2.ensures,
      section-copied third c.in_ok-copy_section-3.ensures.ok,
    )
