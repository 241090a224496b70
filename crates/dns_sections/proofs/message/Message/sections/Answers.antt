use Rattle.std.proofs.Common.{Ok, Err, refl, ap}
use Rattle.dns_sections.specs.Sections.{IsOutOfReach, IsSectionOf, following}
use Rattle.dns_sections.specs.declared.section.Section.TheVariants.{Answer, Authority, Additional}
use Rattle.dns_sections.specs.Message.{octets_in}
use Rattle.dns_sections.specs.Seen.{records_at}
use Rattle.dns_sections.proofs.Walks.{refused}
use Rattle.dns_sections.proofs.Reached.{answers, section-on, section-stuck}
use Rattle.dns_sections.proofs.message.Message.sections.Goals as goal

pub returns-in_err-answer : goal.returns-in_err-answer
returns-in_err-answer g c =
    let out : IsOutOfReach (octets_in g.Octs.Octets.list c.args.self.now) Answer c.in_err-answer.field-0.0 =
    answers records_at (Err c.in_err-answer.field-0.0) c.question-question.ensures c.in_err-answer.ensures in
    refused c.from_residual.result c.in_err-answer.field-0.0 _ _ c.from_residual.ensures.1
    (IsOutOfReach.earlier {before = Authority} refl (IsOutOfReach.earlier {before = Answer} refl out))

pub returns-in_err-authority : goal.returns-in_err-authority
returns-in_err-authority g c =
    let first : IsSectionOf (octets_in g.Octs.Octets.list c.args.self.now) Answer (records_at c.in_ok-answer.answer) =
    answers records_at (Ok c.in_ok-answer.answer) c.question-question.ensures c.in_ok-answer.ensures in
    refused c.from_residual-in_err-authority.result c.in_err-authority.field-0.0 _ _ c.from_residual-in_err-authority.ensures.1
    (IsOutOfReach.earlier {before = Authority} refl (section-stuck refl first c.in_err-authority.ensures))

pub following-requires-2 : goal.following-requires-2
following-requires-2 g c =
    let first : IsSectionOf (octets_in g.Octs.Octets.list c.args.self.now) Answer (records_at c.in_ok-answer.answer) =
    answers records_at (Ok c.in_ok-answer.answer) c.question-question.ensures c.in_ok-answer.ensures in
    let second : IsSectionOf (octets_in g.Octs.Octets.list c.args.self.now) Authority (records_at c.in_ok-authority.authority) =
    section-on refl first c.in_ok-authority.ensures in
    (Additional, ap (λ s. following s.section) second.is)

pub returns-in_err-additional : goal.returns-in_err-additional
returns-in_err-additional g c =
    let first : IsSectionOf (octets_in g.Octs.Octets.list c.args.self.now) Answer (records_at c.in_ok-answer.answer) =
    answers records_at (Ok c.in_ok-answer.answer) c.question-question.ensures c.in_ok-answer.ensures in
    let second : IsSectionOf (octets_in g.Octs.Octets.list c.args.self.now) Authority (records_at c.in_ok-authority.authority) =
    section-on refl first c.in_ok-authority.ensures in
    refused c.from_residual-in_err-additional.result c.in_err-additional.field-0.0 _ _ c.from_residual-in_err-additional.ensures.1
    (section-stuck refl second c.in_err-additional.ensures)

pub returns : goal.returns
returns g c =
    let first : IsSectionOf (octets_in g.Octs.Octets.list c.args.self.now) Answer (records_at c.in_ok-answer.answer) =
    answers records_at (Ok c.in_ok-answer.answer) c.question-question.ensures c.in_ok-answer.ensures in
    let second : IsSectionOf (octets_in g.Octs.Octets.list c.args.self.now) Authority (records_at c.in_ok-authority.authority) =
    section-on refl first c.in_ok-authority.ensures in
    (c.question-question.ensures, first, second, section-on refl second c.in_ok-additional.ensures)
