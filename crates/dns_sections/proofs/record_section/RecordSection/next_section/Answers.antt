use Rattle.std.proofs.Common.{◌≡◌, ◌∙◌, Some, None, Ok, ap, subst, sym}
use Rattle.dns_octets.specs.Parser.{place_of}
use Rattle.dns_sections.specs.Sections.{at_start, following, LeadsOn}
use Rattle.dns_sections.specs.Seen.{records_at}
use Rattle.dns_sections.proofs.Walks.{refused}
use Rattle.dns_sections.proofs.record_section.RecordSection.next_section.Goals as goal

pub returns-in_default : goal.returns-in_default
returns-in_default c =
    let none : following c.args.self.section ≡ None = cc in LeadsOn.last none

pub returns-in_err-parser : goal.returns-in_err-parser
returns-in_err-parser c =
    let follows : following c.args.self.section ≡ Some c.in-Some.section = cc in
    refused c.from_residual.result c.in_err-parser.field-0.0 _ _ c.from_residual.ensures.1 (LeadsOn.stuck follows c.in_err-parser.ensures.passes)

pub returns : goal.returns
returns c =
    let follows : following c.args.self.section ≡ Some c.in-Some.section = cc in
    let is : records_at c.at_start.result ≡ at_start (records_at c.args.self).cursor.message c.in-Some.section (place_of c.in_ok-parser.parser) =
    c.at_start.ensures ∙ ap (λ m. at_start m c.in-Some.section (place_of c.in_ok-parser.parser)) c.in_ok-parser.ensures.same in
    subst (λ s. LeadsOn (records_at c.args.self) (Ok (Some s))) (sym is) (LeadsOn.on follows c.in_ok-parser.ensures.passes)
