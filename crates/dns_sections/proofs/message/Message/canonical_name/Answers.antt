use Rattle.std.proofs.Common.{◌∙◌, ap, subst, sym}
use Rattle.dns_name.specs.ParsedName.{labels_of}
use Rattle.dns_header.specs.QuestionParts.{question_of}
use Rattle.dns_sections.specs.Aliases.{HasCanonicalName, resolved}
use Rattle.dns_sections.specs.Message.{octets_in}
use Rattle.dns_sections.specs.Seen.{records_at}
use Rattle.dns_sections.proofs.message.Message.canonical_name.Goals as goal

pub returns-in-Some : goal.returns-in-Some
returns-in-Some g c =
    let all = c.resolved.ensures in
    subst (HasCanonicalName (octets_in g.Octs.Octets.list c.args.self.now))
    (sym (all.2 ∙ ap (λ name. resolved all.0 20 (labels_of name)) c.qname.ensures))
    (HasCanonicalName.resolves {question = question_of labels_of c.in-Some.question} {at = records_at c.in-Ok.answer} {aliases = all.0}
    c.in-Some.ensures.some c.in-Ok.ensures all.1)

pub returns-in-None : goal.returns-in-None
returns-in-None g c = HasCanonicalName.no_question c.in-None.ensures.none

pub returns-in-Err : goal.returns-in-Err
returns-in-Err g c = HasCanonicalName.out_of_reach c.in-Err.ensures
