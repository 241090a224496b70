use Rattle.std.proofs.Common.{ap, ◌∙◌}
use Rattle.dns_name.specs.Page.{Page}
use Rattle.dns_message_rows.proofs.building.stream.answered_by.Goals as goal

pub returns : goal.returns
returns g c =
    let begun = c.answer-builder.ensures.built _ c.in_ok-from_target.ensures.ok in
    let first = c.in_ok-push.ensures.ok _ begun in
    let second = c.in_ok-push-2.ensures.ok _ first in
    ap g.Target.Octets.list c.finish.ensures ∙ ap (λ (page : Page). page.octets) second.page
