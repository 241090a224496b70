use Rattle.std.proofs.Common.{◌≡◌, ◌-◌, ◌∙◌, ap}
use Rattle.dns_zonefile.specs.ReaderSeen.{reader_of}
use Rattle.zone.proofs.ReaderSteps.{number_given}
use Rattle.zone_explain.proofs.Walks.{if_ok, last_at}
use Rattle.zone_explain.proofs.explain.walk.Walk.finding.Goals as goal

pub returns-clause-last : goal.returns-clause-last
returns-clause-last c =
    let zonefile = c.args.self.now.zonefile in
    let row = c.in_ok-row.row in
    if_ok c.finding_in.result c.finding_in.ensures.start (λ finding starts old entry at gives unrefused breaks.
    last_at c.args.text.now old (reader_of zonefile) entry c.args.start _ row.place finding.located.start row.spans.items row.blank_led
    c.in_ok-row.ensures.row at gives (ap (λ n. n - c.args.start.count) (number_given zonefile unrefused)) (starts breaks))
