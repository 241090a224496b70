use Rattle.std.proofs.Common.{◌≡◌, ◌∙◌, sym, ap, subst}
use Rattle.dns_message.specs.Held.{record_of}
use Rattle.dns_zonefile.specs.Entry.Entry.{Resource}
use Rattle.dns_entry_scanner.specs.Lines.{line_at}
use Rattle.dns_zonefile.specs.ReaderSeen.{reader_of}
use Rattle.zone.specs.Reading.{BreaksRule}
use Rattle.zone.proofs.ReaderSteps.{number_given}
use Rattle.zone_explain.specs.AllFaults.{apex_for, front_after}
use Rattle.zone_explain.specs.Walk.{Leads, front_of}
use Rattle.zone_explain.specs.declared.explain.walk.Step.{Step}
use Rattle.zone_explain.specs.declared.explain.walk.Walk.{Walk}
use Rattle.zone_explain.proofs.Walks.{breaks_leads, kept_leads, none_there}
use Rattle.zone_explain.proofs.explain.walk.Walk.judge.Goals.{in-None, in-Some+in_ok-finding-in-Some, in-Some-2+in-Under-1, in-Some-2+in-Unseen-1, in_default}
use Rattle.zone_explain.proofs.explain.walk.Walk.judge.Goals as goal

pub returns-clause-leads : goal.returns-clause-leads
returns-clause-leads c = λ old rr at gives unrefused marks is octets.
    let r = record_of rr in
    let zonefile = c.args.self.now.zonefile in
    let before = front_of c.args.self.now.front in
    let after = front_of c.match-branch-5.self.front in
    let shows : after ≡ front_after before r = elim c.match-branch-5.branch [
      | in-Some-2+in-Under-1 w ↦ ap (λ (s : Walk). front_of s.front) w.self-is ∙ (rw w.in-Some-2.is at c.in_ok-front.ensures.some) r is octets
      | in-Some-2+in-Unseen-1 w ↦ ap (λ (s : Walk). front_of s.front) w.self-is ∙ (rw w.in-Some-2.is at c.in_ok-front.ensures.some) r is octets
      | in_default w ↦ ap (λ (s : Walk). front_of s.front) w.self-is ∙ none_there _ w.in_default.not-Some c.in_ok-front.ensures.none r
    ] in
    elim c.match-branch-2.branch [
      | in-None w ↦ (
        subst (λ (s : Step). Leads old before s (reader_of zonefile) after) (sym w.step-is)
            (kept_leads gives ((rw w.in-None.is at c.in_ok-broken_rule.ensures.none) r is octets) shows),
        (λ ended. let step = w.step-is in absurd cc),
      )
      | in-Some+in_ok-finding-in-Some w ↦
          let broken = (rw w.in-Some.is at c.in_ok-broken_rule.ensures.some) r is octets in
          let found = w.in_ok-finding-in-Some in
          let finding = found.field-0 in (
            subst (λ (s : Step). Leads old before s (reader_of zonefile) after) (sym w.step-is)
                (breaks_leads gives (subst (λ n. BreaksRule n (apex_for before r) r w.in-Some.fault) (number_given zonefile unrefused) broken.0)
                (found.ensures.fault, found.ensures.line marks ∙ ap (λ t. line_at t finding.located.start) (sym at.text_is))
                (found.ensures.last old (Resource rr) at gives unrefused broken.1) shows),
            (λ ended. let step = w.step-is in absurd cc),
          )
    ]
