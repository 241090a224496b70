use Rattle.std.proofs.Common.{◌≡◌, ◌≢◌, ◌++◌, ◌∙◌, List, [], ◌∷◌, None, option_copied, sym, ap, subst, rules, append_assoc}
use Rattle.std.proofs.lemmas.List.{append-nil}
use Rattle.std.specs.Prelude.{IfSome}
use Rattle.dns_label.specs.Name.{IsName}
use Rattle.dns_zonefile.specs.Reader.{Reader}
use Rattle.dns_zonefile.specs.ReaderSeen.{reader_of}
use Rattle.zone.specs.Reading.{reader_at}
use Rattle.zone_explain.specs.AllFaults.{AreAllFaults, AreFaults, Front}
use Rattle.zone_explain.specs.EntryRow.{number_of}
use Rattle.zone_explain.specs.Walk.{front_of}
use Rattle.zone_explain.specs.declared.explain.Finding.{Finding}
use Rattle.zone_explain.proofs.FoundFaults.{none_leads, not_found, some_found}
use Rattle.zone_explain.proofs.explain.all.explain_all.Goals as goal

pub returns-in_default : goal.returns-in_default
returns-in_default c =
    subst (λ (l : List Finding). AreAllFaults c.args.text.now (option_copied c.args.origin) c.args.class l) (sym c.new-findings.ensures.items)
    (not_found _ c.in_default.not-Some c.in_ok-first.ensures)

pub returns-then-is_none : goal.returns-then-is_none
returns-then-is_none c =
    let none : c.entry_of.result ≡ None = search rules in
    let items : c.push.new.self.items ≡ c.in-Some.first ∷ [] = search rules in
    subst (λ (l : List Finding). AreAllFaults c.args.text.now (option_copied c.args.origin) c.args.class l) (sym items)
    (AreAllFaults.whole (rw c.in-Some.is at c.in_ok-first.ensures) (sym c.entry_of.ensures.number ∙ none))

pub loop-walk-preserved : goal.loop-walk-preserved
loop-walk-preserved c = record {
  over = c.in_ok-finding.ensures.over;
  leads = λ findings rest.
      let before = c.loop-walk.findings.items in
      let finding = c.in-Some-2.finding in
      let walk = c.in_ok-walk.walk in
      let items : c.push-in-Some-2.new.self.items ≡ before ++ finding ∷ [] = search rules in
      let step = rw c.in-Some-2.is at c.in_ok-finding.ensures.leads in
      let all = c.loop-walk.invariant.leads (finding ∷ findings) (step.0 findings rest) in
      let same = ap (λ (l : List Finding). l ++ findings) items ∙ append_assoc before (finding ∷ []) findings in
      subst (λ (l : List Finding). AreFaults (reader_of walk.zonefile) (front_of walk.front) l) (sym same) all;
}

pub returns : goal.returns
returns c =
    let text = c.args.text.now in
    let origin = option_copied c.args.origin in
    let items = c.loop-walk.findings.items in
    let walk = c.in_ok-walk.walk in
    let found = rw c.in-Some.is at c.in_ok-first.ensures in
    let some : c.entry_of.result ≢ None = search rules in
    let all = c.loop-walk.invariant.leads [] (none_leads _ _ _ _ _ c.in_default-2.not-Some c.in_ok-finding.ensures.leads) in
    let whole = subst (λ (l : List Finding). AreFaults (reader_of walk.zonefile) (front_of walk.front) l) (append-nil items) all in
    let here = subst (λ (r : Reader). AreFaults r (front_of walk.front) items) c.in_ok-walk.ensures.at whole in
    let faults = subst (λ (f : Front). AreFaults (reader_at text origin c.args.class) f items) c.in_ok-walk.ensures.front here in
    let named = subst (λ (r : Reader). IfSome r.context.origin IsName) c.in_ok-walk.ensures.at c.in_ok-walk.ensures.over.named in
    AreAllFaults.each found faults (some_found c.in-Some.first.fault named found.fault (λ none. some (c.entry_of.ensures.number ∙ none)) faults)
