use Rattle.std.proofs.Common.{◌≡◌, ◌∙◌, sym, ap, subst}
use Rattle.dns_entry_scanner.specs.LineMark.{MarksLine}
use Rattle.dns_zonefile.specs.PassedOver.{PassesOver}
use Rattle.dns_entry_scanner.specs.Lines.{line_at}
use Rattle.dns_zonefile.specs.ReaderSeen.{reader_of}
use Rattle.dns_entry_scanner.specs.declared.line_mark.LineMark.{LineMark}
use Rattle.dns_zonefile.specs.declared.zonefile.Zonefile.{Zonefile}
use Rattle.zone.proofs.ReaderSteps.{number_refused}
use Rattle.zone_explain.specs.AllFaults.{front_refused}
use Rattle.zone_explain.specs.Walk.{front_of}
use Rattle.zone_explain.specs.declared.explain.walk.Front.{Front}
use Rattle.zone_explain.specs.declared.explain.walk.Walk.{Walk}
use Rattle.zone_explain.proofs.Walks.{refused_leads, refused_same}
use Rattle.zone_explain.proofs.explain.walk.Walk.refuse.Goals.{in-Unseen+in-Under-1, in-Unseen+in-Unseen-1, in_default}
use Rattle.zone_explain.proofs.explain.walk.Walk.refuse.Goals as goal

pub returns-clause-leads : goal.returns-clause-leads
returns-clause-leads c = λ old error why same refused gives real marks.
    let now = c.args.self.now in
    let finding = c.in_ok-finding.finding in
    let kept : c.match-self.self.zonefile ≡ c.pass_over.new.self = elim c.match-self.branch [
      | in-Unseen+in-Under-1 w ↦ ap (λ (s : Walk). s.zonefile) w.self-is
      | in-Unseen+in-Unseen-1 w ↦ ap (λ (s : Walk). s.zonefile) w.self-is
      | in_default w ↦ ap (λ (s : Walk). s.zonefile) w.self-is
    ] in
    let shows : front_of c.match-self.self.front ≡ front_refused (front_of now.front) = elim c.match-self.branch [
      | in-Unseen+in-Under-1 w ↦ ap (λ (s : Walk). front_of s.front) w.self-is ∙ ap (λ (f : Front). front_refused (front_of f)) (sym w.in-Unseen.is)
      | in-Unseen+in-Unseen-1 w ↦ ap (λ (s : Walk). front_of s.front) w.self-is ∙ ap (λ (f : Front). front_refused (front_of f)) (sym w.in-Unseen.is)
      | in_default w ↦ ap (λ (s : Walk). front_of s.front) w.self-is ∙ refused_same now.front w.in_default.not-Unseen
    ] in
    let passes = subst (λ (z : Zonefile). PassesOver (reader_of now.zonefile) (reader_of z)) (sym kept) (c.in_ok-pass_over.ensures.over error refused) in
    let marked = subst (λ (m : LineMark). MarksLine c.args.text.now m) (sym c.in_ok-row.ensures.line) marks in
    refused_leads c.entry_number.result gives real passes (c.entry_number.ensures ∙ number_refused now.zonefile error refused)
    (c.in_ok-finding.ensures.fault, c.in_ok-finding.ensures.line marked ∙ ap (λ t. line_at t finding.located.start) (sym same)) shows
