use Rattle.std.proofs.Common.{◌≡◌, ◌++◌, ◌∙◌, ℕ, List, Option, Some, None, Result, Ok, Err, refl, sym, ap, subst}
use Rattle.std.specs.Prelude.{IfSome}
use Rattle.dns_label.specs.Name.{IsName}
use Rattle.dns_message.specs.Held.{record_of}
use Rattle.dns_message.specs.Record.{record_octets}
use Rattle.dns_entry_scanner.specs.declared.entry_error.EntryError.{EntryError}
use Rattle.dns_zonefile.specs.Composed.{with_reason}
use Rattle.dns_zonefile.specs.Entry.{Context, Entry}
use Rattle.dns_entry_scanner.specs.LineMark.{MarksLine}
use Rattle.dns_zonefile.specs.Reader.{Gives}
use Rattle.dns_entry_scanner.specs.Lines.{line_at}
use Rattle.dns_zonefile.specs.ReaderSeen.{reader_of}
use Rattle.dns_entry_scanner.specs.declared.line_mark.LineMark.{LineMark}
use Rattle.dns_zonefile.specs.declared.zonefile.Zonefile.{Zonefile}
use Rattle.zone.proofs.ReaderSteps.{number_given}
use Rattle.zone.proofs.ReadRecords.{data_given, record_handed, record_is, shorter_read}
use Rattle.zone.specs.declared.zone_error.ZoneError.TheVariants as zone_error
use Rattle.zone_explain.specs.AllFaults.{AreFaults}
use Rattle.zone_explain.specs.Walk.{GoesOn, IsOver, Leads, front_of}
use Rattle.zone_explain.proofs.Walks.{gives_file, gives_none, gives_refused, goes_on, if_both, include_leads, named_kept, text_kept, with_both}
use Rattle.zone_explain.proofs.explain.walk.Walk.step.Goals as goal

pub returns-in-Ok-None-clause-over : goal.returns-in-Ok-None-clause-over
returns-in-Ok-None-clause-over c =
    let hands = c.next_octets.ensures.gives c.requires.unrefused in record {
      text_is = text_kept hands.1 ∙ c.requires.text_is;
      unrefused = rw c.in-Ok-None.is at c.next_octets.ensures.ok;
      named = named_kept c.requires.named hands.1;
      marks = c.at-self.ensures.marks c.requires.marks;
    }

pub returns-in-Ok-None-clause-leads : goal.returns-in-Ok-None-clause-leads
returns-in-Ok-None-clause-leads c =
    AreFaults.ended (gives_none (ap with_reason (c.in-Ok-None.is ∙ ap Ok c.in-Ok-None.field-0-is)) (c.next_octets.ensures.gives c.requires.unrefused))

pub judge-requires : goal.judge-requires
judge-requires c =
    let met = c.in-Ok-Some-Record in
    let hands = c.next_octets.ensures.gives c.requires.unrefused in
    let handed = record_handed (ap with_reason (met.is ∙ ap Ok (met.field-0-is ∙ ap Some met.field-0-0-is))) hands.2 in (
      record_of handed.rr,
      record_is handed.rr handed.held,
      handed.octets ∙ ap (λ (l : List ℕ). l ++ record_octets (record_of handed.rr)) c.clear.ensures.items,
      (λ bare. data_given c.requires.named hands.1 handed bare),
    )

pub returns-in-Ok-Some-Record-clause-over : goal.returns-in-Ok-Some-Record-clause-over
returns-in-Ok-Some-Record-clause-over c =
    let met = c.in-Ok-Some-Record in
    let hands = c.next_octets.ensures.gives c.requires.unrefused in
    with_both c.judge.result c.judge.ensures.reader c.judge.ensures.line (λ reader line. rw (reader, line) (record {
      text_is = text_kept hands.1 ∙ c.requires.text_is;
      unrefused = rw met.is at c.next_octets.ensures.ok;
      named = named_kept c.requires.named hands.1;
      marks = c.at-self.ensures.marks c.requires.marks;
    }))

pub returns-in-Ok-Some-Record-clause-leads : goal.returns-in-Ok-Some-Record-clause-leads
returns-in-Ok-Some-Record-clause-leads c =
    let met = c.in-Ok-Some-Record in
    let old = c.args.self.now.zonefile in
    let new = c.next_octets.new.self in
    let hands = c.next_octets.ensures.gives c.requires.unrefused in
    let handed = record_handed (ap with_reason (met.is ∙ ap Ok (met.field-0-is ∙ ap Some met.field-0-0-is))) hands.2 in
    let gives = subst (λ (g : Result (Option Entry) EntryError). Gives (reader_of old) g (reader_of new)) handed.is hands.1 in
    let octets = handed.octets ∙ ap (λ (l : List ℕ). l ++ record_octets (record_of handed.rr)) c.clear.ensures.items in
    let unrefused = rw met.is at c.next_octets.ensures.ok in
    if_both c.judge.result c.judge.ensures.leads c.judge.ensures.reader (λ step leads same.
    subst (λ (z : Zonefile). Leads (reader_of old) (front_of c.args.self.now.front) step (reader_of z) (front_of c.judge.new.self.front)) (sym same)
    (leads (reader_of old) handed.rr
    (record { text_is = c.requires.text_is; place_is = sym c.place.ensures; count_is = sym (c.entry_number.ensures ∙ number_given old c.requires.unrefused) })
    gives unrefused (c.at-self.ensures.marks c.requires.marks) (record_is handed.rr handed.held) octets).0)

pub returns-in-Ok-Some-Record-clause-shorter : goal.returns-in-Ok-Some-Record-clause-shorter
returns-in-Ok-Some-Record-clause-shorter c =
    let met = c.in-Ok-Some-Record in
    let old = c.args.self.now.zonefile in
    let new = c.next_octets.new.self in
    let hands = c.next_octets.ensures.gives c.requires.unrefused in
    let handed = record_handed (ap with_reason (met.is ∙ ap Ok (met.field-0-is ∙ ap Some met.field-0-0-is))) hands.2 in
    let gives = subst (λ (g : Result (Option Entry) EntryError). Gives (reader_of old) g (reader_of new)) handed.is hands.1 in
    let octets = handed.octets ∙ ap (λ (l : List ℕ). l ++ record_octets (record_of handed.rr)) c.clear.ensures.items in
    let unrefused = rw met.is at c.next_octets.ensures.ok in
    if_both c.judge.result c.judge.ensures.leads c.judge.ensures.reader (λ step leads same.
    subst (λ (z : Zonefile). GoesOn (reader_of old) step (reader_of z)) (sym same)
    (goes_on (reader_of old) (reader_of new) step (leads (reader_of old) handed.rr
    (record { text_is = c.requires.text_is; place_is = sym c.place.ensures; count_is = sym (c.entry_number.ensures ∙ number_given old c.requires.unrefused) })
    gives unrefused (c.at-self.ensures.marks c.requires.marks) (record_is handed.rr handed.held) octets).1 (shorter_read handed.is hands.1)))

pub returns-in-Ok-Some-Include-clause-over : goal.returns-in-Ok-Some-Include-clause-over
returns-in-Ok-Some-Include-clause-over c =
    let hands = c.next_octets.ensures.gives c.requires.unrefused in record {
      text_is = text_kept hands.1 ∙ c.requires.text_is;
      unrefused = rw c.in-Ok-Some-Include.is at c.next_octets.ensures.ok;
      named = named_kept c.requires.named hands.1;
      marks = c.at-self.ensures.marks c.requires.marks;
    }

pub returns-in-Ok-Some-Include-clause-leads : goal.returns-in-Ok-Some-Include-clause-leads
returns-in-Ok-Some-Include-clause-leads c =
    let met = c.in-Ok-Some-Include in
    let old = c.args.self.now.zonefile in
    let gives = gives_file (ap with_reason (met.is ∙ ap Ok (met.field-0-is ∙ ap Some met.field-0-0-is))) (c.next_octets.ensures.gives c.requires.unrefused) in
    let unrefused = rw met.is at c.next_octets.ensures.ok in
    let found = c.in_ok-finding-in-Ok-Some-Include in
    let finding = found.field-0 in
    include_leads gives (
      found.ensures.fault ∙ ap zone_error.Include (c.entry_number-in-Ok-Some-Include.ensures ∙ number_given c.next_octets.new.self unrefused),
      found.ensures.line (c.at-self.ensures.marks c.requires.marks) ∙ ap (λ t. line_at t finding.located.start) (sym c.requires.text_is),
    )
    (found.ensures.last (reader_of old) _
    (record { text_is = c.requires.text_is; place_is = sym c.place.ensures; count_is = sym (c.entry_number.ensures ∙ number_given old c.requires.unrefused) })
    gives unrefused refl)

pub returns-in-Ok-Some-Include-clause-shorter : goal.returns-in-Ok-Some-Include-clause-shorter
returns-in-Ok-Some-Include-clause-shorter c =
    let met = c.in-Ok-Some-Include in
    shorter_read refl
    (gives_file (ap with_reason (met.is ∙ ap Ok (met.field-0-is ∙ ap Some met.field-0-0-is))) (c.next_octets.ensures.gives c.requires.unrefused))

pub returns-clause-over : goal.returns-clause-over
returns-clause-over c =
    let hands = c.next_octets.ensures.gives c.requires.unrefused in
    let refuse = c.in_ok-refuse-in-Err-2.ensures in record {
      text_is = refuse.same.0 ∙ text_kept hands.1 ∙ c.requires.text_is;
      unrefused = refuse.unrefused;
      named = subst (λ (context : Context). IfSome context.origin IsName) (sym refuse.same.1) (named_kept c.requires.named hands.1);
      marks = subst (λ (mark : LineMark). MarksLine c.args.text.now mark) (sym refuse.line) (c.at-self.ensures.marks c.requires.marks);
    }

pub returns-clause-leads : goal.returns-clause-leads
returns-clause-leads c =
    let gives = gives_refused (ap with_reason c.in-Err.is) (c.next_octets.ensures.gives c.requires.unrefused) in
    (c.in_ok-refuse-in-Err-2.ensures.leads (reader_of c.args.self.now.zonefile) c.in-Err.error _ c.requires.text_is
    (rw c.in-Err.is at c.next_octets.ensures.err) gives (sym c.if-is_memory.ensures) (c.at-self.ensures.marks c.requires.marks)).0

pub returns-clause-shorter : goal.returns-clause-shorter
returns-clause-shorter c =
    let gives = gives_refused (ap with_reason c.in-Err.is) (c.next_octets.ensures.gives c.requires.unrefused) in
    (c.in_ok-refuse-in-Err-2.ensures.leads (reader_of c.args.self.now.zonefile) c.in-Err.error _ c.requires.text_is
    (rw c.in-Err.is at c.next_octets.ensures.err) gives (sym c.if-is_memory.ensures) (c.at-self.ensures.marks c.requires.marks)).1
