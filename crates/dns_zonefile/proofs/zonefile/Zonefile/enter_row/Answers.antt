use Rattle.std.proofs.Common.{◌≡◌, ◌<◌, [], ◌∷◌, length, refl, sym, subst, rules}
use Rattle.dns_entry_scanner.proofs.HandedOn.{handed_on}
use Rattle.dns_entry_scanner.specs.RowFound.{IsRowAt}
use Rattle.dns_zonefile.specs.Entry.{IsEntry}
use Rattle.dns_zonefile.specs.RowRead.{IsGiven}
use Rattle.dns_zonefile.specs.Seen.{context_of}
use Rattle.dns_zonefile.proofs.Going.{goes-bare, goes-entry, refused-row, same-row}
use Rattle.dns_zonefile.proofs.zonefile.Zonefile.enter_row.Goals as goal

pub returns-then-is_empty-clause-ok : goal.returns-then-is_empty-clause-ok
returns-then-is_empty-clause-ok g c =
    let now = c.args.self.now in
    let none : length now.spans.items ≡ 0 = search rules in
    ([], tt, goes-bare now.text.items now.place c.args.next now.spans.items c.args.blank_led c.requires (context_of now.context) now.count none, c.requires.behind, refl)

pub take_row-requires : goal.take_row-requires
take_row-requires g c =
    let now = c.args.self.now in (
      c.args.next,
      subst (λ text. IsRowAt text now.place c.as_slice-spans.result.now c.args.next c.args.blank_led) (sym c.as_slice-text.ensures.value)
          (subst (λ spans. IsRowAt now.text.items now.place spans c.args.next c.args.blank_led) (sym c.as_slice-spans.ensures.value) c.requires),
    )

pub returns-in_err-given-clause-err : goal.returns-in_err-given-clause-err
returns-in_err-given-clause-err g c =
    let now = c.args.self.now in
    let some : 0 < length now.spans.items = search rules in
    handed_on c.from_residual.result c.in_err-given.field-0.0 _ c.from_residual.ensures.1 (λ real.
    refused-row now.text.items now.place c.args.next now.spans.items c.args.blank_led c.requires (context_of now.context) now.count some
    (λ entry after is. c.in_err-given.ensures.err real entry after
    (subst (λ row. IsEntry (context_of now.context) row entry after)
    (same-row (sym c.as_slice-text.ensures.value) (sym c.as_slice-spans.ensures.value)) is)))

pub returns-in-Some-clause-ok : goal.returns-in-Some-clause-ok
returns-in-Some-clause-ok g c =
    let now = c.args.self.now in
    let ok = c.in_ok-given.ensures.ok in
    let gives = g.F.EntryForm.gives in
    let octets = g.F.EntryForm.octets in
    let given = subst (λ given. IsGiven gives (octets c.args.form.now) ok.0 given (octets c.take_row.new.self)) c.in-Some.is ok.2 in (
      ok.0,
      given.0,
      goes-entry now.text.items now.place c.args.next now.spans.items c.args.blank_led c.requires (context_of now.context)
          (context_of c.take_row.new.context) now.count ok.0
          (subst (λ row. IsEntry (context_of now.context) row ok.0 (context_of c.take_row.new.context))
          (same-row c.as_slice-text.ensures.value c.as_slice-spans.ensures.value) ok.1),
      given.1,
    )

pub returns-in-None-clause-ok : goal.returns-in-None-clause-ok
returns-in-None-clause-ok g c =
    let now = c.args.self.now in
    let ok = c.in_ok-given.ensures.ok in
    let gives = g.F.EntryForm.gives in
    let octets = g.F.EntryForm.octets in
    let given = subst (λ given. IsGiven gives (octets c.args.form.now) ok.0 given (octets c.take_row.new.self)) c.in-None.is ok.2 in (
      ok.0 ∷ [],
      (given.0, tt),
      goes-entry now.text.items now.place c.args.next now.spans.items c.args.blank_led c.requires (context_of now.context)
          (context_of c.take_row.new.context) now.count ok.0
          (subst (λ row. IsEntry (context_of now.context) row ok.0 (context_of c.take_row.new.context))
          (same-row c.as_slice-text.ensures.value c.as_slice-spans.ensures.value) ok.1),
      c.requires.behind,
      given.1,
    )
