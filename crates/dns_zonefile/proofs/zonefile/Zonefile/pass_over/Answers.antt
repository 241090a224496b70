use Rattle.std.proofs.Common.{subst}
use Rattle.dns_entry_scanner.specs.RowFound.{IsFoundAt}
use Rattle.dns_zonefile.proofs.PassedOver.{over_row}
use Rattle.dns_zonefile.proofs.zonefile.Zonefile.pass_over.Goals as goal

pub returns-in-Row-clause-over : goal.returns-in-Row-clause-over
returns-in-Row-clause-over c =
    let self = c.args.self.now in
    let found = c.in_ok-next.field-0 in
    λ _ _. over_row self.text.items self.place _ _ _ _ c.in-Row.blank_led found c.in-Row.is
    (subst (λ text. IsFoundAt text self.place c.read_row.new.tokens.items found) c.as_slice.ensures.value c.in_ok-next.ensures)
