use Rattle.std.proofs.Common.{refl}
use Rattle.dns_entry_scanner.proofs.Refused.{on_ok_weaker}
use Rattle.dns_zonefile.proofs.ComposedRows.{last_and_zeros, stated_and_room}
use Rattle.dns_zonefile.proofs.entry_form.octets.append_owner_and_room.Goals as goal

pub returns-then-blank_led-clause-ok : goal.returns-then-blank_led-clause-ok
returns-then-blank_led-clause-ok c =
    let last = c.in_ok-append_last_owner.ensures.ok in
    last_and_zeros _ c.if-blank_led.true last.1 last.2 last.3 refl c.in_ok-extend_from_slice.ensures.items

pub returns-clause-ok : goal.returns-clause-ok
returns-clause-ok c =
    on_ok_weaker c.scan_name_and_room.result _ _ (λ has. stated_and_room c.if-blank_led.false has) c.scan_name_and_room.ensures.ok
