use Rattle.std.proofs.Common.{◌≡◌, ◌∷◌, [], true, false, sym, ◌∙◌, arith, append_assoc}
use Rattle.dns_header.specs.Head.{fixed_octets}
use Rattle.dns_entry_scanner.specs.RowScanner.{origin_of}
use Rattle.dns_entry_scanner.proofs.HandedOn.{handed_on}
use Rattle.dns_scan_data.proofs.Appending.{gone_by, gone_on, gone_same}
use Rattle.dns_wire.proofs.Flat.{always_on_err}
use Rattle.dns_zonefile.proofs.ComposedRows.{composes_record, room_gone, room_size, stands_longer, unclassed, unowned}
use Rattle.dns_zonefile.proofs.OneEntry.{under_once}
use Rattle.dns_zonefile.proofs.Records.{not_headed, not_texted}
use Rattle.dns_zonefile.proofs.entry_form.octets.append_record.Goals as goal

pub returns-in_err-append_owner_and_room-clause-err : goal.returns-in_err-append_owner_and_room-clause-err
returns-in_err-append_owner_and_room-clause-err c =
    handed_on c.from_residual.result c.in_err-append_owner_and_room.field-0.0 _ c.from_residual.ensures.1
    (λ real statement entry after says enters. unowned c.requires says enters (c.in_err-append_owner_and_room.ensures.err real))

pub returns-in_err-append_owner_and_room-clause-more : goal.returns-in_err-append_owner_and_room-clause-more
returns-in_err-append_owner_and_room-clause-more c = always_on_err c.from_residual.result c.in_err-append_owner_and_room.ensures.more

pub overflow_sub-owner_len : goal.overflow_sub-owner_len
overflow_sub-owner_len c = omega (arith, stands_longer c.in_ok-append_owner_and_room.ensures.ok.1, room_size c.in_ok-append_owner_and_room.ensures.ok.2)

pub returns-in-Err-clause-err : goal.returns-in-Err-clause-err
returns-in-Err-clause-err c = λ real statement entry after says enters.
    not_headed c.requires c.in_ok-append_owner_and_room.ensures.ok.1.has (c.in-Err.ensures.err real) says

pub returns-in-Err-clause-more : goal.returns-in-Err-clause-more
returns-in-Err-clause-more c = room_gone c.in_ok-append_owner_and_room.ensures.ok.1 c.in_ok-append_owner_and_room.ensures.ok.2

pub returns-in-Err-head_of-clause-err : goal.returns-in-Err-head_of-clause-err
returns-in-Err-head_of-clause-err c = λ real statement entry after says enters.
    unclassed c.requires says enters c.in_ok-append_owner_and_room.ensures.ok.1.has c.in-Ok.ensures.ok c.in-Err-head_of.ensures.err.1

pub returns-in-Err-head_of-clause-more : goal.returns-in-Err-head_of-clause-more
returns-in-Err-head_of-clause-more c = room_gone c.in_ok-append_owner_and_room.ensures.ok.1 c.in_ok-append_owner_and_room.ensures.ok.2

pub put_fixed-requires : goal.put_fixed-requires
put_fixed-requires c = omega (arith, room_size c.in_ok-append_owner_and_room.ensures.ok.2)

pub append_data-requires : goal.append_data-requires
append_data-requires c = (
  _,
  c.put_fixed.ensures c.in_ok-append_owner_and_room.ensures.ok.0 c.in_ok-append_owner_and_room.ensures.ok.2
      ∙ sym (append_assoc c.in_ok-append_owner_and_room.ensures.ok.0
      (fixed_octets c.in-Ok.head.rtype c.in-Ok-head_of.known.class c.in-Ok-head_of.known.ttl) (0 ∷ 0 ∷ [])),
)

pub returns-in_err-unknown-clause-err : goal.returns-in_err-unknown-clause-err
returns-in_err-unknown-clause-err c =
    handed_on c.from_residual-in_err-unknown.result c.in_err-unknown.field-0.0 _ c.from_residual-in_err-unknown.ensures.1
    (λ real statement entry after says enters.
    not_texted c.requires c.in_ok-append_owner_and_room.ensures.ok.1.has c.in_ok-append_owner_and_room.ensures.names c.in-Ok.ensures.ok c.in-Ok.ensures.names
    (under_once (origin_of c.args.scanner.now)) (c.in_err-unknown.ensures.err real) says)

pub returns-in_err-unknown-clause-more : goal.returns-in_err-unknown-clause-more
returns-in_err-unknown-clause-more c =
    always_on_err c.from_residual-in_err-unknown.result
    (gone_on (gone_on (gone_by _ c.in_ok-append_owner_and_room.ensures.ok.1.behind)
    (gone_by _ (c.put_fixed.ensures c.in_ok-append_owner_and_room.ensures.ok.0 c.in_ok-append_owner_and_room.ensures.ok.2))) c.in_err-unknown.ensures.more)

pub returns-clause-ok : goal.returns-clause-ok
returns-clause-ok c =
    composes_record c.requires c.in_ok-append_owner_and_room.ensures.ok.1 c.in_ok-append_owner_and_room.ensures.names c.in-Ok.ensures.ok c.in-Ok.ensures.names
    (omega (arith, room_size c.in_ok-append_owner_and_room.ensures.ok.2)) c.in-Ok-head_of.ensures.class c.in-Ok-head_of.ensures.ttl
    c.in-Ok-head_of.ensures.last_ttl c.in-Ok.ensures.fits c.in-Ok-head_of.ensures.fits.0 c.in-Ok-head_of.ensures.fits.1
    (c.put_fixed.ensures c.in_ok-append_owner_and_room.ensures.ok.0 c.in_ok-append_owner_and_room.ensures.ok.2) c.in_ok-unknown.ensures.ok
