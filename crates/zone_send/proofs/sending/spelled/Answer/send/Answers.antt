use Rattle.std.proofs.Common.{arith}
use Rattle.dns_builder.proofs.Begun.{handed-on}
use Rattle.dns_message.proofs.WrittenItems.{written_item}
use Rattle.zone_send.proofs.SpelledItems.{each_written, items_again, frame_refused}
use Rattle.zone_send.proofs.SpelledStreams.{sends_next, cut_of_all}
use Rattle.zone_send.proofs.sending.spelled.Answer.send.Goals as goal

pub returns-in_err-octets-clause-err : goal.returns-in_err-octets-clause-err
returns-in_err-octets-clause-err g c =
    let records = c.args.self.now.records.now in
    let items = items_again records c.requires in
    handed-on c.from_residual.result c.in_err-octets.field-0.0 _ c.from_residual.ensures.1
    (frame_refused records c.in_err-octets.field-0.0 c.requires (c.loop-next.invariant.sends written_item items)
    (c.in_err-octets.ensures.err written_item items))

pub loop-next-smaller : goal.loop-next-smaller
loop-next-smaller g c =
    let found = c.in_ok-octets.ensures.ok written_item (items_again c.args.self.now.records.now c.requires) in
    omega (arith, found.later, found.within)

pub loop-next-preserved : goal.loop-next-preserved
loop-next-preserved g c =
    let found = c.in_ok-octets.ensures.ok written_item (items_again c.args.self.now.records.now c.requires) in
    record {
      within = found.within;
      sends = λ item items. sends_next (c.loop-next.invariant.sends item items) (c.in_ok-octets.ensures.ok item items)
          (rw c.as_slice.ensures.value at c.in_ok-extend_from_slice.ensures.items);
    }

pub returns-clause-ok : goal.returns-clause-ok
returns-clause-ok g c =
    let records = c.args.self.now.records.now in
    let sends = c.loop-next.invariant.sends written_item (items_again records c.requires) in
    record {
      item = written_item;
      each = each_written records c.requires;
      groups = sends.groups;
      cut = cut_of_all sends (omega (arith, c.loop-next-test.false, c.len.ensures.count));
      framed = sends.framed;
    }
