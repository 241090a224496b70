use Rattle.std.proofs.Common.{List, sym, ap, ◌∙◌, subst}
use Rattle.zone_receive.specs.Asked.{asked_of}
use Rattle.zone_receive.specs.Receiving.{Heard}
use Rattle.zone.specs.View.{Contents}
use Rattle.zone_records.specs.Record.{Record}
use Rattle.zone_records.specs.Records.{AreRecordsOf}
use Rattle.zone_receive.proofs.ReceivedZones.{transferred_is_zone}
use Rattle.zone_receive.proofs.Receivers.{done_stage, has_transfer, no_zone}
use Rattle.zone_receive.proofs.receiver.Receiver.into_zone.Goals as goal

pub zone_of-requires : goal.zone_of-requires
zone_of-requires c =
    let ended = rw c.in-Done.is at c.self.invariant.is_at in
    let P : List Record → Type 0 = λ records. AreRecordsOf c.self.inside.query.class records in
    let zone = transferred_is_zone (asked_of c.self.inside.query) _ ended.transfer.transferred in
    record {
      are = subst P (sym c.into_records.ensures) (record { each = ended.known; zone = zone });
      known = c.self.invariant.class_known;
    }

pub returns-in-Done-clause-ok : goal.returns-in-Done-clause-ok
returns-in-Done-clause-ok c =
    let ended = done_stage _ c.self.inside.progress c.self.inside.buffer (asked_of c.self.inside.query) c.self.view_is c.in-Done.is in
    let records = ap (λ (zone : Contents). zone.records) c.zone_of.ensures ∙ c.into_records.ensures ∙ ap (λ (heard : Heard). heard.records) c.self.view_is in
    λ stream after. has_transfer c.args.self _ stream ended records after

pub returns-in-Begun-clause-err : goal.returns-in-Begun-clause-err
returns-in-Begun-clause-err c =
    no_zone _ c.self.inside.progress c.self.inside.buffer (asked_of c.self.inside.query) c.self.view_is c.in-Begun.is
