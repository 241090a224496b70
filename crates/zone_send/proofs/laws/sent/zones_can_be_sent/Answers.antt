use Rattle.std.proofs.Common.{◌<◌, ◌^◌, arith}
use Rattle.dns_message.proofs.Numbers.{octet_at}
use Rattle.zone_send.proofs.SendFaults.{query_for, id_small}
use Rattle.zone_send.proofs.SentTransfers.{sendable_zone}
use Rattle.zone_send.proofs.laws.sent.zones_can_be_sent.Goals as goal

pub returns-clause-sendable : goal.returns-clause-sendable
returns-clause-sendable c = sendable_zone

pub returns-clause-asked : goal.returns-clause-asked
returns-clause-asked c = λ query class records octets octets_are is asks are.
    let small : query.id < 2 ^ 16 = omega (arith, is.id, id_small octets (octet_at octets octets_are)) in
    query_for query class records octets is small asks are
