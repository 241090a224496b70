use Rattle.std.proofs.Common.{[], ◌∷◌, ap, length, arith}
use Rattle.zone_send.proofs.PutRecords.{size-append, holds_last}
use Rattle.zone_send.proofs.sending.plain.Sender.add_message.Goals as goal

pub append-requires : goal.append-requires
append-requires c =
    let query = c.requires.0 in
    let groups = c.requires.1 in
    let group = c.requires.3 in (
      query,
      groups,
      [],
      0 ∷ 0 ∷ [],
      0 ∷ 0 ∷ [],
      c.in_ok-start.ensures.stands query groups c.requires.2,
      omega (arith, size-append query [] group, c.in_ok-start.ensures.max, ap length c.requires.4, c.requires.6),
      group,
      c.requires.4,
      c.requires.5,
    )

pub returns-clause-whole : goal.returns-clause-whole
returns-clause-whole c = λ query groups group is so_many holds.
    holds_last c.append.new.self query c.in_ok-start.start groups group
    (c.in_ok-append.ensures.whole query groups [] _ _ group is so_many (c.in_ok-start.ensures.stands query groups holds))
