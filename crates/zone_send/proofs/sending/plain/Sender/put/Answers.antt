use Rattle.std.proofs.Common.{[], ◌∷◌, arith, ◌∙◌, ap, sym, refl, length}
use Rattle.std.specs.Int.{to_be_bytes, w16}
use Rattle.zone_send.specs.Sent.{size}
use Rattle.zone_send.proofs.PutRecords.{last_at, length-stands, opening_short, alone_octets, size_alone, size-push, placed_behind, placed_alone, placed_nowhere}
use Rattle.zone_send.proofs.sending.plain.Sender.put.Goals as goal

pub append-requires : goal.append-requires
append-requires c =
    let query = c.requires.holds.0 in
    let holds = c.requires.holds.2 in
    let r = c.requires.is_record.0 in
    let is = c.requires.is_record.1 in
    let last = last_at c.args.self.now query c.in-Some.start holds.groups holds.holds c.in-Some.ensures.0 in
    let long = length-stands c.args.self.now query c.in-Some.start last.front last.group _ _ last.stands in (
      query,
      last.front,
      last.group,
      to_be_bytes w16 (size query last.group),
      to_be_bytes w16 (length last.group),
      last.stands,
      omega (arith, long, c.in-Some.ensures.1),
      r ∷ [],
      is ∙ sym (alone_octets r),
      refl,
    )

pub returns-in-Some-clause-placed : goal.returns-in-Some-clause-placed
returns-in-Some-clause-placed c = λ query records r is holds.
    placed_behind c.args.self.now c.append.new.self query records r c.in-Some.start (length c.args.record.now)
    holds c.in-Some.ensures.0 c.in-Some.ensures.1 (ap length is) c.in_ok-append.ensures.max
    (λ front group mark count. c.in_ok-append.ensures.whole query front group mark count (r ∷ []) (is ∙ sym (alone_octets r)) refl)

pub overflow_add-len : goal.overflow_add-len
overflow_add-len c = omega (arith, opening_short c.args.self.now c.requires.holds.0 c.requires.holds.2.holds.is_for)

pub returns-then-len-self-clause-refused : goal.returns-then-len-self-clause-refused
returns-then-len-self-clause-refused c = λ query records r is holds.
    placed_nowhere c.args.self.now query records r (length c.args.record.now) holds c.in_default.ensures (ap length is) (omega arith)

pub append-requires-2 : goal.append-requires-2
append-requires-2 c =
    let query = c.requires.holds.0 in
    let holds = c.requires.holds.2 in
    let r = c.requires.is_record.0 in
    let is = c.requires.is_record.1 in (
      query,
      holds.groups,
      [],
      0 ∷ 0 ∷ [],
      0 ∷ 0 ∷ [],
      c.in_ok-start.ensures.stands query holds.groups holds.holds,
      omega (arith, size_alone c.args.self.now query r holds.holds.is_for, size-push query [] r, c.in_ok-start.ensures.max, ap length is),
      r ∷ [],
      is ∙ sym (alone_octets r),
      refl,
    )

pub returns-clause-placed : goal.returns-clause-placed
returns-clause-placed c = λ query records r is holds.
    placed_alone c.args.self.now c.append-2.new.self query records r c.in_ok-start.start (length c.args.record.now)
    holds c.in_default.ensures (ap length is) (omega arith)
    (c.in_ok-append-2.ensures.max ∙ c.in_ok-start.ensures.max)
    (c.in_ok-append-2.ensures.whole query holds.groups [] _ _ (r ∷ []) (is ∙ sym (alone_octets r)) refl
    (c.in_ok-start.ensures.stands query holds.groups holds.holds))
