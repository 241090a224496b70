use Rattle.std.proofs.Common.{◌≡◌, ◌+◌, ◌-◌, ◌++◌, ◌∙◌, length, refl, ap, arith}
use Rattle.zone_send.proofs.Plain.{size_is}
use Rattle.zone_send.proofs.PutRecords.{few_records, appended}
use Rattle.zone_send.proofs.sending.plain.Sender.append.Goals as goal

pub overflow_add-self : goal.overflow_add-self
overflow_add-self c =
    let query = c.requires.0 in
    let group = c.requires.2 in
    let stands = c.requires.5 in
    let room = c.requires.6 in
    let more = c.requires.7 in
    omega (arith, few_records group, few_records more, size_is query group, stands.is_for.small, stands.answers, room, ap length c.requires.8, c.requires.9)

pub returns-clause-whole : goal.returns-clause-whole
returns-clause-whole c = λ query front group mark counted more is so_many stands.
    let is_for = stands.is_for in
    let len_is : c.len.result - c.args.start ≡ length c.extend_from_slice.new.self.items - c.args.start = omega arith in
    appended c.args.self.now _ query c.args.start front group mark counted more
    c.extend_from_slice.new.self.items c.put_number.new.octets.items (c.len.result - c.args.start) (c.args.self.now.answers + c.args.count)
    stands (record { small = is_for.small; name = is_for.name; opening = is_for.opening }) stands.last refl
    (ap (λ n. c.args.self.now.answers + n) so_many)
    (c.in_ok-extend_from_slice.ensures.items ∙ ap (λ l. c.args.self.now.stream.items ++ l) is) len_is c.put_number.ensures c.put_number-2.ensures
