use Rattle.std.proofs.Common.{refl}
use Rattle.zone_receive.specs.Asked.{asked_of}
use Rattle.zone_receive.proofs.DoneReceivers.{not_done}
use Rattle.zone_receive.proofs.Receivers.{done_stage, has_transfer, other_stage}
use Rattle.zone_receive.proofs.receiver.Receiver.is_done.Goals as goal

pub returns-in-Done-clause-stage : goal.returns-in-Done-clause-stage
returns-in-Done-clause-stage c =
    let ended = done_stage _ c.self.inside.progress c.self.inside.buffer (asked_of c.self.inside.query) c.self.view_is c.in-Done.is in
    (λ yes. ended, λ there. refl)

pub returns-in-Done-clause-whole : goal.returns-in-Done-clause-whole
returns-in-Done-clause-whole c =
    let ended = done_stage _ c.self.inside.progress c.self.inside.buffer (asked_of c.self.inside.query) c.self.view_is c.in-Done.is in
    λ stream after.
    let there = has_transfer c.args.self.now c.args.self.now.records stream ended refl after in
    (λ yes. (there.0, (c.args.self.now.records, there.1)), λ both. refl)

pub returns-in_default-clause-stage : goal.returns-in_default-clause-stage
returns-in_default-clause-stage c =
    let not_there = other_stage _ c.self.inside.progress c.self.inside.buffer (asked_of c.self.inside.query) c.self.view_is c.in_default.not-Done in
    (λ yes. absurd cc, λ ended. absurd (not_there ended))

pub returns-in_default-clause-whole : goal.returns-in_default-clause-whole
returns-in_default-clause-whole c =
    let not_there = other_stage _ c.self.inside.progress c.self.inside.buffer (asked_of c.self.inside.query) c.self.view_is c.in_default.not-Done in
    λ stream after. (λ yes. absurd cc, λ both. absurd (not_done c.args.self.now stream not_there after both.0 both.1))
