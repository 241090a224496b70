use Rattle.std.proofs.Common.{sym, ◌∙◌, arith}
use Rattle.dns_wire.proofs.Drafts.{draft-some}
use Rattle.dns_wire.proofs.Wire.{wire_is}
use Rattle.dns_entry_scanner.proofs.ChainedNames.{held_name}
use Rattle.dns_entry_scanner.proofs.text_name.finished_octets.Goals as goal

pub returns : goal.returns
returns c =
    let s = c.args.draft.now in
    let done = c.requires.labels.0 in
    let holds = c.requires.labels.1 in
    let all = s.whole in
    let few = s.few in (
      done,
      holds,
      held_name s done holds,
      draft-some s.octets s.len done (omega arith) c.in-Ok.ensures.some holds.written,
      c.in-Ok.ensures.ok ∙ holds.written ∙ sym (wire_is done),
    )
