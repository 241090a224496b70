use Rattle.std.proofs.Common.{◌∙◌, ◌++◌, ap, arith}
use Rattle.dns_wire.proofs.Drafts.{draft-name, draft-some, draft-wire}
use Rattle.dns_wire.proofs.text.draft.NameDraft.append_to.Goals as goal

pub returns-clause-ok : goal.returns-clause-ok
returns-clause-ok c =
    let s = c.args.self.now in
    let whole = s.whole in
    let few = s.few in
    let done = c.requires.0 in
    let holds = c.requires.1 in
    let wired = c.in_ok-finished.ensures.ok ∙ draft-wire s.octets s.len done holds.written in (
      done,
      draft-name s.octets s.len done (omega arith) few holds.written holds.labels,
      holds,
      draft-some s.octets s.len done (omega arith) c.in_ok-finished.ensures.some holds.written,
      c.in_ok-extend_from_slice.ensures.items ∙ ap (λ l. c.args.octets.now.items ++ l) wired,
    )
