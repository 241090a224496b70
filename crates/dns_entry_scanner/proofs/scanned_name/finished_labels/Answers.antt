use Rattle.std.proofs.Common.{sym, ◌∙◌}
use Rattle.dns_entry_scanner.proofs.ChainedNames.{front_held, front_octets, held_name}
use Rattle.dns_entry_scanner.proofs.scanned_name.finished_labels.Goals as goal

pub unreachable-requires : goal.unreachable-requires
unreachable-requires c =
    let s = c.args.draft.now in
    c.in-Err.ensures.err c.requires.0 (held_name s c.requires.0 c.requires.1)
    (c.in_ok-from_slice.ensures.items ∙ c.labels.ensures ∙ front_octets s c.requires.0 c.requires.1)

pub returns : goal.returns
returns c =
    front_held c.args.draft.now c.requires.0 c.in-Ok.labels c.requires.1
    (sym c.labels.ensures ∙ sym c.in_ok-from_slice.ensures.items ∙ c.in-Ok.ensures.ok.1)
