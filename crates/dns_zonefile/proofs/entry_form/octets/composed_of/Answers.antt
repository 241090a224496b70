use Rattle.std.proofs.Common.{Some, ap, ◌∙◌}
use Rattle.dns_zonefile.specs.Seen.{entry_of, record_of}
use Rattle.dns_zonefile.proofs.Forms.{include_handed, spelled}
use Rattle.dns_zonefile.proofs.entry_form.octets.composed_of.Goals as goal

pub unreachable-requires : goal.unreachable-requires
unreachable-requires c = c.requires (record_of spelled c.in-Some-Record.field-0-0) (ap (λ e. entry_of spelled e) (c.in-Some-Record.is ∙ ap Some c.in-Some-Record.field-0-is))

pub returns-in-Ok-clause-ok : goal.returns-in-Ok-clause-ok
returns-in-Ok-clause-ok c =
    include_handed c.args.entry c.in-Some-Include.path c.in-Some-Include.origin c.in-Ok.file
    (c.in-Some-Include.is ∙ ap Some c.in-Some-Include.field-0-is) c.in-Ok.ensures.ok
