use Rattle.std.proofs.Common.{sym, ◌∙◌}
use Rattle.dns_flat.proofs.RelativeTexts.{front_written, front_made}
use Rattle.dns_flat.proofs.text.finish.finish_relative.Goals as goal

pub copied_relative-requires : goal.copied_relative-requires
copied_relative-requires g c = rw c.labels.ensures (front_written c.args.draft c.requires.0 c.requires.1)

pub returns-clause-ok : goal.returns-clause-ok
returns-clause-ok g c =
    front_made c.args.draft c.requires.0 c.in_ok-copied_relative.field-0 c.requires.1
    (sym c.labels.ensures ∙ c.in_ok-copied_relative.ensures.ok)
