use Rattle.dns_fields.specs.Comments.{texts}
use Rattle.dns_fields.proofs.Shows.{none_shown}
use Rattle.dns_fields.proofs.show.UnitShowRow.show_fields.Goals as goal

pub returns : goal.returns
returns g c = none_shown g.F.Formatter.writes c.args.formatter.now (texts c.args.comments.now)
