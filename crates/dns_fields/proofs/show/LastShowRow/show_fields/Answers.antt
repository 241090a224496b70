use Rattle.dns_fields.specs.Comments.{texts}
use Rattle.dns_fields.proofs.Shows.{last_shown}
use Rattle.dns_fields.proofs.show.LastShowRow.show_fields.Goals as goal

pub returns : goal.returns
returns g c =
    last_shown g.F.Formatter.writes c.args.formatter.now c.show_last.new.formatter c.show_comment.new.formatter
    (texts c.args.comments.now) (g.V.LastValue.field c.args.self.now.0) c.in_ok-show_last.ensures
    c.in_ok-show_comment.ensures.shown
