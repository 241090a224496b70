use Rattle.dns_fields.specs.Comments.{texts}
use Rattle.dns_fields.proofs.Shows.{row_shown}
use Rattle.dns_fields.proofs.show.Tuple2ShowRow.show_fields.Goals as goal

pub returns : goal.returns
returns g c =
    row_shown g.F.Formatter.writes c.args.formatter.now c.show_field.new.formatter c.show_comment.new.formatter
    c.show_fields.new.formatter (texts c.args.comments.now) _ (g.A.HasField.field c.args.self.now.0)
    (g.B.HasFields.fields c.args.self.now.1) c.show_fields.result c.in_ok-show_field.ensures c.in_ok-comments.ensures.shown
    c.in_ok-comments.ensures.others c.show_fields.ensures
