use Rattle.std.proofs.Common.{rules}
use Rattle.dns_fields.specs.Shown.{data_pieces}
use Rattle.dns_fields.proofs.show.show_row.Goals as goal

pub returns : goal.returns
returns g c =
    c.block.ensures (data_pieces c.args.rtype (g.R.HasFields.fields c.args.row.now)) (λ before behind result met. search rules)
