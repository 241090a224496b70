use Rattle.std.proofs.Common.{◌∙◌}
use Rattle.dns_rdata_more.proofs.ShownRows.{document_shown}
use Rattle.dns_rdata_more.proofs.further_data.show.FurtherDataZonefileFmt.fmt.Goals as goal

pub returns : goal.returns
returns g c =
    document_shown g.F.Formatter.writes g.T.DataType.number c.from_int.result c.args.self.now c.octets.result.now c.args.formatter.now c.show_further.new.formatter
    c.show_further.result (c.from_int.ensures ∙ c.number.ensures) (c.octets.ensures ∙ c.self.view_is) c.show_further.ensures
