use Rattle.std.proofs.Common.{ap}
use Rattle.dns_name.specs.Unknown.{UnknownData}
use Rattle.dns_rdata_more.proofs.ShownRows.{document_shown}
use Rattle.dns_rdata_more.proofs.further_data.any.AnyFurtherDataZonefileFmt.fmt.Goals as goal

pub returns : goal.returns
returns g c =
    document_shown g.F.Formatter.writes c.args.self.now.number c.self.inside.rtype c.args.self.now.octets c.self.inside.octets.now
    c.args.formatter.now c.show_further.new.formatter c.show_further.result (ap (λ (d : UnknownData). d.number) c.self.view_is)
    (ap (λ (d : UnknownData). d.octets) c.self.view_is) c.show_further.ensures
