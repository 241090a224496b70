use Rattle.std.proofs.Common.{◌≡◌, rules}
use Rattle.dns_name.proofs.WrittenParts.{page_on, write-octets}
use Rattle.dns_rdata_more.proofs.further_data.record.FurtherDataComposeRecordData.compose_rdata.Goals as goal

pub returns-clause-ok : goal.returns-clause-ok
returns-clause-ok g c =
    let same : c.octets.result.now ≡ c.args.self.now = search rules in
    rw (write-octets, c.append_slice.ensures.known, ← same) (page_on c.append_slice.result _ _ _ c.append_slice.ensures.ok)

pub returns-clause-short : goal.returns-clause-short
returns-clause-short g c =
    let same : c.octets.result.now ≡ c.args.self.now = search rules in
    rw (write-octets, ← same) c.append_slice.ensures.short
