use Rattle.dns_name.proofs.WrittenParts.{page_both, write-named}
use Rattle.dns_name_tests.proofs.record_data.server.ServerComposeRecordData.compose_rdata.Goals as goal

pub returns-clause-ok : goal.returns-clause-ok
returns-clause-ok g c =
    let made = c.append_compressed_name.ensures in
    rw write-named (page_both c.append_compressed_name.result _ _ _ _ made.ok made.known)

pub returns-clause-short : goal.returns-clause-short
returns-clause-short g c = rw write-named c.append_compressed_name.ensures.short
