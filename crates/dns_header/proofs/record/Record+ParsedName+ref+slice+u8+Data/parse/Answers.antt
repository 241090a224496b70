use Rattle.std.proofs.Common.{subst}
use Rattle.dns_octets.specs.Parser.{place_of}
use Rattle.dns_header.specs.Record.{DataIsRefused}
use Rattle.dns_header.proofs.Heads.{on_err, record_refused}
use Rattle.dns_header.proofs.record.Record+ParsedName+ref+slice+u8+Data.parse.Goals as goal

pub returns-in_err-header-clause-err : goal.returns-in_err-header-clause-err
returns-in_err-header-clause-err g c =
    on_err c.from_residual.result (λ head data_place next whole. absurd (c.in_err-header.ensures.err head data_place whole.reads))

pub returns-in_err-found-clause-err : goal.returns-in_err-found-clause-err
returns-in_err-found-clause-err g c =
    let head = c.in_ok-header.header in
    on_err c.from_residual-in_err-found.result
    (record_refused g.Data.ParseRecordData.takes g.Data.ParseRecordData.reads c.in_ok-header.ensures.ok
    (subst (λ octets. DataIsRefused g.Data.ParseRecordData.takes g.Data.ParseRecordData.reads octets (place_of c.parse.new.parser) head.rtype
    head.data_len) c.in_ok-header.ensures.same c.in_err-found.ensures.err))
