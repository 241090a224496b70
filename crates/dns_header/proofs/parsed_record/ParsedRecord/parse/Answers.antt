use Rattle.std.proofs.Common.{rules, ◌+◌, ◌<◌, length, refl}
use Rattle.dns_octets.specs.declared.error.ParseError.TheVariants.{ShortInput}
use Rattle.dns_octets.specs.Parser.{octets_of, place_of}
use Rattle.dns_header.specs.Head.WholeIsCut.{in_data}
use Rattle.dns_header.proofs.Heads.{on_err, no_whole, cut_data, cut_whole, told_of}
use Rattle.dns_header.proofs.parsed_record.ParsedRecord.parse.Goals as goal

pub returns-in_err-header-clause-err : goal.returns-in_err-header-clause-err
returns-in_err-header-clause-err c = on_err c.from_residual.result (no_whole c.in_err-header.ensures.err)

pub returns-in_err-data-clause-err : goal.returns-in_err-data-clause-err
returns-in_err-data-clause-err c =
    let short : length (octets_of c.args.parser.now) < place_of c.parse.new.parser + c.in_ok-header.header.data_len = search rules in
    on_err c.from_residual-in_err-data.result (cut_data c.in_ok-header.ensures.ok short)

pub returns-in_err-header-clause-short : goal.returns-in_err-header-clause-short
returns-in_err-header-clause-short c =
    told_of c.from_residual.result c.in_err-header.field-0.0 c.from_residual.ensures.1 (cut_whole c.in_err-header.ensures.err c.in_err-header.ensures.short)

pub returns-in_err-data-clause-short : goal.returns-in_err-data-clause-short
returns-in_err-data-clause-short c =
    let short : length (octets_of c.args.parser.now) < place_of c.parse.new.parser + c.in_ok-header.header.data_len = search rules in
    told_of c.from_residual-in_err-data.result ShortInput c.from_residual-in_err-data.ensures.1 (λ same. in_data _ _ c.in_ok-header.ensures.ok short, λ cut. refl)
