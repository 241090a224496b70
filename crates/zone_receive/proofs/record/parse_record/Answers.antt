use Rattle.std.proofs.lemmas.Result.{IfOk-weaker, on_err_weaker}
use Rattle.dns_octets.specs.Parser.{octets_of, place_of}
use Rattle.dns_name.specs.ParsedName.{labels_of}
use Rattle.dns_header.specs.Record.{with_labels}
use Rattle.dns_wire.proofs.Flat.{always_on_err}
use Rattle.zone_receive.proofs.ParsedRecords.{none_whole, none_parsed, parsed_read}
use Rattle.zone_receive.proofs.record.parse_record.Goals as goal

pub returns-in_err-found-clause-err : goal.returns-in_err-found-clause-err
returns-in_err-found-clause-err c =
    always_on_err _ (none_whole (octets_of c.args.parser.now) (place_of c.args.parser.now) c.in_err-found.ensures.err)

pub returns-clause-ok : goal.returns-clause-ok
returns-clause-ok c =
    IfOk-weaker c.into_any_record.result _ _ (λ rr is. parsed_read (octets_of c.args.parser.now) (place_of c.args.parser.now)
    (place_of c.parse.new.parser) c.in_ok-found.found (with_labels labels_of rr) c.requires c.in_ok-found.ensures.ok is)
    c.into_any_record.ensures.ok

pub returns-clause-err : goal.returns-clause-err
returns-clause-err c =
    on_err_weaker c.into_any_record.result (none_parsed (octets_of c.args.parser.now) (place_of c.args.parser.now)
    (place_of c.parse.new.parser) c.in_ok-found.found c.in_ok-found.ensures.ok) c.into_any_record.ensures.err
