use Rattle.std.proofs.Common.{rules, ◌+◌, ◌<◌, length}
use Rattle.dns_octets.specs.Parser.{octets_of, place_of}
use Rattle.dns_header.specs.Head.HeadIsCut.{behind_owner}
use Rattle.dns_header.proofs.Heads.{no_head}
use Rattle.dns_header.proofs.record_header.RecordHeader+ParsedName+ref+slice+u8.parse.Goals as goal

pub returns-in-Err-clause-err : goal.returns-in-Err-clause-err
returns-in-Err-clause-err c =
    let short : length (octets_of c.args.parser.now) < place_of c.parse.new.parser + 10 = search rules in
    no_head c.in_ok-owner.ensures.ok short

pub returns-in-Err-clause-short : goal.returns-in-Err-clause-short
returns-in-Err-clause-short c =
    let short : length (octets_of c.args.parser.now) < place_of c.parse.new.parser + 10 = search rules in
    (λ same. behind_owner _ _ c.in_ok-owner.ensures.ok short, λ cut. cc)
