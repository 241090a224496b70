use Rattle.std.proofs.Common.{length, rules}
use Rattle.dns_name.proofs.WrittenParts.{octets_composed, octets_told}
use Rattle.dns_header.specs.Opt.{options_octets}
use Rattle.dns_header.proofs.opt.OptComposeRecordData.rdlen.Goals as goal

pub returns-clause-some : goal.returns-clause-some
returns-clause-some g c =
    octets_composed c.args._compress (options_octets c.args.self.now) (length c.as_slice.result.now) (search rules)

pub returns-clause-none : goal.returns-clause-none
returns-clause-none g c =
    octets_told c.args._compress (options_octets c.args.self.now) (length c.as_slice.result.now) (search rules)
