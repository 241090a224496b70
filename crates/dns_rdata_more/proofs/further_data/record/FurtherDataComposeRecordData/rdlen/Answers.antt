use Rattle.std.proofs.Common.{◌≤◌, ℕ, List, length, subst, rules}
use Rattle.dns_name.proofs.WrittenParts.{octets_composed, octets_told}
use Rattle.dns_rdata_more.proofs.Whole.{short_data}
use Rattle.dns_rdata_more.proofs.further_data.record.FurtherDataComposeRecordData.rdlen.Goals as goal

pub returns-clause-some : goal.returns-clause-some
returns-clause-some g c =
    octets_composed c.args._compress c.args.self.now (length c.octets.result.now) (search rules)

pub returns-clause-none : goal.returns-clause-none
returns-clause-none g c =
    octets_told c.args._compress c.args.self.now (length c.octets.result.now)
    (subst (λ (l : List ℕ). length l ≤ 65535) c.self.view_is (short_data c.self.invariant))
