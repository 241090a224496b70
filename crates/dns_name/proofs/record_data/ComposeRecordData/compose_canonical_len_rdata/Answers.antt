use Rattle.std.proofs.Common.{ℕ, length, ap}
use Rattle.dns_name.proofs.Soundness.{merely-within}
use Rattle.dns_name.proofs.Growth.{known_back}
use Rattle.dns_name.proofs.record_data.ComposeRecordData.compose_canonical_len_rdata.Goals as goal

pub returns-in-Err-clause-known : goal.returns-in-Err-clause-known
returns-in-Err-clause-known g c =
    known_back (length c.octets-before.result.now) _ (merely-within (g.met.Target.Composer.sound c.args.target.now)) c.append_canonical_counted.ensures.grows
    (ap (length {A = ℕ}) c.octets-before.ensures) c.truncate.ensures.known
