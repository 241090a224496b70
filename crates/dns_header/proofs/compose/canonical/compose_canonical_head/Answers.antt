use Rattle.std.proofs.Common.{ℕ, length, ap}
use Rattle.dns_name.proofs.Soundness.{merely-within}
use Rattle.dns_name.proofs.Growth.{known_back}
use Rattle.dns_header.proofs.compose.canonical.compose_canonical_head.Goals as goal

pub returns-in-Err-clause-known : goal.returns-in-Err-clause-known
returns-in-Err-clause-known g c =
    known_back (length c.octets-len.result.now) _ (merely-within (g.met.Target.Composer.sound c.args.target.now)) c.append_canonical_head.ensures.grows
    (ap (length {A = ℕ}) c.octets-len.ensures) c.truncate.ensures.known
