use Rattle.std.proofs.Common.{ℕ, length, ap}
use Rattle.dns_name.proofs.Soundness.{merely-within}
use Rattle.dns_name.proofs.Growth.{known_back}
use Rattle.dns_fields.proofs.compose.compose_canonical_row.Goals as goal

pub returns-in-Err-clause-known : goal.returns-in-Err-clause-known
returns-in-Err-clause-known g c =
    known_back (length c.octets-len.result.now) _ (merely-within (g.met.Target.Composer.sound c.args.target.now)) c.compose_canonical_fields.ensures.grows
    (ap (length {A = ℕ}) c.octets-len.ensures) c.truncate.ensures.known

pub returns-in-Err-clause-stays : goal.returns-in-Err-clause-stays
returns-in-Err-clause-stays g c =
    g.met.Target.OctetsBuilder.stays_on _ _ _ c.compose_canonical_fields.ensures.stays c.truncate.ensures.stays
