use Rattle.std.proofs.Common.{ℕ, length, ap}
use Rattle.dns_name.proofs.Soundness.{merely-within}
use Rattle.dns_name.proofs.Growth.{octets_back, known_back}
use Rattle.dns_octets.proofs.Grows.{GrowsTo-same}
use Rattle.dns_header.proofs.question.compose.compose_parts.Goals as goal

pub returns-in-Err-clause-err : goal.returns-in-Err-clause-err
returns-in-Err-clause-err g c = (
  octets_back (length c.octets-len.result.now) _ c.append_parts.ensures.grows (ap (length {A = ℕ}) c.octets-len.ensures) c.truncate.ensures.octets,
  known_back (length c.octets-len.result.now) _ (merely-within (g.met.Target.Composer.sound c.args.target.now)) c.append_parts.ensures.grows
      (ap (length {A = ℕ}) c.octets-len.ensures) c.truncate.ensures.known,
)

pub returns-in-Err-clause-grows : goal.returns-in-Err-clause-grows
returns-in-Err-clause-grows g c =
    GrowsTo-same _ _ _ _ (octets_back (length c.octets-len.result.now) _ c.append_parts.ensures.grows (ap (length {A = ℕ}) c.octets-len.ensures) c.truncate.ensures.octets)
    (known_back (length c.octets-len.result.now) _ (merely-within (g.met.Target.Composer.sound c.args.target.now)) c.append_parts.ensures.grows
    (ap (length {A = ℕ}) c.octets-len.ensures) c.truncate.ensures.known)
