use Rattle.std.proofs.Common.{ℕ, length, ap}
use Rattle.dns_octets.proofs.Grows.{GrowsTo-same}
use Rattle.dns_name.specs.RecordData.{page_of}
use Rattle.dns_name.proofs.Soundness.{merely-within}
use Rattle.dns_name.proofs.Growth.{octets_back, known_back}
use Rattle.dns_builder.proofs.opt.OptBuilder.append_opt.Goals as goal

pub returns-in-Err-clause-err : goal.returns-in-Err-clause-err
returns-in-Err-clause-err g c =
    let here = ap (length {A = ℕ}) c.octets-len.ensures in
    λ i. page_of (octets_back (length c.octets-len.result.now) _ c.build_opt.ensures.grows here c.truncate.ensures.octets i)
    (known_back (length c.octets-len.result.now) _ (merely-within (g.met.Target.Composer.sound c.args.self.now.target))
    c.build_opt.ensures.grows here c.truncate.ensures.known i)

pub returns-in-Err-clause-grows : goal.returns-in-Err-clause-grows
returns-in-Err-clause-grows g c =
    let here = ap (length {A = ℕ}) c.octets-len.ensures in
    GrowsTo-same _ _ _ _ (octets_back (length c.octets-len.result.now) _ c.build_opt.ensures.grows here c.truncate.ensures.octets)
    (known_back (length c.octets-len.result.now) _ (merely-within (g.met.Target.Composer.sound c.args.self.now.target))
    c.build_opt.ensures.grows here c.truncate.ensures.known)

pub returns-in-Err-clause-stays : goal.returns-in-Err-clause-stays
returns-in-Err-clause-stays g c = g.met.Target.OctetsBuilder.stays_on _ _ _ c.build_opt.ensures.stays c.truncate.ensures.stays
