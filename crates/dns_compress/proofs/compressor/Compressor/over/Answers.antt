use Rattle.dns_compress.proofs.Sound.{sound_empty}
use Rattle.dns_compress.proofs.compressor.Compressor.over.Goals as goal

pub invariant_of-result : goal.invariant_of-result
invariant_of-result g c = record {
  plain = c.requires.plain;
  sound = sound_empty _ _ (g.Target.Octets.list c.args.target) c.requires.empty;
}
