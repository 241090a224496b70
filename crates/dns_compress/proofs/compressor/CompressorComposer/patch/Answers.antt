use Rattle.dns_compress.proofs.Sound.{sound_of, sound_patch}
use Rattle.dns_compress.proofs.compressor.CompressorComposer.patch.Goals as goal

pub invariant_of-self : goal.invariant_of-self
invariant_of-self g c =
    let still = sound_patch c.args.place c.args.octets.now _ c.requires.within c.requires.free c.patch_plain.ensures.octets c.args.self.now.sound in
    record {
      plain = c.patch_plain.ensures.known;
      sound = sound_of (g.met.T.Table.steady c.args.self.now.table _ _ c.args.self.now.sound still) still;
    }

pub returns-clause-known : goal.returns-clause-known
returns-clause-known g c =
    g.met.T.Table.steady c.args.self.now.table _ _ c.args.self.now.sound
    (sound_patch c.args.place c.args.octets.now _ c.requires.within c.requires.free c.patch_plain.ensures.octets c.args.self.now.sound)
