use Rattle.std.proofs.Common.{◌∙◌}
use Rattle.dns_octets.proofs.Grows.{GrowsTo-append}
use Rattle.dns_compress.proofs.Sound.{sound_of, sound_append}
use Rattle.dns_compress.proofs.compressor.CompressorOctetsBuilder.append_slice.Goals as goal

pub invariant_of-self : goal.invariant_of-self
invariant_of-self g c =
    let still = sound_append _ c.append_slice.ensures.grows.tail c.append_slice.ensures.grows.octets c.args.self.now.sound in
    record {
      plain = c.append_slice.ensures.known ∙ c.args.self.now.plain;
      sound = sound_of (g.met.T.Table.steady c.args.self.now.table _ _ c.args.self.now.sound still) still;
    }

pub returns-clause-known : goal.returns-clause-known
returns-clause-known g c =
    g.met.T.Table.steady c.args.self.now.table _ _ c.args.self.now.sound
    (sound_append _ c.append_slice.ensures.grows.tail c.append_slice.ensures.grows.octets c.args.self.now.sound)

pub returns-clause-grows : goal.returns-clause-grows
returns-clause-grows g c =
    GrowsTo-append _ _ _ _ c.append_slice.ensures.grows.tail c.append_slice.ensures.grows.octets
    (g.met.T.Table.steady c.args.self.now.table _ _ c.args.self.now.sound
    (sound_append _ c.append_slice.ensures.grows.tail c.append_slice.ensures.grows.octets c.args.self.now.sound))
