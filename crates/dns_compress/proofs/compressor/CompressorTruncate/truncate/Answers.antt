use Rattle.std.proofs.Common.{◌∙◌, ap, List, ℕ}
use Rattle.dns_octets.specs.Builder.{before}
use Rattle.dns_compress.proofs.Sound.{sound_of, sound_before}
use Rattle.dns_compress.proofs.compressor.CompressorTruncate.truncate.Goals as goal

pub invariant_of-self : goal.invariant_of-self
invariant_of-self g c =
    let kept = ap (λ (l : List ℕ). g.T.Table.known c.forget.new.self l) c.truncate.ensures.octets
    ∙ c.forget.ensures (g.Target.Octets.list c.args.self.now.target) c.args.self.now.sound in
    record {
      plain = c.truncate.ensures.known ∙ ap (before c.args.len) c.args.self.now.plain;
      sound = sound_of kept (sound_before c.args.len _ c.truncate.ensures.octets c.args.self.now.sound);
    }

pub returns-clause-known : goal.returns-clause-known
returns-clause-known g c =
    ap (λ (l : List ℕ). g.T.Table.known c.forget.new.self l) c.truncate.ensures.octets
    ∙ c.forget.ensures (g.Target.Octets.list c.args.self.now.target) c.args.self.now.sound
