use Rattle.dns_name_tests.proofs.OneSuffixLemmas.{kept_patch, sound_patch}
use Rattle.dns_name_tests.proofs.one_suffix.OneSuffixComposer.patch.Goals as goal

pub invariant_of-self : goal.invariant_of-self
invariant_of-self g c = record {
  sound = sound_patch g.C.Comparison.folds c.patch.new.self.items c.args.place c.args.octets.now c.args.self.now.between c.patch.ensures.octets
      c.requires.within c.requires.free c.args.self.now.sound;
}

pub returns-clause-known : goal.returns-clause-known
returns-clause-known g c =
    kept_patch g.C.Comparison.folds c.patch.new.self.items c.args.place c.args.octets.now c.args.self.now.between c.patch.ensures.octets
    c.requires.within c.requires.free c.args.self.now.sound
