use Rattle.dns_octets.proofs.Grows.{GrowsTo-append}
use Rattle.dns_name_tests.proofs.OneSuffixLemmas.{kept_append, sound_append}
use Rattle.dns_name_tests.proofs.one_suffix.OneSuffixOctetsBuilder.append_slice.Goals as goal

pub invariant_of-self : goal.invariant_of-self
invariant_of-self g c = record {
  sound = sound_append g.C.Comparison.folds c.append_slice.new.self.items c.append_slice.ensures.grows.tail c.args.self.now.between
      c.append_slice.ensures.grows.octets c.args.self.now.sound;
}

pub returns-clause-known : goal.returns-clause-known
returns-clause-known g c =
    kept_append g.C.Comparison.folds _ c.append_slice.ensures.grows.tail c.args.self.now.between c.append_slice.ensures.grows.octets c.args.self.now.sound

pub returns-clause-grows : goal.returns-clause-grows
returns-clause-grows g c =
    GrowsTo-append _ _ _ _ c.append_slice.ensures.grows.tail c.append_slice.ensures.grows.octets
    (kept_append g.C.Comparison.folds _ c.append_slice.ensures.grows.tail c.args.self.now.between c.append_slice.ensures.grows.octets c.args.self.now.sound)
