use Rattle.dns_name.proofs.Soundness.{merely-within}
use Rattle.dns_name.proofs.Growth.{GrowsTo-name}
use Rattle.dns_name_tests.proofs.OneSuffixLemmas.{sound_name}
use Rattle.dns_name_tests.proofs.one_suffix.OneSuffixComposer.append_compressed_name.Goals as goal

pub invariant_of-self-2 : goal.invariant_of-self-2
invariant_of-self-2 g c = record {
  sound = sound_name g.C.Comparison.folds c.append_name.new.octets.items c.in_ok-self.field-0 _ c.append_name.ensures.name
      c.in_ok-self.ensures.ok c.in_ok-self.ensures.known c.args.self.now.sound;
}

pub returns-clause-grows : goal.returns-clause-grows
returns-clause-grows g c =
    rw (c.in_ok-self.ensures.known, c.in_ok-self.ensures.ok) (GrowsTo-name _ _ _ _ c.append_name.ensures.name (merely-within c.args.self.now.sound))
