use Rattle.std.proofs.Common.{rules}
use Rattle.dns_name_tests.proofs.OneSuffixLemmas.{kept_take, sound_take}
use Rattle.dns_name_tests.proofs.one_suffix.OneSuffixTruncate.truncate.Goals as goal

pub returns-clause-known : goal.returns-clause-known
returns-clause-known g c =
    rw c.still_within-self.ensures
    (kept_take g.C.Comparison.folds c.truncate.new.self.items c.args.len c.args.self.now.between (search rules) c.args.self.now.sound)

pub invariant_of-self : goal.invariant_of-self
invariant_of-self g c = record {
  sound = sound_take g.C.Comparison.folds c.truncate.new.self.items c.args.len c.args.self.now.between c.still_within-self.result (search rules)
      (rw c.still_within-self.ensures
      (kept_take g.C.Comparison.folds c.truncate.new.self.items c.args.len c.args.self.now.between (search rules) c.args.self.now.sound))
      c.args.self.now.sound;
}
