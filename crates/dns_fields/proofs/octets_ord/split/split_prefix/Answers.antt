use Rattle.std.proofs.Common.{◌∙◌, sym}
use Rattle.std.specs.Prelude.{Some, None}
use Rattle.std.proofs.lemmas.Bool.Decides.{Decides-eqb}
use Rattle.std.proofs.lemmas.Slice.Eq.{strip_prefix_is}
use Rattle.dns_fields.proofs.Prefixes.{differs}
use Rattle.dns_fields.proofs.octets_ord.split.split_prefix.Goals as goal

pub returns-in-Some-clause-ok : goal.returns-in-Some-clause-ok
returns-in-Some-clause-ok c =
    strip_prefix_is Decides-eqb c.args.octets.now c.args.prefix.now (Some c.in-Some.behind) c.in-Some.ensures.cases

pub returns-in-None-clause-err : goal.returns-in-None-clause-err
returns-in-None-clause-err c = record {
  decides = λ behind.
      differs c.args.prefix.now c.args.octets.now
      (strip_prefix_is Decides-eqb c.args.octets.now c.args.prefix.now None c.in-None.ensures.cases) behind
      ∙ sym c.cmp.ensures;
}
