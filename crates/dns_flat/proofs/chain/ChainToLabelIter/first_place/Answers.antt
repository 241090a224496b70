use Rattle.std.proofs.Common.{arith}
use Rattle.dns_flat.proofs.Chains.{length-labels_wire-append}
use Rattle.dns_flat.proofs.chain.ChainToLabelIter.first_place.Goals as goal

pub returns-else-self-eq0-clause-short : goal.returns-else-self-eq0-clause-short
returns-else-self-eq0-clause-short g c =
    let few = c.args.self.now.short in
    omega (arith, length-labels_wire-append (g.L.ToLabelIter.labels c.args.self.now.left) (g.R.ToLabelIter.labels c.args.self.now.right))
