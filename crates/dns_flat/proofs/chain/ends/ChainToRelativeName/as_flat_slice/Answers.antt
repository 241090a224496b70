use Rattle.dns_flat.proofs.Chains.{joined_relative}
use Rattle.dns_flat.proofs.chain.ends.ChainToRelativeName.as_flat_slice.Goals as goal

pub returns-else-self-eq0-clause-name : goal.returns-else-self-eq0-clause-name
returns-else-self-eq0-clause-name g c =
    joined_relative (g.L.ToLabelIter.labels c.args.self.now.left) (g.R.ToLabelIter.labels c.args.self.now.right)
    c.as_flat_slice-left.ensures.name c.as_flat_slice-right.ensures.name c.args.self.now.are
