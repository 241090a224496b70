use Rattle.std.proofs.Common.{arith}
use Rattle.dns_flat.proofs.Chains.{length-labels_wire-append}
use Rattle.dns_flat.proofs.chain.ChainToLabelIter.compose_len.Goals as goal

pub returns : goal.returns
returns g c =
    omega (
      arith,
      c.compose_len.ensures,
      c.compose_len-2.ensures,
      length-labels_wire-append (g.L.ToLabelIter.labels c.args.self.now.left) (g.R.ToLabelIter.labels c.args.self.now.right),
    )
