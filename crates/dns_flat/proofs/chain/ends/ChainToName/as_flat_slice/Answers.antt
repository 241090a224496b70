use Rattle.std.proofs.Common.{◌∙◌, ℕ, length, ap, arith}
use Rattle.dns_label.specs.Name.{labels_wire}
use Rattle.dns_flat.proofs.Chains.{joined_name}
use Rattle.dns_wire.proofs.Wire.{labels_wire-with_root}
use Rattle.dns_flat.proofs.chain.ends.ChainToName.as_flat_slice.Goals as goal

pub returns-else-self-eq0-clause-name : goal.returns-else-self-eq0-clause-name
returns-else-self-eq0-clause-name g c =
    let name = g.R.ToName.name c.args.self.now.right in
    let long = ap (length {A = ℕ}) (ap labels_wire (g.met.R.ToName.is_absolute c.args.self.now.right) ∙ labels_wire-with_root name) in
    let short = c.args.self.now.short in
    joined_name (g.L.ToLabelIter.labels c.args.self.now.left) name c.as_flat_slice-left.ensures.name c.as_flat_slice-right.ensures.name (omega arith)
