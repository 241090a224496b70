use Rattle.std.proofs.Common.{◌≡◌, ◌∙◌, ◌++◌, sym, ap, List, ℕ}
use Rattle.dns_label.specs.Name.{labels_wire, wire, with_root}
use Rattle.dns_flat.specs.ChainLaws.{rooted_behind}
use Rattle.dns_wire.proofs.Case.{wire_one}
use Rattle.dns_wire.proofs.Flat.{flat-written}
use Rattle.dns_wire.proofs.Wire.{labels_wire-with_root}
use Rattle.dns_flat.proofs.chain.ends.ChainToName.to_vec.Goals as goal

-- the octets of the labels are the name's
labels_are : (front : List (List ℕ)) {labels : List (List ℕ)} (name : List (List ℕ)) → labels ≡ with_root name → labels_wire (front ++ labels) ≡ wire (front ++ name)
labels_are front name is = ap labels_wire (rooted_behind front name is) ∙ labels_wire-with_root (front ++ name)

pub from_octets_unchecked-requires : goal.from_octets_unchecked-requires
from_octets_unchecked-requires g c =
    let left = g.L.ToLabelIter.labels c.args.self.now.left in
    let right = g.R.ToName.name c.args.self.now.right in
    flat-written _ (left ++ right) c.as_flat_slice-flat.ensures.name
    (c.in_ok-octets.ensures.items ∙ c.as_slice.ensures.value ∙ c.flat_octets.ensures ∙ labels_are left right (g.met.R.ToName.is_absolute c.args.self.now.right))

pub returns : goal.returns
returns g c =
    let left = g.L.ToLabelIter.labels c.args.self.now.left in
    let right = g.R.ToName.name c.args.self.now.right in
    wire_one _ (left ++ right)
    (sym c.from_octets_unchecked.ensures ∙ c.in_ok-octets.ensures.items ∙ c.as_slice.ensures.value ∙ c.flat_octets.ensures ∙ labels_are left right (g.met.R.ToName.is_absolute c.args.self.now.right))
