use Rattle.std.proofs.Common.{◌∙◌, ap, List, ℕ}
use Rattle.dns_label.specs.Name.{wire}
use Rattle.dns_name.specs.Spelling.{tree_spelling, place_in}
use Rattle.dns_compress.specs.Listed.{listed}
use Rattle.dns_compress.proofs.tree_table.TreeTableTable.find.Goals as goal

pub returns : goal.returns
returns c = λ suffix is_name is.
    c.place.ensures
    ∙ ap (λ (l : List ℕ). place_in tree_spelling (listed c.args.self.now.suffixes.list) l) (c.as_slice.ensures.octets ∙ ap wire is)
