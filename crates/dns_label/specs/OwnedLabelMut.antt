-- A view by which a label that holds its octets is changed.
use Rattle.std.specs.Prelude.{ℕ, List}
use Rattle.std.specs.Borrow.{GName}
use Rattle.dns_label.specs.OwnedLabel.{octets_owned}
use Rattle.dns_label.specs.declared.label.owned.view.OwnedLabelMut.{OwnedLabelMut}

-- the label's octets
abbrev pub octets_viewed : OwnedLabelMut → List ℕ
octets_viewed view = octets_owned view.label.now

-- the reference that it holds, which is to the label that it was made of: what the view is when the loan ends is what
-- the label then is
abbrev pub loan_viewed : OwnedLabelMut → GName
loan_viewed view = view.label.ghost_name
