-- A label that is changed in place.
use Rattle.std.specs.Prelude.{ℕ, List}
use Rattle.std.specs.Borrow.{GName}
use Rattle.dns_label.specs.declared.label.lent.LabelMut.{LabelMut}

-- its octets
abbrev pub octets_lent : LabelMut → List ℕ
octets_lent label = label.octets.now

-- the reference that it holds, which is to the octets that it was made of: what the label is when the loan ends is what
-- the octets then are
abbrev pub loan_of : LabelMut → GName
loan_of label = label.octets.ghost_name
