use Rattle.std.proofs.Common.{ℕ, ◌≤◌, List, length, sym, subst}
use Rattle.std.specs.List.Sorted.{IsStrictlyIncreasing}
use Rattle.dns_field_texts.proofs.TypesAscend.{types_ascend, types_few}
use Rattle.dns_field_texts.proofs.bitmap.rtype_bitmap.RtypeBitmap.iter.Goals as goal

pub returns-clause-ascending : goal.returns-clause-ascending
returns-clause-ascending c = subst IsStrictlyIncreasing (sym c.over.ensures) (types_ascend c.self.inside.octets.now c.self.invariant)

pub returns-clause-few : goal.returns-clause-few
returns-clause-few c = subst (λ (l : List ℕ). length l ≤ 65536) (sym c.over.ensures) (types_few c.self.inside.octets.now c.self.invariant)
