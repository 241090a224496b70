use Rattle.std.proofs.Common.{ℕ, take, ◌↔◌}
use Rattle.std.specs.List.{Contains}
use Rattle.dns_field_texts.proofs.bitmap.append_types.Given as goal

abbrev pub invariant-loop-rtype : goal.invariant-loop-rtype
invariant-loop-rtype l = (type : ℕ) → Contains l.set type ↔ Contains (take l.rtype-index l.types) type
