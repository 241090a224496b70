-- The RRSIG Labels field (RFC 4034 3.1.3).
use Rattle.std.specs.Prelude.{ℕ, List, [], ◌∷◌, length, if◌then◌else◌}
use lib.Pointwise.{pointwise}
use Rattle.std.specs.Prelude.{nat_eq}

-- the root's label is not counted, nor a first one that is the asterisk (42) alone
abbrev pub rrsig_count : List (List ℕ) → ℕ
rrsig_count [] = 0
rrsig_count (label ∷ parent) = if pointwise nat_eq label (42 ∷ []) then length parent else length (label ∷ parent)
