-- The keys by which owners are sorted. Only contracts inside the crate name them.
use Rattle.std.specs.Prelude.{◌≡◌, ◌++◌, ◌+◌, ◌-◌, ◌*◌, ◌^◌, ℕ, zero, suc, List, [], ◌∷◌, reverse, nat_lt}
use Rattle.std.specs.Prelude.{if◌then◌else◌}
use Rattle.std.specs.Ordering.{nat_cmp}
use Rattle.std.specs.declared.cmp.Ordering.{Ordering}
use Rattle.std.specs.declared.cmp.Ordering.TheVariants.{Less, Equal, Greater}
use Rattle.std.specs.Cmp.Lexicographic.{slice_cmp}
use Rattle.dns_label.specs.Name.{low}

-- This number of digits in base 512, as one number: those of the rest of a label, and of the labels after it. An
-- octet's digit is the octet plus one, so 0 is left for the end of a label. No octet is greater than 255.
unfoldable pub code : ℕ → List ℕ → List (List ℕ) → ℕ
code zero label labels = 0
code (suc digits) [] [] = 0
code (suc digits) [] (label ∷ labels) = code digits label labels
code (suc digits) (octet ∷ label) labels =
    if nat_lt octet 256 then suc octet * 512 ^ digits + code digits label labels else 512 ^ suc digits - 1

-- the key of a name under the apex, by its labels from the right without those of the apex
unfoldable pub front_key : List (List ℕ) → ℕ
front_key [] = 0
front_key (label ∷ labels) = code 14 label labels

-- the key of a name that differs from an apex at a label in this order: 0 before the names under it, and the greatest
-- key after them
abbrev pub key_beside : Ordering → ℕ → ℕ
key_beside Less key = 0
key_beside Equal key = key
key_beside Greater key = 2 ^ 128 - 1

-- the key of a name relative to an apex, by the labels of both from the right
unfoldable pub key_from : List (List ℕ) → List (List ℕ) → ℕ
key_from [] name = front_key name
key_from (label ∷ apex) [] = 0
key_from (label ∷ apex) (other ∷ name) = key_beside (slice_cmp nat_cmp other label) (key_from apex name)

-- the key of an owner relative to an apex, up to ASCII case
abbrev pub key_of : List (List ℕ) → List (List ℕ) → ℕ
key_of apex owner = key_from (reverse (low apex)) (reverse (low owner))

-- the label is the last one, which is removed; or there is none, and it is empty
pub data TakesLast (labels : List (List ℕ)) (label : List ℕ) (left : List (List ℕ)) : Type 0 where
  some : labels ≡ left ++ label ∷ [] → TakesLast labels label left
  none : labels ≡ [] → label ≡ [] → left ≡ [] → TakesLast labels label left
