-- What differs between two ascending lists. Only contracts inside the crate name it.
use Rattle.std.specs.Prelude.{List, [], ◌∷◌}
use Rattle.std.specs.declared.cmp.Ordering.{Ordering}
use Rattle.std.specs.declared.cmp.Ordering.TheVariants.{Less, Equal, Greater}
use Rattle.zone_records.specs.Record.{Record}
use Rattle.zone_canonical.specs.declared.change_list.Change.{Change}
use Rattle.zone_canonical.specs.declared.change_list.Change.TheVariants.{Added, Removed}

abbrev pub by_order : {X : Type 0} → Ordering → X → X → X → X
by_order Less less equal greater = less
by_order Equal less equal greater = equal
by_order Greater less equal greater = greater

-- how an element compares with the first of others; it comes first if there are none
abbrev pub first_cmp : {X : Type 0} → (X → X → Ordering) → X → List X → Ordering
first_cmp R x [] = Less
first_cmp R x (y ∷ ys) = R x y

module _ {X : Type 0} (R : X → X → Ordering) (form : X → Record) where
  -- what one of the lists has and the other has not
  unfoldable pub merged : List X → List X → List Change
  merged [] [] = []
  merged [] (y ∷ ys) = Added (form y) ∷ merged [] ys
  merged (x ∷ xs) [] = Removed (form x) ∷ merged xs []
  merged (x ∷ xs) (y ∷ ys) =
      by_order (R x y) (Removed (form x) ∷ merged xs (y ∷ ys)) (merged xs ys) (Added (form y) ∷ merged (x ∷ xs) ys)
