-- A list of changes is its records, and which of them are added.
use Rattle.std.proofs.Common.{◌≡◌, ℕ, zero, suc, Bool, true, false, Some, List, [], ◌∷◌, ◌++◌, length, refl, ap, ◌∙◌, sym, subst}
use Rattle.std.specs.Prelude.{map, slice_get}
use Rattle.std.specs.List.{push}
use Rattle.std.proofs.lemmas.List.{map-append}
use Rattle.zone_records.specs.Record.{Record}
use Rattle.zone_canonical.specs.Changes.{changed}
use Rattle.zone_canonical.specs.ChangesSeen.{change_of, changes_in}
use Rattle.zone_canonical.specs.ChangeWriter.{is_added}
use Rattle.zone_canonical.specs.FormWriter.{Holds}
use Rattle.zone_canonical.specs.declared.change_list.Change.{Change}
use Rattle.zone_canonical.specs.declared.change_list.Change.TheVariants.{Added, Removed}

pub length-changes_in : (are_added : List Bool) (forms : List Record) → length are_added ≡ length forms
    → length (changes_in are_added forms) ≡ length forms
length-changes_in [] [] even = refl
length-changes_in [] (form ∷ forms) even = absurd cc
length-changes_in (is ∷ are_added) [] even = absurd cc
length-changes_in (is ∷ are_added) (form ∷ forms) even = ap suc (length-changes_in are_added forms (let e : suc (length are_added) ≡ suc (length forms) = even in cc))

one_back : (change : Change) → change_of (is_added change) (changed change) ≡ change
one_back (Removed form) = refl
one_back (Added form) = refl

pub changes_back : (changes : List Change) → changes_in (map is_added changes) (map changed changes) ≡ changes
changes_back [] = refl
changes_back (change ∷ changes) = λ i. one_back change i ∷ changes_back changes i

pub slice_get-changes_in : (are_added : List Bool) (forms : List Record) (index : ℕ) (is : Bool) (form : Record) → slice_get are_added index ≡ Some is
    → slice_get forms index ≡ Some form → slice_get (changes_in are_added forms) index ≡ Some (change_of is form)
slice_get-changes_in [] forms index is form at at' = absurd cc
slice_get-changes_in (b ∷ are_added) [] index is form at at' = absurd cc
slice_get-changes_in (b ∷ are_added) (r ∷ forms) zero is form at at' =
    let same : b ≡ is = cc in
    let one : r ≡ form = cc in
    λ i. Some (change_of (same i) (one i))
slice_get-changes_in (b ∷ are_added) (r ∷ forms) (suc index) is form at at' = slice_get-changes_in are_added forms index is form at at'

pub map-push : {X Y : Type 0} (f : X → Y) (xs : List X) (x : X) → push (map f xs) (f x) ≡ map f (push xs x)
map-push f xs x = sym (map-append f xs (x ∷ []))
