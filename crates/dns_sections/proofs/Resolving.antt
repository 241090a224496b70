-- Names that are followed through aliases.
use Rattle.std.proofs.Common.{◌≡◌, ℕ, zero, suc, true, false, List, Some, None, refl, sym}
use Rattle.std.proofs.lemmas.Bool.{false≢true}
use Rattle.std.specs.Prelude.{Option, is_some}
use Rattle.dns_sections.specs.Aliases.{Alias, aliased, resolved}

module _ (aliases : List Alias) (name : List (List ℕ)) where
  -- the name is an alias of the next one
  pub resolved-more : (most : ℕ) (next : List (List ℕ)) → Some next ≡ aliased aliases name
      → resolved aliases (suc most) name ≡ resolved aliases most next
  unfolding resolved
  resolved-more most next is = rw (sym is) refl

  -- it is none
  pub resolved-end : (most : ℕ) → None ≡ aliased aliases name → resolved aliases most name ≡ Some name
  unfolding resolved
  resolved-end zero is = rw (sym is) refl
  resolved-end (suc most) is = rw (sym is) refl

  -- no more aliases may be followed
  pub resolved-past : is_some (aliased aliases name) ≡ true → resolved aliases 0 name ≡ None
  unfolding resolved
  resolved-past some = by (aliased aliases name) refl some
    where
      by : (next : Option (List (List ℕ))) → aliased aliases name ≡ next → is_some next ≡ true → resolved aliases 0 name ≡ None
      by None is some = absurd (false≢true some)
      by (Some next) is some = rw is refl

  pub resolved-last : is_some (aliased aliases name) ≡ false → resolved aliases 0 name ≡ Some name
  resolved-last none = by (aliased aliases name) refl none
    where
      by : (next : Option (List (List ℕ))) → aliased aliases name ≡ next → is_some next ≡ false → resolved aliases 0 name ≡ Some name
      by None is none = resolved-end 0 (sym is)
      by (Some next) is none = absurd (false≢true (sym none))
