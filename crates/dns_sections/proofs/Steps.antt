-- What a step of a cursor leaves: the same message, and fewer items.
use Rattle.std.proofs.Common.{◌≡◌, ◌<◌, ◌-◌, ℕ, List, Some, None, Ok, Err, OnSome, ap, arith}
use Rattle.std.specs.Prelude.{Option, Result}
use Rattle.std.specs.Iterator.{size}
use Rattle.dns_octets.specs.declared.error.ParseError.{ParseError}
use Rattle.dns_sections.specs.Cursor.{Cursor, Gives, items_left}

module _ {Item : Type 0} (Reads : List ℕ → ℕ → Item → ℕ → Type 0) (IsNone IsCut : List ℕ → ℕ → Type 0) where
  pub same-message : (old new : Cursor) (result : Option (Result Item ParseError)) → Gives Reads IsNone IsCut old result new → new.message ≡ old.message
  same-message old new None gives = ap (λ (c : Cursor). c.message) gives.1
  same-message old new (Some (Ok item)) gives = ap (λ (c : Cursor). c.message) gives.3
  same-message old new (Some (Err error)) gives = ap (λ (c : Cursor). c.message) gives.3

  pub falls : (old new : Cursor) (result : Option (Result Item ParseError)) → Gives Reads IsNone IsCut old result new
      → OnSome result (size (items_left new) < size (items_left old))
  falls old new None gives = tt
  falls old new (Some (Ok item)) gives =
      let here : size (items_left old) ≡ gives.0 =
      ap (λ (l : Result ℕ ParseError). size (items_left (record { message = old.message; place = old.place; left = l }))) gives.1.0 in
      let there : size (items_left new) ≡ gives.0 - 1 = ap (λ (c : Cursor). size (items_left c)) gives.3 in
      omega (arith, here, there, gives.1.1)
  falls old new (Some (Err error)) gives =
      let here : size (items_left old) ≡ gives.0 =
      ap (λ (l : Result ℕ ParseError). size (items_left (record { message = old.message; place = old.place; left = l }))) gives.1.0 in
      let there : size (items_left new) ≡ 0 = ap (λ (c : Cursor). size (items_left c)) gives.3 in
      omega (arith, here, there, gives.1.1)
