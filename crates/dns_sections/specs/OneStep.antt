-- A cursor returns one thing only: if it returns an item, it returns no other, and nothing else.
use Rattle.std.proofs.Common.{◌≡◌, ◌∙◌, ◌-◌, ℕ, List, Some, None, Ok, Err, IfOk, subst, sym, arith}
use Rattle.dns_octets.specs.declared.error.ParseError.{ParseError}
use Rattle.dns_sections.specs.Cursor.{Cursor, Gives}

module _ {Item : Type 0} (Reads : List ℕ → ℕ → Item → ℕ → Type 0) (IsNone IsCut : List ℕ → ℕ → Type 0) where
  -- the same item, and the same place after it
  pub given-one : (Same : Item → Item → Type 0) → ((message : List ℕ) (place next end : ℕ) (item other : Item) → Reads message place item next
      → Reads message place other end → Same item other × (next ≡ end)) → (old new behind : Cursor) (item other : Item)
      → Gives Reads IsNone IsCut old (Some (Ok item)) new → Gives Reads IsNone IsCut old (Some (Ok other)) behind
      → Same item other × (new ≡ behind)
  given-one Same one old new behind item other gives others =
      let same = one old.message old.place new.place behind.place item other gives.2 others.2 in
      let left : gives.0 ≡ others.0 = cc (gives.1.0, others.1.0) in
      let there : ◌≡◌ {A = Cursor} (record { message = old.message; place = new.place; left = Ok (gives.0 - 1) })
      (record { message = old.message; place = behind.place; left = Ok (others.0 - 1) }) =
      λ i. record { message = old.message; place = same.1 i; left = Ok (left i - 1) } in
      (same.0, gives.3 ∙ there ∙ sym others.3)

  -- an item, and not the end
  pub given-some : (old new behind : Cursor) (item : Item) → Gives Reads IsNone IsCut old (Some (Ok item)) new
      → Gives Reads IsNone IsCut old None behind → ⊥
  given-some old new behind item gives none =
      let left : gives.0 ≡ 0 = subst (λ l. IfOk l (λ left. left ≡ 0)) gives.1.0 none.0 in
      omega (arith, left, gives.1.1)

  -- an error, and not the end
  pub given-bad : (old new behind : Cursor) (error : ParseError) → Gives Reads IsNone IsCut old (Some (Err error)) new
      → Gives Reads IsNone IsCut old None behind → ⊥
  given-bad old new behind error gives none =
      let left : gives.0 ≡ 0 = subst (λ l. IfOk l (λ left. left ≡ 0)) gives.1.0 none.0 in
      omega (arith, left, gives.1.1)

  -- an item, and no error
  pub given-read : ((message : List ℕ) (place next : ℕ) (item : Item) → IsNone message place → Reads message place item next → ⊥)
      → (old new behind : Cursor) (item : Item) (error : ParseError) → Gives Reads IsNone IsCut old (Some (Ok item)) new
      → Gives Reads IsNone IsCut old (Some (Err error)) behind → ⊥
  given-read never old new behind item error gives bad = never old.message old.place new.place item bad.2.none gives.2
