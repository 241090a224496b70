-- Cursors: places in the questions or records of a message, which follow one another (RFC 1035 4.1).
use Rattle.std.specs.Prelude.{◌≡◌, ◌↔◌, ◌<◌, ◌-◌, ℕ, suc, List, Option, Some, None, Result, Ok, Err, IfOk}
use Rattle.std.specs.Iterator.{Count, at_most}
use Rattle.dns_octets.specs.declared.error.ParseError.{ParseError}
use Rattle.dns_octets.specs.declared.error.ParseError.TheVariants.{ShortInput}

-- A cursor is at a place of a message with `left` items left, or has met one that does not parse, with this error.
pub record Cursor : Type 0 where
  pub message : List ℕ
  pub place : ℕ
  pub left : Result ℕ ParseError

-- nothing is left to parse: every item was returned, or one did not parse
abbrev pub IsSpent : Cursor → Type 0
IsSpent cursor = IfOk cursor.left (λ left. left ≡ 0)

-- items are left, as many as this
abbrev pub HasLeft : Cursor → ℕ → Type 0
HasLeft cursor left = (cursor.left ≡ Ok left) × (0 < left)

-- no more items than this are returned
abbrev left_of : Result ℕ ParseError → ℕ
left_of (Ok left) = left
left_of (Err error) = 0

abbrev pub items_left : Cursor → Count
items_left cursor = at_most (left_of cursor.left)

-- Nothing is there, and the error is `ShortInput` exactly if the message ends too early.
pub record IsRefusal (IsNone IsCut : Type 0) (error : ParseError) : Type 0 where
  pub none : IsNone
  pub short : (error ≡ ShortInput) ↔ IsCut

-- Items, one after another: the message has one at a place, up to the next; it has none there; it ends too early for
-- one.
module _ {Item : Type 0} (Reads : List ℕ → ℕ → Item → ℕ → Type 0) (IsNone IsCut : List ℕ → ℕ → Type 0) where
  -- What a cursor returns: the item at its place, if one is left; an item that does not parse is an error, once, and
  -- nothing is returned after it.
  abbrev pub Gives : Cursor → Option (Result Item ParseError) → Cursor → Type 0
  Gives old None new = IsSpent old × (new ≡ old)
  Gives old (Some (Ok item)) new = (left : ℕ) × HasLeft old left × Reads old.message old.place item new.place
      × (new ≡ record { message = old.message; place = new.place; left = Ok (left - 1) })
  Gives old (Some (Err error)) new = (left : ℕ) × HasLeft old left
      × IsRefusal (IsNone old.message old.place) (IsCut old.message old.place) error
      × (new ≡ record { message = old.message; place = old.place; left = Err error })

-- `count` items are skipped, one after another: `Skips` leads from a place to the place after its item.
pub data Passes (Skips : List ℕ → ℕ → ℕ → Type 0) (message : List ℕ) : ℕ → ℕ → ℕ → Type 0 where
  none : {place : ℕ} → Passes Skips message place 0 place
  more : {place behind next count : ℕ} → Skips message place behind → Passes Skips message behind count next
      → Passes Skips message place (suc count) next

module _ (Skips : List ℕ → ℕ → ℕ → Type 0) (IsCut : List ℕ → ℕ → Type 0) where
  -- one of the `count` items cannot be skipped, with this error
  pub record IsStuck (message : List ℕ) (place count : ℕ) (error : ParseError) : Type 0 where
    pub passed : ℕ
    pub few : passed < count
    pub at : ℕ
    pub passes : Passes Skips message place passed at
    pub refused : IsRefusal ((next : ℕ) → Skips message at next → ⊥) (IsCut message at) error

  -- skipping all that a cursor has left: the place after it, or an error, which may be that of an item that did not
  -- parse before
  pub data PassesAll : Cursor → Result ℕ ParseError → Type 0 where
    again : {cursor : Cursor} {error : ParseError} → cursor.left ≡ Err error → PassesAll cursor (Err error)
    whole : {cursor : Cursor} {left next : ℕ} → cursor.left ≡ Ok left → Passes Skips cursor.message cursor.place left next
        → PassesAll cursor (Ok next)
    stuck : {cursor : Cursor} {left : ℕ} {error : ParseError} → cursor.left ≡ Ok left → IsStuck cursor.message cursor.place left error
        → PassesAll cursor (Err error)
