-- The last of the records that a cursor returns.
use Rattle.std.proofs.Common.{◌≡◌, ◌⊎◌, inl, inr, ℕ, Bool, true, false, List, [], ◌∷◌, Some, None, Ok, Err, IfOk, ap, subst, sym}
use Rattle.std.specs.Prelude.{Option, Result, IfSome, IfNone, is_some}
use Rattle.std.specs.Result.{result_ok}
use Rattle.dns_octets.specs.declared.error.ParseError.{ParseError}
use Rattle.dns_header.specs.ParsedRecord.{Parsed}
use Rattle.dns_sections.specs.Cursor.{Cursor, IsSpent}
use Rattle.dns_sections.specs.Firsts.{LastAdditional}
use Rattle.dns_sections.specs.Given.{GivesRecord, GoesOver}
use Rattle.dns_sections.specs.Sections.{SectionCursor, IsSectionOf}
use Rattle.dns_sections.specs.declared.section.Section.TheVariants.{Additional}

-- the last of the records that were read, if there is one; a cursor is now after it
abbrev pub IsLastBefore : Cursor → Option Parsed → Cursor → Type 0
IsLastBefore old None now = now ≡ old
IsLastBefore old (Some parsed) now = (others : List Parsed) × (mid : Cursor) × GoesOver old others mid × GivesRecord mid (Some (Ok parsed)) now

-- one record more is read
goes-on : {old mid new : Cursor} {others : List Parsed} {parsed : Parsed} → GoesOver old others mid → GivesRecord mid (Some (Ok parsed)) new
    → (all : List Parsed) × GoesOver old all new
goes-on {parsed = parsed} GoesOver.here gives = (parsed ∷ [], GoesOver.on gives GoesOver.here)
goes-on (GoesOver.on {parsed = first} given over) gives =
    let rest = goes-on over gives in
    (first ∷ rest.0, GoesOver.on given rest.1)

-- all records before the cursor were read
pub gone-over : (old now : Cursor) (last : Option Parsed) → IsLastBefore old last now → (others : List Parsed) × GoesOver old others now
gone-over old now None is = ([], subst (λ (c : Cursor). GoesOver old [] c) (sym is) (GoesOver.here {cursor = old}))
gone-over old now (Some parsed) is = goes-on {old = old} {mid = is.1} {new = now} {others = is.0} {parsed = parsed} is.2 is.3

-- one record more, which parses
pub last-more : (old now new : Cursor) (last : Option Parsed) (item : Result Parsed ParseError) (parsed : Parsed) → IsLastBefore old last now
    → GivesRecord now (Some item) new → result_ok item ≡ Some parsed → IsLastBefore old (Some parsed) new
last-more old now new last (Err error) parsed is gives reads = let no : ⊥ = cc in absurd no
last-more old now new last (Ok found) parsed is gives reads =
    let before = gone-over old now last is in
    let same : found ≡ parsed = cc in
    (before.0, now, before.1, subst (λ (p : Parsed). GivesRecord now (Some (Ok p)) new) same gives)

-- a record that does not parse follows those that were read
abbrev pub IsBroken : Cursor → Type 0
IsBroken old = (others : List Parsed) × (mid : Cursor) × (new : Cursor) × (error : ParseError) × GoesOver old others mid
    × GivesRecord mid (Some (Err error)) new

pub last-broken : {A : Type 0} (result : Option A) (old now new : Cursor) (last : Option Parsed) (item : Result Parsed ParseError)
    → IsLastBefore old last now → GivesRecord now (Some item) new → result_ok item ≡ None → IfNone result (IsSpent old ⊎ IsBroken old)
last-broken (Some value) old now new last item is gives none = tt
last-broken None old now new last (Ok found) is gives none = let no : ⊥ = cc in absurd no
last-broken None old now new last (Err error) is gives none =
    let before = gone-over old now last is in
    inr (before.0, now, new, error, before.1, gives)

-- the last of all records that a cursor returns
abbrev pub IsLastOf : Cursor → Parsed → Type 0
IsLastOf old parsed = (others : List Parsed) × (mid : Cursor) × (new : Cursor) × GoesOver old others mid
    × GivesRecord mid (Some (Ok parsed)) new × IsSpent new

pub last-found : (old now : Cursor) (last : Option Parsed) → IsLastBefore old last now → IsSpent now → IfSome last (IsLastOf old)
last-found old now None is spent = tt
last-found old now (Some parsed) is spent = (is.0, is.1, now, is.2, is.3, spent)

-- nothing is left of a count
none-left : (left : Result ℕ ParseError) (count : ℕ) → left ≡ Ok count → IfOk left (λ n. n ≡ 0) → left ≡ Ok 0
none-left (Ok n) count is zero = ap (λ n. Ok n) zero
none-left (Err error) count is spent = let no : ⊥ = cc in absurd no

-- what the walk over the additional section tells of the message
module _ (message : List ℕ) (at : SectionCursor) (is : IsSectionOf message Additional at) where
  last-none : IsSpent at.cursor ⊎ IsBroken at.cursor → LastAdditional message None
  last-none ended = elim ended [
    | inl spent ↦ LastAdditional.empty is (none-left at.cursor.left _ (ap (λ (c : SectionCursor). c.cursor.left) is.is) spent)
    | inr broken ↦ LastAdditional.broken {at = at} {mid = broken.1} {new = broken.2} {others = broken.0} {error = broken.3} is broken.4 broken.5
  ]

  last-some : (parsed : Parsed) → IsLastOf at.cursor parsed → LastAdditional message (Some parsed)
  last-some parsed last =
      LastAdditional.last {at = at} {mid = last.1} {new = last.2} {others = last.0} {parsed = parsed} is last.3 last.4
      (none-left last.2.left _ (ap (λ (c : Cursor). c.left) last.4.3) last.5)

  pub last-is : (last : Option Parsed) → IfSome last (IsLastOf at.cursor) → IfNone last (IsSpent at.cursor ⊎ IsBroken at.cursor)
      → LastAdditional message last
  last-is None some none = last-none none
  last-is (Some parsed) some none = last-some parsed some

-- what the last record is parsed as
module _ {A : Type 0} (takes : ℕ → Bool) (IsReadAs : Parsed → A → Type 0) (message : List ℕ) (parsed : Parsed)
    (last : LastAdditional message (Some parsed)) (found : Option A) (taken : is_some found ≡ takes parsed.head.rtype) where
  pub last-read : IfSome found (IsReadAs parsed)
      → IfSome found (λ rr. (p : Parsed) × LastAdditional message (Some p) × (takes p.head.rtype ≡ true) × IsReadAs p rr)
  last-read reads = by found taken reads
    where
      by : (o : Option A) → is_some o ≡ takes parsed.head.rtype → IfSome o (IsReadAs parsed)
          → IfSome o (λ rr. (p : Parsed) × LastAdditional message (Some p) × (takes p.head.rtype ≡ true) × IsReadAs p rr)
      by None is reads = tt
      by (Some rr) is reads = (parsed, last, sym is, reads)

  pub last-unread : (HasNone : Parsed → Type 0)
      → IfNone found (LastAdditional message None ⊎ ((p : Parsed) × LastAdditional message (Some p) × ((takes p.head.rtype ≡ false) ⊎ HasNone p)))
  last-unread HasNone = by found taken
    where
      by : (o : Option A) → is_some o ≡ takes parsed.head.rtype
          → IfNone o (LastAdditional message None ⊎ ((p : Parsed) × LastAdditional message (Some p) × ((takes p.head.rtype ≡ false) ⊎ HasNone p)))
      by None is = inr (parsed, last, inl (sym is))
      by (Some rr) is = tt
