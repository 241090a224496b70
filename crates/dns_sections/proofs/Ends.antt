-- Cursors end: each item leaves fewer, and an error is returned once in a section.
use Rattle.std.proofs.Common.{◌≡◌, ◌∙◌, ◌<◌, ◌≤◌, ◌⊎◌, ℕ, List, Some, None, Ok, Err, IfOk, ap, sym, refl, subst, inl, inr, arith}
use Rattle.std.specs.Prelude.{Option, Result}
use Rattle.std.specs.Iterator.{size}
use Rattle.dns_octets.specs.declared.error.ParseError.{ParseError}
use Rattle.dns_header.specs.Head.{NoWhole, WholeIsCut}
use Rattle.dns_header.specs.HeaderCounts.{counts_in}
use Rattle.dns_header.specs.ParsedRecord.{Parsed, HoldsRecord}
use Rattle.dns_header.specs.Record.{RecordOf}
use Rattle.dns_sections.specs.Cursor.{Cursor, Gives, IsSpent, PassesAll, items_left}
use Rattle.dns_sections.specs.Given.{GivesAll, GivesAsked, GivesRecord, GoesOver, Sectioned}
use Rattle.dns_sections.specs.Sections.{SectionCursor, LeadsOn, after, all_left}
use Rattle.dns_sections.specs.declared.section.Section.{Section}
use Rattle.dns_sections.proofs.All.{less-on, one-stuck}
use Rattle.dns_sections.proofs.Steps.{falls, same-message}

not-both : (left : Result ℕ ParseError) (number : ℕ) (error : ParseError) → left ≡ Ok number → left ≡ Err error → ⊥
not-both left number error is are = let no : ⊥ = cc in no

module _ {Item : Type 0} (Reads : List ℕ → ℕ → Item → ℕ → Type 0) (IsNone IsCut : List ℕ → ℕ → Type 0) where
  -- a cursor that has met an error returns nothing
  pub spent-by-error : (old mid new : Cursor) (error : ParseError) (result : Option (Result Item ParseError))
      → Gives Reads IsNone IsCut old (Some (Err error)) mid → Gives Reads IsNone IsCut mid result new → result ≡ None
  spent-by-error old mid new error None bad gives = refl
  spent-by-error old mid new error (Some (Ok item)) bad gives =
      absurd (not-both mid.left gives.0 error gives.1.0 (ap (λ (c : Cursor). c.left) bad.3))
  spent-by-error old mid new error (Some (Err other)) bad gives =
      absurd (not-both mid.left gives.0 error gives.1.0 (ap (λ (c : Cursor). c.left) bad.3))

  none-left : (cursor : Cursor) (left : ℕ) → IsSpent cursor → cursor.left ≡ Ok left → 0 < left → ⊥
  none-left cursor left spent is some =
      let zero : left ≡ 0 = subst (λ l. IfOk l (λ left. left ≡ 0)) is spent in
      omega (arith, zero, some)

  -- one that returns nothing goes on so
  pub spent-for-good : (old mid new : Cursor) (result : Option (Result Item ParseError))
      → Gives Reads IsNone IsCut old None mid → Gives Reads IsNone IsCut mid result new → result ≡ None
  spent-for-good old mid new None none gives = refl
  spent-for-good old mid new (Some (Ok item)) none gives =
      absurd (none-left mid gives.0 (subst IsSpent (sym none.1) none.0) gives.1.0 gives.1.1)
  spent-for-good old mid new (Some (Err error)) none gives =
      absurd (none-left mid gives.0 (subst IsSpent (sym none.1) none.0) gives.1.0 gives.1.1)

record-falls : (old new : Cursor) (result : Result Parsed ParseError) → GivesRecord old (Some result) new
    → size (items_left new) < size (items_left old)
record-falls old new result = falls HoldsRecord NoWhole WholeIsCut old new (Some result)

-- no more are left after those that were read
over-fewer : {old new : Cursor} {passed : List Parsed} → GoesOver old passed new → size (items_left new) ≤ size (items_left old)
over-fewer GoesOver.here = omega arith
over-fewer {old} {new} (GoesOver.on {mid = mid} {parsed = parsed} gives over) =
    let less = record-falls old mid (Ok parsed) gives in
    let rest = over-fewer over in
    omega (arith, less, rest)

pub asked-falls : {Data : Type 0} {IsAsked : Parsed → Type 0} {reads : List ℕ → ℕ → ℕ → Data → Type 0} {old new : Cursor}
    {result : Result (RecordOf (List (List ℕ)) Data) ParseError} → GivesAsked IsAsked reads old (Some result) new
    → size (items_left new) < size (items_left old)
asked-falls (GivesAsked.found {mid = mid} {new = new} {parsed = parsed} over none at asked given) =
    let less = record-falls mid new (Ok parsed) at in
    let rest = over-fewer over in
    omega (arith, less, rest)
asked-falls (GivesAsked.broken {mid = mid} {new = new} {error = error} over none at) =
    let less = record-falls mid new (Err error) at in
    let rest = over-fewer over in
    omega (arith, less, rest)

-- a step within a section
within : (old new : Cursor) (section : Section) (result : Result Parsed ParseError) → GivesRecord old (Some result) new
    → size (all_left (Some (record { cursor = new; section = section }))) < size (all_left (Some (record { cursor = old; section = section })))
within old new section result gives =
    let less = record-falls old new result gives in
    let same = ap (λ m. after (counts_in m) section) (same-message HoldsRecord NoWhole WholeIsCut old new (Some result) gives) in
    omega (arith, less, same)

pub all-falls : {old new : Option SectionCursor} {result : Result Sectioned ParseError} → GivesAll old (Some result) new
    → size (all_left new) < size (all_left old)
all-falls (GivesAll.item {old = old} {new = new} {section = section} {parsed = parsed} gives) =
    within old new section (Ok parsed) gives
all-falls (GivesAll.broken {old = old} {new = new} {section = section} {error = error} gives) =
    within old new section (Err error) gives
all-falls (GivesAll.on gives leads rest) =
    let less = less-on leads in
    let others = all-falls rest in
    omega (arith, less, others)
all-falls (GivesAll.stuck {old = old} {section = section} gives leads) = one-stuck old section

pub ended-gives-none : {new : Option SectionCursor} {result : Option (Result Sectioned ParseError)} → GivesAll None result new → result ≡ None
ended-gives-none GivesAll.over = refl

-- what follows an error of a record: the end, or the error once more
abbrev pub EndsBehind : ParseError → Option (Result Sectioned ParseError) → Option SectionCursor → Type 0
EndsBehind error result new = (result ≡ None) ⊎ ((result ≡ Some (Err error)) × (new ≡ None))

behind-broken : {mid : Cursor} {section : Section} {error : ParseError} {result : Option (Result Sectioned ParseError)} {new : Option SectionCursor}
    → mid.left ≡ Err error → GivesAll (Some (record { cursor = mid; section = section })) result new → EndsBehind error result new
behind-broken {mid} {error = error} bad (GivesAll.item gives) = absurd (not-both mid.left gives.0 error gives.1.0 bad)
behind-broken {mid} {error = error} bad (GivesAll.broken gives) = absurd (not-both mid.left gives.0 error gives.1.0 bad)
behind-broken bad (GivesAll.on gives (LeadsOn.last none) rest) = inl (ended-gives-none rest)
behind-broken {mid} {error = error} bad (GivesAll.on gives (LeadsOn.on follows (PassesAll.whole {left = left} is passes)) rest) =
    absurd (not-both mid.left left error is bad)
behind-broken {mid} {error = error} bad (GivesAll.stuck gives (LeadsOn.stuck follows (PassesAll.again {error = other} is))) =
    let same : other ≡ error = cc in
    inr (ap (λ (e : ParseError). Some (Err e)) same, refl)
behind-broken {mid} {error = error} bad (GivesAll.stuck gives (LeadsOn.stuck follows (PassesAll.stuck {left = left} is refused))) =
    absurd (not-both mid.left left error is bad)

pub error-ends : {old mid new : Option SectionCursor} {error : ParseError} {result : Option (Result Sectioned ParseError)}
    → GivesAll old (Some (Err error)) mid → GivesAll mid result new → EndsBehind error result new
error-ends (GivesAll.broken gives) next = behind-broken (ap (λ (c : Cursor). c.left) gives.3) next
error-ends (GivesAll.on gives leads rest) next = error-ends rest next
error-ends (GivesAll.stuck gives leads) next = inl (ended-gives-none next)
