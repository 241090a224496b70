-- Skipping records that are not asked for.
use Rattle.std.proofs.Common.{◌≡◌, ◌∙◌, ℕ, Bool, true, false, nat_eq, List, [], Some, None, Ok, Err, IfOk, OnErr, refl, ap, subst, sym, eq-eqb}
use Rattle.std.proofs.lemmas.Bool.{eqb-true, false≢true}
use Rattle.std.specs.Prelude.{Option, Result, not}
use Rattle.dns_octets.specs.declared.error.ParseError.{ParseError}
use Rattle.dns_header.specs.ParsedRecord.{Parsed, IsRecordOf, HasNoData}
use Rattle.dns_header.specs.Record.{RecordOf}
use Rattle.dns_sections.specs.Cursor.{Cursor}
use Rattle.dns_sections.specs.Given.{GivesRecord, GoesOver, IsGivenAs, GivesAsked, seen}

onward : {Data : Type 0} {IsAsked : Parsed → Type 0} {reads : List ℕ → ℕ → ℕ → Data → Type 0} {old mid new : Cursor} {parsed : Parsed}
    {result : Option (Result (RecordOf (List (List ℕ)) Data) ParseError)} → GivesRecord old (Some (Ok parsed)) mid → (IsAsked parsed → ⊥)
    → GivesAsked IsAsked reads mid result new → GivesAsked IsAsked reads old result new
onward gives never (GivesAsked.found over none at asked given) = GivesAsked.found (GoesOver.on gives over) (never, none) at asked given
onward gives never (GivesAsked.broken over none at) = GivesAsked.broken (GoesOver.on gives over) (never, none) at
onward gives never (GivesAsked.ended over none at) = GivesAsked.ended (GoesOver.on gives over) (never, none) at

pub passed-on : {Data : Type 0} (IsAsked : Parsed → Type 0) (reads : List ℕ → ℕ → ℕ → Data → Type 0) (old mid new : Cursor) (parsed : Parsed)
    (result : Option (Result (RecordOf (List (List ℕ)) Data) ParseError)) → GivesRecord old (Some (Ok parsed)) mid → (IsAsked parsed → ⊥)
    → GivesAsked IsAsked reads mid result new → GivesAsked IsAsked reads old result new
passed-on IsAsked reads old mid new parsed result gives never rest =
    onward {old = old} {mid = mid} {new = new} {parsed = parsed} {result = result} gives never rest

-- what one cursor returns another one returns
abbrev pub GivesThere : {Data : Type 0} → (Parsed → Type 0) → (List ℕ → ℕ → ℕ → Data → Type 0) → Cursor → Cursor → Type 0
GivesThere {Data} IsAsked reads here there = (result : Option (Result (RecordOf (List (List ℕ)) Data) ParseError)) (new : Cursor)
    → GivesAsked IsAsked reads here result new → GivesAsked IsAsked reads there result new

-- a record that is asked for, with its data or without
module _ {Data : Type 0} (IsAsked : Parsed → Type 0) (reads : List ℕ → ℕ → ℕ → Data → Type 0) (old new : Cursor) where
  pub given-here : (parsed : Parsed) (result : Result (RecordOf (List (List ℕ)) Data) ParseError) → GivesRecord old (Some (Ok parsed)) new
      → IsAsked parsed → IsGivenAs reads parsed result → GivesAsked IsAsked reads old (Some result) new
  given-here parsed result gives asked given =
      GivesAsked.found {old = old} {mid = old} {new = new} {passed = []} {parsed = parsed} {result = result} GoesOver.here tt gives asked given

  pub found-here : {X : Type 0} (view : X → RecordOf (List (List ℕ)) Data) (parsed : Parsed) (result : Result X ParseError)
      → GivesRecord old (Some (Ok parsed)) new → IsAsked parsed → IfOk result (λ rr. IsRecordOf reads parsed (view rr))
      → OnErr result (HasNoData reads parsed) → GivesAsked IsAsked reads old (seen view (Some result)) new
  found-here view parsed (Ok rr) gives asked is none = given-here parsed (Ok (view rr)) gives asked is
  found-here view parsed (Err error) gives asked is none = given-here parsed (Err error) gives asked none

  -- a record that does not parse
  pub broken-here : (error : ParseError) → GivesRecord old (Some (Err error)) new → GivesAsked IsAsked reads old (Some (Err error)) new
  broken-here error gives = GivesAsked.broken {old = old} {mid = old} {new = new} {passed = []} {error = error} GoesOver.here tt gives

  -- nothing is left
  pub ended-here : GivesRecord old None new → GivesAsked IsAsked reads old None new
  ended-here gives =
      subst (λ (c : Cursor). GivesAsked IsAsked reads old None c) (sym gives.1)
      (GivesAsked.ended {old = old} {new = old} {passed = []} GoesOver.here tt (gives.0, refl))

-- what a test of the class tells
pub class-one : (class : ℕ) → false ≡ not (nat_eq class 1) → class ≡ 1
class-one class test = by (nat_eq class 1) refl
  where
    by : (b : Bool) → nat_eq class 1 ≡ b → class ≡ 1
    by true is = eqb-true class 1 is
    by false is = let wrong : false ≡ true = test ∙ ap not is in absurd (false≢true wrong)

pub not-one : (class : ℕ) → true ≡ not (nat_eq class 1) → class ≡ 1 → ⊥
not-one class test is = let wrong : true ≡ false = test ∙ ap not (eq-eqb class 1 is) in false≢true (sym wrong)
