-- A cursor over records with their data returns one thing only, but for which error it returns.
use Rattle.std.proofs.Common.{◌≡◌, ◌∙◌, ◌+◌, ◌⊎◌, ℕ, List, Some, None, Ok, Err, take, refl, ap, subst, sym, inl, inr}
use Rattle.std.specs.Prelude.{Option, Result, ⊤}
use Rattle.std.specs.List.{AllByRecursion}
use Rattle.dns_octets.specs.Parser.{octets_of, place_of}
use Rattle.dns_octets.specs.declared.error.ParseError.{ParseError}
use Rattle.dns_header.specs.Head.{Head, NoWhole, WholeIsCut}
use Rattle.dns_header.specs.ParsedRecord.{Parsed, HoldsRecord, IsRecordOf}
use Rattle.dns_header.specs.Record.{RecordOf}
use Rattle.dns_header.proofs.Heads.{heads_one}
use Rattle.dns_sections.specs.Cursor.{Cursor}
use Rattle.dns_sections.specs.Given.{GivesRecord, GoesOver, IsGivenAs, GivesAsked}
use Rattle.dns_sections.specs.OneStep.{given-one, given-some, given-bad, given-read}

-- records with the same header, whose data is at the same place of the same octets
pub record SayTheSame (parsed other : Parsed) : Type 0 where
  pub head : parsed.head ≡ other.head
  pub octets : octets_of parsed.rdata ≡ octets_of other.rdata
  pub place : place_of parsed.rdata ≡ place_of other.rdata

pub turned : {parsed other : Parsed} → SayTheSame parsed other → SayTheSame other parsed
turned same = record { head = sym same.head; octets = sym same.octets; place = sym same.place }

holds-one : {message : List ℕ} {place next end : ℕ} {parsed other : Parsed} → HoldsRecord message place parsed next
    → HoldsRecord message place other end → SayTheSame parsed other × (next ≡ end)
holds-one {message} {next = next} {end = end} {parsed = parsed} {other = other} holds others =
    let one = heads_one holds.whole.reads others.whole.reads in
    let ends : next ≡ end = holds.whole.ends ∙ (λ i. one.1 i + (one.0 i).data_len) ∙ sym others.whole.ends in (
      record {
        head = one.0;
        octets = holds.octets ∙ ap (λ n. take n message) ends ∙ sym others.octets;
        place = one.1;
      },
      ends,
    )

pub record-one : (old new behind : Cursor) (parsed other : Parsed) → GivesRecord old (Some (Ok parsed)) new
    → GivesRecord old (Some (Ok other)) behind → SayTheSame parsed other × (new ≡ behind)
record-one = given-one HoldsRecord NoWhole WholeIsCut SayTheSame (λ message place next end parsed other holds others. holds-one holds others)

record-some : (old new behind : Cursor) (parsed : Parsed) → GivesRecord old (Some (Ok parsed)) new → GivesRecord old None behind → ⊥
record-some = given-some HoldsRecord NoWhole WholeIsCut

record-bad : (old new behind : Cursor) (error : ParseError) → GivesRecord old (Some (Err error)) new → GivesRecord old None behind → ⊥
record-bad = given-bad HoldsRecord NoWhole WholeIsCut

record-read : (old new behind : Cursor) (parsed : Parsed) (error : ParseError) → GivesRecord old (Some (Ok parsed)) new
    → GivesRecord old (Some (Err error)) behind → ⊥
record-read = given-read HoldsRecord NoWhole WholeIsCut (λ message place next parsed none holds. none parsed.head (place_of parsed.rdata) next holds.whole)

-- an error has ended the cursor
abbrev pub IsBroken : Cursor → Type 0
IsBroken cursor = (error : ParseError) × (cursor.left ≡ Err error)

-- the same is returned, and the cursors go on alike; an error may be another one
abbrev pub Agree : {Data : Type 0} → Option (Result (RecordOf (List (List ℕ)) Data) ParseError) → Cursor
    → Option (Result (RecordOf (List (List ℕ)) Data) ParseError) → Cursor → Type 0
Agree None new None behind = ⊤
Agree None new (Some other) behind = ⊥
Agree (Some result) new None behind = ⊥
Agree (Some (Ok rr)) new (Some (Ok other)) behind = (rr ≡ other) × (new ≡ behind)
Agree (Some (Ok rr)) new (Some (Err error)) behind = ⊥
Agree (Some (Err error)) new (Some (Ok rr)) behind = ⊥
Agree (Some (Err error)) new (Some (Err other)) behind = (new ≡ behind) ⊎ (IsBroken new × IsBroken behind)

module _ {Data : Type 0} (IsAsked : Parsed → Type 0) (reads : List ℕ → ℕ → ℕ → Data → Type 0)
    (alike : (parsed other : Parsed) → SayTheSame parsed other → IsAsked parsed → IsAsked other)
    (one : (message : List ℕ) (place number : ℕ) (rdata other : Data) → reads message place number rdata → reads message place number other
    → rdata ≡ other) where
  -- the next record is asked for, if one is returned
  abbrev Stops : Cursor → Type 0
  Stops cursor = (parsed : Parsed) (new : Cursor) → GivesRecord cursor (Some (Ok parsed)) new → IsAsked parsed

  abbrev NoneAsked : List Parsed → Type 0
  NoneAsked passed = AllByRecursion (λ other. IsAsked other → ⊥) passed

  stops-found : {old new : Cursor} {parsed : Parsed} → GivesRecord old (Some (Ok parsed)) new → IsAsked parsed → Stops old
  stops-found {old} {new} {parsed} at asked = λ other behind gives. alike parsed other (record-one old new behind parsed other at gives).0 asked

  stops-broken : {old new : Cursor} {error : ParseError} → GivesRecord old (Some (Err error)) new → Stops old
  stops-broken {old} {new} {error} at = λ other behind gives. absurd (record-read old behind new other error gives at)

  stops-ended : {old : Cursor} → GivesRecord old None old → Stops old
  stops-ended {old} at = λ other behind gives. absurd (record-some old behind old other gives at)

  -- the records that are not asked for end at one place
  over-one : {old mid end : Cursor} {passed others : List Parsed} → GoesOver old passed mid → NoneAsked passed → Stops mid
      → GoesOver old others end → NoneAsked others → Stops end → mid ≡ end
  over-one GoesOver.here none stops GoesOver.here never ends = refl
  over-one GoesOver.here none stops (GoesOver.on {mid = mid} {parsed = parsed} gives over) never ends =
      absurd (never.0 (stops parsed mid gives))
  over-one (GoesOver.on {mid = mid} {parsed = parsed} gives over) none stops GoesOver.here never ends =
      absurd (none.0 (ends parsed mid gives))
  over-one {old} {end = end} (GoesOver.on {mid = mid} {parsed = parsed} gives over) none stops
      (GoesOver.on {mid = there} {parsed = other} {others = rest} first others) never ends =
      let same = (record-one old mid there parsed other gives first).1 in
      over-one over none.1 stops (subst (λ c. GoesOver c rest end) (sym same) others) never.1 ends

  moved : {parsed other : Parsed} {rdata : Data} → SayTheSame parsed other
      → reads (octets_of parsed.rdata) (place_of parsed.rdata) parsed.head.rtype rdata
      → reads (octets_of other.rdata) (place_of other.rdata) other.head.rtype rdata
  moved {parsed} {other} {rdata} same read =
      subst (λ (h : Head (List (List ℕ))). reads (octets_of other.rdata) (place_of other.rdata) h.rtype rdata) same.head
      (subst (λ p. reads (octets_of other.rdata) p parsed.head.rtype rdata) same.place
      (subst (λ o. reads o (place_of parsed.rdata) parsed.head.rtype rdata) same.octets read))

  records-one : {parsed other : Parsed} {rr found : RecordOf (List (List ℕ)) Data} → SayTheSame parsed other → IsRecordOf reads parsed rr
      → IsRecordOf reads other found → rr ≡ found
  records-one {other = other} {rr = rr} {found = found} same is are =
      let owner : rr.owner ≡ found.owner = is.owner ∙ ap (λ (h : Head (List (List ℕ))). h.owner) same.head ∙ sym are.owner in
      let class : rr.class ≡ found.class = is.class ∙ ap (λ (h : Head (List (List ℕ))). h.class) same.head ∙ sym are.class in
      let ttl : rr.ttl ≡ found.ttl = is.ttl ∙ ap (λ (h : Head (List (List ℕ))). h.ttl) same.head ∙ sym are.ttl in
      let rdata : rr.rdata ≡ found.rdata = one (octets_of other.rdata) (place_of other.rdata) other.head.rtype rr.rdata found.rdata (moved same is.rdata) are.rdata in
      λ i. record { owner = owner i; class = class i; ttl = ttl i; rdata = rdata i }

  given-alike : {parsed other : Parsed} {new behind : Cursor} (result found : Result (RecordOf (List (List ℕ)) Data) ParseError)
      → SayTheSame parsed other → new ≡ behind → IsGivenAs reads parsed result → IsGivenAs reads other found
      → Agree (Some result) new (Some found) behind
  given-alike (Ok rr) (Ok found) same there is are = (records-one same is are, there)
  given-alike (Ok rr) (Err error) same there is none = none rr.rdata (moved same is.rdata)
  given-alike (Err error) (Ok found) same there none are = none found.rdata (moved (turned same) are.rdata)
  given-alike (Err error) (Err found) same there none never = inl there

  there-too : {mid end : Cursor} (result : Option (Result Parsed ParseError)) (behind : Cursor) → mid ≡ end → GivesRecord end result behind
      → GivesRecord mid result behind
  there-too result behind same at = subst (λ (c : Cursor). GivesRecord c result behind) (sym same) at

  pub asked-one : {old new behind : Cursor} {result found : Option (Result (RecordOf (List (List ℕ)) Data) ParseError)}
      → GivesAsked IsAsked reads old result new → GivesAsked IsAsked reads old found behind → Agree result new found behind
  asked-one (GivesAsked.found {mid = mid} {new = new} {parsed = parsed} {result = result} over none at asked given)
      (GivesAsked.found {new = behind} {parsed = other} {result = found} others never next wanted is) =
      let same = over-one over none (stops-found at asked) others never (stops-found next wanted) in
      let both = record-one mid new behind parsed other at (there-too (Some (Ok other)) behind same next) in
      given-alike result found both.0 both.1 given is
  asked-one (GivesAsked.found {mid = mid} {new = new} {parsed = parsed} over none at asked given)
      (GivesAsked.broken {new = behind} {error = error} others never next) =
      let same = over-one over none (stops-found at asked) others never (stops-broken next) in
      absurd (record-read mid new behind parsed error at (there-too (Some (Err error)) behind same next))
  asked-one (GivesAsked.found {mid = mid} {new = new} {parsed = parsed} over none at asked given)
      (GivesAsked.ended {new = behind} others never next) =
      let same = over-one over none (stops-found at asked) others never (stops-ended next) in
      absurd (record-some mid new behind parsed at (there-too None behind same next))
  asked-one (GivesAsked.broken {mid = mid} {new = new} {error = error} over none at)
      (GivesAsked.found {new = behind} {parsed = other} others never next wanted is) =
      let same = over-one over none (stops-broken at) others never (stops-found next wanted) in
      absurd (record-read mid behind new other error (there-too (Some (Ok other)) behind same next) at)
  asked-one (GivesAsked.broken {error = error} over none at) (GivesAsked.broken {error = other} others never next) =
      inr ((error, ap (λ (c : Cursor). c.left) at.3), (other, ap (λ (c : Cursor). c.left) next.3))
  asked-one (GivesAsked.broken {mid = mid} {new = new} {error = error} over none at) (GivesAsked.ended {new = behind} others never next) =
      let same = over-one over none (stops-broken at) others never (stops-ended next) in
      absurd (record-bad mid new behind error at (there-too None behind same next))
  asked-one (GivesAsked.ended {new = new} over none at) (GivesAsked.found {new = behind} {parsed = other} others never next wanted is) =
      let same = over-one over none (stops-ended at) others never (stops-found next wanted) in
      absurd (record-some new behind new other (there-too (Some (Ok other)) behind same next) at)
  asked-one (GivesAsked.ended {new = new} over none at) (GivesAsked.broken {new = behind} {error = error} others never next) =
      let same = over-one over none (stops-ended at) others never (stops-broken next) in
      absurd (record-bad new behind new error (there-too (Some (Err error)) behind same next) at)
  asked-one (GivesAsked.ended over none at) (GivesAsked.ended others never next) = tt
