use Rattle.std.proofs.Common.{◌≡◌, ◌-◌, ◌<◌, ℕ, List, [], ◌∷◌, ◌++◌, true, false, length, ◌∙◌, sym, ap, subst, arith, ◌⊎◌, inl, inr, length-append}
use Rattle.std.proofs.lemmas.Bool.{eqb-true, eq-eqb, false≢true}
use Rattle.std.specs.List.{AllByRecursion}
use Rattle.dns_rdata.specs.Fields.{IsData}
use Rattle.dns_message.specs.Record.{IsRecord, ReadsRecord, record_octets}
use Rattle.zone_records.specs.Record as spec
use Rattle.zone_records.specs.Records.{IsRecordOf}
use Rattle.zone_records.specs.Zone.{soa_type}
use Rattle.zone_records.proofs.Each.{all_append}
use Rattle.zone_receive.specs.Asked.{asked_of}
use Rattle.zone_receive.specs.Receiving.{KeepsFirstRule, KeepsLastRule}
use Rattle.zone_receive.specs.FrameBuffer.{HoldsFront, HasRole}
use Rattle.zone_receive.proofs.RulesKept.{held_long, next_there, next_is, first_held, known_record, soa_spellable, none_held, some_held, first_known, first_is_soa, first_kept, first_broken, first_behind, last_kept, last_broken, last_free, holds_closed, holds_open, holds_so_far, inner_role, last_role, not_false, not_true, told_equal, told_other, told_no}
use Rattle.zone_receive.proofs.rules.judge_record.Goals.{else-last-eq0-via-then-last-eq0+else-not-is_first_soa, else-last-eq0-via-else-last-eq0, then-last-eq0-2, else-last-eq0-2, then-not-is_soa, else-not-is_soa+else-not-is_same_soa, After-class, After-from_octets-next, Joined-last-eq0-2, Joined-not-is_soa}
use Rattle.zone_receive.proofs.rules.judge_record.Goals as goal

long : (records held : List spec.Record) (r : spec.Record) → records ≡ held ++ r ∷ [] → 0 < length records
long records held r splits = omega (arith, ap (length {A = spec.Record}) splits, length-append held (r ∷ []))

pub overflow_sub-last : goal.overflow_sub-last
overflow_sub-last c = omega (arith, c.len-last.ensures.count, long c.args.records.now c.requires.held c.requires.r c.requires.splits)

pub octets_at-octets-requires : goal.octets_at-octets-requires
octets_at-octets-requires c = omega (arith, c.len-last.ensures.count, long c.args.records.now c.requires.held c.requires.r c.requires.splits)

pub from_octets-next-requires : goal.from_octets-next-requires
from_octets-next-requires c =
    let it = c.requires in
    let there = next_there it.held it.r c.len-last.result c.len-last.ensures.count it.splits in
    (it.r, c.octets_at-octets.ensures.known it.r there, c.octets_at-octets.ensures.octets it.r there)

-- the record that is checked is the last one
here : (c : After-from_octets-next) (held : List spec.Record) (r : spec.Record) → c.args.records.now ≡ held ++ r ∷ [] → c.from_octets-next.result ≡ r
here c held r splits =
    let octets = c.octets_at-octets.ensures in
    next_is held r c.len-last.result c.len-last.ensures.count splits octets.octets octets.known c.from_octets-next.ensures

-- so it is the record at its place in the message
read_here : (c : After-from_octets-next) (held : List spec.Record) (r : spec.Record) (message : List ℕ) (place end : ℕ)
    → c.args.records.now ≡ held ++ r ∷ [] → ReadsRecord message place r end → ReadsRecord message place c.from_octets-next.result end
read_here c held r message place end splits has = subst (λ r. ReadsRecord message place r end) (sym (here c held r splits)) has

data_here : (c : After-from_octets-next) → IsData c.from_octets-next.result.rtype c.from_octets-next.result.rdata
data_here c = subst (λ (r : spec.Record). IsData r.rtype r.rdata) (sym (here c c.requires.held c.requires.r c.requires.splits)) c.requires.data_is

lawful_here : (c : After-from_octets-next) → IsRecord c.from_octets-next.result
lawful_here c =
    let it = c.requires in
    subst (λ (r : spec.Record). IsRecord r) (sym (here c it.held it.r it.splits))
    (c.octets_at-octets.ensures.known it.r (next_there it.held it.r c.len-last.result c.len-last.ensures.count it.splits))

octets_here : (c : After-from_octets-next) → c.octets_at-octets.result.now ≡ record_octets c.from_octets-next.result
octets_here c =
    let it = c.requires in
    c.octets_at-octets.ensures.octets it.r (next_there it.held it.r c.len-last.result c.len-last.ensures.count it.splits)
    ∙ ap record_octets (sym (here c it.held it.r it.splits))

pub returns-then-not-is_first_soa-clause-err : goal.returns-then-not-is_first_soa-clause-err
returns-then-not-is_first_soa-clause-err c =
    let there = (goal.at.returns-then-not-is_first_soa-clause-err c).After-from_octets-next in
    let refused = c.if-not-is_first_soa.true in
    λ held front r message place end splits holds number has. (
      c.from_octets-next.result,
      end,
      read_here there held r message place end splits has,
      λ keeps.
          let long' = held_long held r c.len-last.result c.len-last.ensures.count splits in
          let empty = none_held held (sym long' ∙ c.if-last-eq0.true) in
          let told = c.is_first_soa.ensures.1 (first_broken c.from_octets-next.result holds empty keeps) in cc,
    )

-- the first rule is kept from there on
first_rule : (c : After-class) (held : List spec.Record) (r : spec.Record) (front : List spec.Record) → c.args.records.now ≡ held ++ r ∷ []
    → HoldsFront (asked_of c.args.query.now) held c.args.closed front → KeepsFirstRule (asked_of c.args.query.now) front c.from_octets-next.result
first_rule c held r front splits holds =
    let long' = held_long held r c.len-last.result c.len-last.ensures.count splits in
    elim c.else-last-eq0.branch [
      | else-last-eq0-via-then-last-eq0+else-not-is_first_soa w ↦
          first_kept c.from_octets-next.result holds (none_held held (sym long' ∙ w.if-last-eq0.true))
          (w.is_first_soa.ensures.0 w.if-not-is_first_soa.false)
      | else-last-eq0-via-else-last-eq0 w ↦
          let some = some_held held (λ none. w.if-last-eq0.false (long' ∙ none)) in
          first_behind c.from_octets-next.result some.0 some.1 holds some.2
    ]

pub returns-then-ne-clause-err : goal.returns-then-ne-clause-err
returns-then-ne-clause-err c =
    let there = (goal.at.returns-then-ne-clause-err c).After-class in
    let next = (goal.at.returns-then-ne-clause-err c).After-from_octets-next in
    λ held front r message place end splits holds number has. (
      number,
      c.from_octets-next.result,
      end,
      read_here next held r message place end splits has,
      first_rule there held r front splits holds,
      λ same. told_other c.class.result c.args.query.now.class c.ne.result c.ne.ensures c.if-ne.true (c.class.ensures ∙ same),
    )

pub returns-then-not-is_under-clause-err : goal.returns-then-not-is_under-clause-err
returns-then-not-is_under-clause-err c =
    let there = (goal.at.returns-then-not-is_under-clause-err c).After-class in
    let next = (goal.at.returns-then-not-is_under-clause-err c).After-from_octets-next in
    let same = sym c.class.ensures ∙ told_equal c.class.result c.args.query.now.class c.ne.result c.ne.ensures c.if-ne.false in
    let refused = c.if-not-is_under.true in
    λ held front r message place end splits holds number has. (
      number,
      c.from_octets-next.result,
      end,
      read_here next held r message place end splits has,
      first_rule there held r front splits holds,
      same,
      λ under. let told = c.is_under.ensures.1 under in cc,
    )

-- what the test for a later SOA says
no_later : (c : Joined-last-eq0-2) (held : List spec.Record) → c.len-last.result - 1 ≡ length held → c.if-last-eq0-2.value ≡ true
    → (held ≡ []) ⊎ (c.from_octets-next.result.rtype ≡ soa_type → ⊥)
no_later c held long' is = elim c.if-last-eq0-2.branch [
  | then-last-eq0-2 w ↦ inl (none_held held (sym long' ∙ w.if-last-eq0-2.true))
  | else-last-eq0-2 w ↦ inr (told_no c.from_octets-next.result.rtype soa_type w.is_soa.result w.is_soa.ensures
      (not_true w.is_soa.result (sym w.value-is ∙ is)))
]

later : (c : Joined-last-eq0-2) → c.if-last-eq0-2.value ≡ false
    → (c.len-last.result - 1 ≡ 0 → ⊥) × (c.from_octets-next.result.rtype ≡ soa_type)
later c is = elim c.if-last-eq0-2.branch [
  | then-last-eq0-2 w ↦ absurd (false≢true (sym is ∙ w.value-is ∙ eq-eqb (c.len-last.result - 1) 0 w.if-last-eq0-2.true))
  | else-last-eq0-2 w ↦ (
    λ none. w.if-last-eq0-2.false none,
    eqb-true c.from_octets-next.result.rtype soa_type (sym w.is_soa.ensures ∙ not_false w.is_soa.result (sym w.value-is ∙ is)),
  )
]

pub record_at-requires : goal.record_at-requires
record_at-requires c = long c.args.records.now c.requires.held c.requires.r c.requires.splits

pub is_same_soa-requires-clause-first : goal.is_same_soa-requires-clause-first
is_same_soa-requires-clause-first c =
    let joined = (goal.at.is_same_soa-requires-clause-first c).Joined-last-eq0-2 in
    let it = c.requires in
    let soa : spec.Record = c.record_at.result in
    let some = (later joined c.if-not-is_soa.false).0 in
    let long' = held_long it.held it.r c.len-last.result c.len-last.ensures.count it.splits in
    let first = first_held it.held it.r soa it.splits (λ none. some (long' ∙ none)) c.record_at.ensures in
    (c.args.query.now.class, first_known c.args.query.now.class it.held soa first it.known, first_is_soa it.held soa it.holds first)

pub is_same_soa-requires-clause-second : goal.is_same_soa-requires-clause-second
is_same_soa-requires-clause-second c =
    let joined = (goal.at.is_same_soa-requires-clause-second c).Joined-last-eq0-2 in
    let next = (goal.at.is_same_soa-requires-clause-second c).After-from_octets-next in
    let r : spec.Record = c.from_octets-next.result in
    let rtype = (later joined c.if-not-is_soa.false).1 in (
      c.args.query.now.class,
      known_record c.args.query.now.class c.octets_at-octets.result.now r (lawful_here next) (data_here next)
          (sym c.class.ensures ∙ told_equal c.class.result c.args.query.now.class c.ne.result c.ne.ensures c.if-ne.false)
          (soa_spellable r rtype) c.are_octets.ensures (octets_here next),
      rtype,
    )

pub is_same_soa-requires-clause-class : goal.is_same_soa-requires-clause-class
is_same_soa-requires-clause-class c =
    let joined = (goal.at.is_same_soa-requires-clause-class c).Joined-last-eq0-2 in
    let it = c.requires in
    let some = (later joined c.if-not-is_soa.false).0 in
    let long' = held_long it.held it.r c.len-last.result c.len-last.ensures.count it.splits in
    let first = first_held it.held it.r c.record_at.result it.splits (λ none. some (long' ∙ none)) c.record_at.ensures in
    let same = sym c.class.ensures ∙ told_equal c.class.result c.args.query.now.class c.ne.result c.ne.ensures c.if-ne.false in
    (first_known c.args.query.now.class it.held c.record_at.result first it.known).sendable.class_is ∙ sym same

pub returns-then-not-is_same_soa-clause-err : goal.returns-then-not-is_same_soa-clause-err
returns-then-not-is_same_soa-clause-err c =
    let there = (goal.at.returns-then-not-is_same_soa-clause-err c).After-class in
    let next = (goal.at.returns-then-not-is_same_soa-clause-err c).After-from_octets-next in
    let joined = (goal.at.returns-then-not-is_same_soa-clause-err c).Joined-last-eq0-2 in
    let r' : spec.Record = c.from_octets-next.result in
    let same = sym c.class.ensures ∙ told_equal c.class.result c.args.query.now.class c.ne.result c.ne.ensures c.if-ne.false in
    let under = c.is_under.ensures.0 c.if-not-is_under.false in
    let soa = later joined c.if-not-is_soa.false in
    let refused = c.if-not-is_same_soa.true in
    λ held front r message place end splits holds number has. (
      number,
      r',
      end,
      read_here next held r message place end splits has,
      first_rule there held r front splits holds,
      same,
      under,
      λ keeps.
          let long' = held_long held r c.len-last.result c.len-last.ensures.count splits in
          let first = first_held held r c.record_at.result splits (λ none. soa.0 (long' ∙ none)) c.record_at.ensures in
          let told = c.is_same_soa.ensures.1 (last_broken held c.record_at.result r' holds first keeps soa.1) in cc,
    )

-- the rule of a later SOA is kept after its test
last_rule : (c : Joined-not-is_soa)
    → ((held : List spec.Record) → c.len-last.result - 1 ≡ length held → c.if-last-eq0-2.value ≡ true
    → (held ≡ []) ⊎ (c.from_octets-next.result.rtype ≡ soa_type → ⊥))
    → (c.if-last-eq0-2.value ≡ false → (c.len-last.result - 1 ≡ 0 → ⊥) × (c.from_octets-next.result.rtype ≡ soa_type))
    → (held : List spec.Record) (r : spec.Record) (front : List spec.Record) → c.args.records.now ≡ held ++ r ∷ []
    → HoldsFront (asked_of c.args.query.now) held c.args.closed front → KeepsLastRule front c.from_octets-next.result
last_rule c no_soa soa held r front splits holds =
    let long' = held_long held r c.len-last.result c.len-last.ensures.count splits in
    elim c.if-not-is_soa.branch [
      | then-not-is_soa w ↦ last_free front c.from_octets-next.result holds (no_soa held long' w.if-not-is_soa.true)
      | else-not-is_soa+else-not-is_same_soa w ↦ (
          let some = (soa w.if-not-is_soa.false).0 in
          let first = first_held held r w.record_at.result splits (λ none. some (long' ∙ none)) w.record_at.ensures in
          last_kept held w.record_at.result c.from_octets-next.result holds first (w.is_same_soa.ensures.0 w.if-not-is_same_soa.false))
    ]

pub returns-then-closed-clause-err : goal.returns-then-closed-clause-err
returns-then-closed-clause-err c =
    let at = goal.at.returns-then-closed-clause-err c in
    let same = sym c.class.ensures ∙ told_equal c.class.result c.args.query.now.class c.ne.result c.ne.ensures c.if-ne.false in
    let under = c.is_under.ensures.0 c.if-not-is_under.false in
    λ held front r message place end splits holds number has. (
      number,
      c.from_octets-next.result,
      end,
      read_here at.After-from_octets-next held r message place end splits has,
      first_rule at.After-class held r front splits holds,
      same,
      under,
      last_rule at.Joined-not-is_soa (no_later at.Joined-last-eq0-2) (later at.Joined-last-eq0-2) held r front splits holds,
      holds_closed holds c.if-closed.true,
    )

pub is_spellable-requires : goal.is_spellable-requires
is_spellable-requires c = data_here (goal.at.is_spellable-requires c).After-from_octets-next

pub returns-then-not-is_spellable-clause-err : goal.returns-then-not-is_spellable-clause-err
returns-then-not-is_spellable-clause-err c =
    let at = goal.at.returns-then-not-is_spellable-clause-err c in
    let same = sym c.class.ensures ∙ told_equal c.class.result c.args.query.now.class c.ne.result c.ne.ensures c.if-ne.false in
    let under = c.is_under.ensures.0 c.if-not-is_under.false in
    let refused = c.if-not-is_spellable.true in
    λ held front r message place end splits holds number has. (
      number,
      c.from_octets-next.result,
      end,
      read_here at.After-from_octets-next held r message place end splits has,
      first_rule at.After-class held r front splits holds,
      same,
      under,
      last_rule at.Joined-not-is_soa (no_later at.Joined-last-eq0-2) (later at.Joined-last-eq0-2) held r front splits holds,
      λ closed. holds_open holds c.if-closed.false closed,
      λ is. let told = c.is_spellable.ensures.1 is in cc,
    )

pub returns-clause-ok : goal.returns-clause-ok
returns-clause-ok c =
    let at = goal.at.returns-clause-ok c in
    let next : spec.Record = c.from_octets-next.result in
    let same = sym c.class.ensures ∙ told_equal c.class.result c.args.query.now.class c.ne.result c.ne.ensures c.if-ne.false in
    let under = c.is_under.ensures.0 c.if-not-is_under.false in
    let spellable = c.is_spellable.ensures.0 c.if-not-is_spellable.false in
    λ held r splits.
    let holds = holds_so_far c.requires held r splits in
    let long' = held_long held r c.len-last.result c.len-last.ensures.count splits in
    let placed : HasRole (asked_of c.args.query.now) held next c.if-not-is_soa.role = elim c.if-not-is_soa.branch [
      | then-not-is_soa w ↦
          inner_role held next c.if-not-is_soa.role w.role-is holds.1
          (first_rule at.After-class held r holds.0 splits holds.1) (no_later at.Joined-last-eq0-2 held long' w.if-not-is_soa.true)
          (record { class = same; under = under; spellable = spellable })
      | else-not-is_soa+else-not-is_same_soa w ↦ (
          let soa = later at.Joined-last-eq0-2 w.if-not-is_soa.false in
          let first = first_held held r w.record_at.result splits (λ none. soa.0 (long' ∙ none)) w.record_at.ensures in
          last_role held w.record_at.result next c.if-not-is_soa.role w.role-is holds.1 first soa.1
          (w.is_same_soa.ensures.0 w.if-not-is_same_soa.false))
    ] in
    subst (λ r. HasRole (asked_of c.args.query.now) held r c.if-not-is_soa.role) (here at.After-from_octets-next held r splits) placed

pub returns-clause-known : goal.returns-clause-known
returns-clause-known c =
    let next = (goal.at.returns-clause-known c).After-from_octets-next in
    let it = c.requires in
    let class : ℕ = c.args.query.now.class in
    let same = sym c.class.ensures ∙ told_equal c.class.result class c.ne.result c.ne.ensures c.if-ne.false in
    let known = known_record class c.octets_at-octets.result.now c.from_octets-next.result (lawful_here next) (data_here next) same
    (c.is_spellable.ensures.0 c.if-not-is_spellable.false) c.are_octets.ensures (octets_here next) in
    let one : IsRecordOf class it.r = subst (λ (r : spec.Record). IsRecordOf class r) (here next it.held it.r it.splits) known in
    subst (AllByRecursion (IsRecordOf class)) (sym it.splits) (all_append (IsRecordOf class) it.held (it.r ∷ []) it.known (one, tt))
