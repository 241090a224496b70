-- Whether a message has a record, or a question, at a place is decided.
use Rattle.std.proofs.Common.{◌≡◌, ◌+◌, ◌<◌, ℕ, w32, List, length, take, drop, map, Some, None, refl, sym, ◌∙◌, ap, subst, arith, inl, inr}
use Rattle.std.specs.Prelude.{Option}
use Rattle.std.specs.Int.{from_be_bytes}
use Rattle.std.proofs.lemmas.Bool.{cases_lt}
use Rattle.dns_label.specs.Octets.{AreOctets}
use Rattle.dns_label.proofs.Spelling.{reads_one}
use Rattle.dns_rdata.specs.Fields.{Kind, kind_of, kinds_of}
use Rattle.dns_rdata.specs.Data as data_specs
use Rattle.dns_rdata.specs.Data.{Data}
use Rattle.dns_rdata.specs.Data.Data.{typed as in_fields, unknown_data}
use Rattle.dns_octets.specs.Numbers.{number_at}
use Rattle.dns_header.specs.Head.{Head, ReadsHead, ReadsWhole}
use Rattle.dns_header.specs.Question.{Question, ReadsQuestion}
use Rattle.dns_header.specs.Record.{RecordOf}
use Rattle.dns_header.proofs.Heads.{no_head, cut_data, heads_one}
use Rattle.dns_builder.specs.Decision.{Decision}
use Rattle.dns_builder.specs.DecidedNames.{Named, decide-named}
use Rattle.dns_message.specs.Record.{Record, ReadsRecord}
use Rattle.dns_message.specs.Held.{TakesRecord, record_of}
use Rattle.dns_message.proofs.HeldRecords.{taken_read, read_taken}
pub use Rattle.dns_message.proofs.DecidedFields.{Decided}
use Rattle.dns_message.proofs.DecidedFields.{RowAt, row_decided}

-- a record header whose data is within the message
record WholeAt (message : List ℕ) (place : ℕ) : Type 0 where
  head : Head (List (List ℕ))
  data_place : ℕ
  next : ℕ
  whole : ReadsWhole message place head data_place next

whole_by_head : (message : List ℕ) (place : ℕ) (head : Head (List (List ℕ))) (data_place : ℕ) → ReadsHead message place head data_place
    → Decided (WholeAt message place)
whole_by_head message place head data_place reads = elim (cases_lt (length message) (data_place + head.data_len)) [
  | inl short ↦ inr (λ at. cut_data reads short at.head at.data_place at.next at.whole)
  | inr room ↦ inl (record {
    head = head;
    data_place = data_place;
    next = data_place + head.data_len;
    whole = record { reads = reads; ends = refl; within = room };
  })
]

whole_by_name : (message : List ℕ) (place : ℕ) → Decision (Named message place) → Decided (WholeAt message place)
whole_by_name message place (Decision.no none) = inr (λ at.
    none (record { name = at.head.owner; next = at.whole.reads.behind; reads = at.whole.reads.owner }))
whole_by_name message place (Decision.yes n) = elim (cases_lt (length message) (n.next + 10)) [
  | inl short ↦ inr (λ at. no_head n.reads short at.head at.data_place at.whole.reads)
  | inr room ↦ (
      let head : Head (List (List ℕ)) = record {
        owner = n.name;
        rtype = number_at message n.next;
        class = number_at message (n.next + 2);
        ttl = from_be_bytes w32 (take 4 (drop (n.next + 4) message));
        data_len = number_at message (n.next + 8);
      } in
      whole_by_head message place head (n.next + 10) (record {
        behind = n.next;
        owner = n.reads;
        whole = room;
        rtype = refl;
        class = refl;
        ttl = refl;
        data_len = refl;
        ends = refl;
      }))
]

-- data of a type, up to the end
record DataAt (message : List ℕ) (place rtype : ℕ) : Type 0 where
  rdata : Data
  reads : data_specs.ReadsData message place rtype rdata

too_long : (message : List ℕ) (place rtype : ℕ) → kinds_of rtype ≡ None → 65535 < length (drop place message) → (rdata : Data)
    → data_specs.ReadsData message place rtype rdata → ⊥
too_long message place rtype none long (in_fields number row) reads =
    let no : Some (map kind_of row) ≡ None = sym reads.1.is_row.kinds ∙ none in cc
too_long message place rtype none long (unknown_data unknown) reads =
    omega (arith, long, reads.1.short, ap (length {A = ℕ}) reads.1.octets)

no_row : (message : List ℕ) (place rtype : ℕ) (kinds : List Kind) → kinds_of rtype ≡ Some kinds → (RowAt rtype message place → ⊥)
    → (rdata : Data) → data_specs.ReadsData message place rtype rdata → ⊥
no_row message place rtype kinds is none (in_fields number row) reads = none (record { row = row; reads = reads.1 })
no_row message place rtype kinds is none (unknown_data unknown) reads = let no : Some kinds ≡ None = sym is ∙ reads.0 in cc

data_by_kinds : (message : List ℕ) (place rtype : ℕ) (kinds : Option (List Kind)) → kinds_of rtype ≡ kinds
    → Decided (DataAt message place rtype)
data_by_kinds message place rtype None none = elim (cases_lt 65535 (length (drop place message))) [
  | inl long ↦ inr (λ at. too_long message place rtype none long at.rdata at.reads)
  | inr short ↦ inl (record {
    rdata = unknown_data (record { number = rtype; octets = drop place message });
    reads = (none, record { of_type = refl; octets = refl; short = short });
  })
]
data_by_kinds message place rtype (Some kinds) is = elim (row_decided rtype message place) [
  | inl at ↦ inl (record { rdata = in_fields rtype at.row; reads = (refl, at.reads) })
  | inr none ↦ inr (λ at. no_row message place rtype kinds is none at.rdata at.reads)
]

data_decided : (message : List ℕ) (place rtype : ℕ) → Decided (DataAt message place rtype)
data_decided message place rtype = data_by_kinds message place rtype (kinds_of rtype) refl

-- a record at a place
pub record HasSomeRecord (message : List ℕ) (place : ℕ) : Type 0 where
  pub r : Record
  pub next : ℕ
  pub has : ReadsRecord message place r next

record_by_data : (message : List ℕ) (place : ℕ) → AreOctets message → (at : WholeAt message place)
    → Decided (DataAt (take (at.data_place + at.head.data_len) message) at.data_place at.head.rtype) → Decided (HasSomeRecord message place)
record_by_data message place each at (inl found) =
    let rr : RecordOf (List (List ℕ)) Data =
    record { owner = at.head.owner; class = at.head.class; ttl = at.head.ttl; rdata = found.rdata } in
    let taken : TakesRecord message place rr at.next = record {
      head = at.head;
      data_place = at.data_place;
      whole = at.whole;
      held = record {
        within = omega (arith, at.whole.ends, at.whole.within);
        owner = refl;
        class = refl;
        ttl = refl;
        rdata = found.reads;
      };
    } in
    inl (record { r = record_of rr; next = at.next; has = taken_read rr each taken })
record_by_data message place each at (inr none) = inr (λ some.
    let it = read_taken some.r some.has in
    let one = heads_one it.taken.whole.reads at.whole.reads in
    let P : Head (List (List ℕ)) → ℕ → Type 0 =
    λ head place. data_specs.ReadsData (take (place + head.data_len) message) place head.rtype it.rr.rdata in
    let reads = subst (λ head. P head at.data_place) one.0 (subst (P it.taken.head) one.1 it.taken.held.rdata) in
    none (record { rdata = it.rr.rdata; reads = reads }))

record_by_whole : (message : List ℕ) (place : ℕ) → AreOctets message → Decided (WholeAt message place)
    → Decided (HasSomeRecord message place)
record_by_whole message place each (inl at) =
    record_by_data message place each at
    (data_decided (take (at.data_place + at.head.data_len) message) at.data_place at.head.rtype)
record_by_whole message place each (inr none) = inr (λ some.
    let it = read_taken some.r some.has in
    none (record { head = it.taken.head; data_place = it.taken.data_place; next = some.next; whole = it.taken.whole }))

pub record_decided : (message : List ℕ) (place : ℕ) → AreOctets message → Decided (HasSomeRecord message place)
record_decided message place each = record_by_whole message place each (whole_by_name message place (decide-named message place))

-- a question at a place
pub record HasSomeQuestion (message : List ℕ) (place : ℕ) : Type 0 where
  pub q : Question
  pub next : ℕ
  pub has : ReadsQuestion message place q next

question_by_name : (message : List ℕ) (place : ℕ) → Decision (Named message place) → Decided (HasSomeQuestion message place)
question_by_name message place (Decision.no none) = inr (λ some.
    none (record { name = some.q.name; next = some.has.behind; reads = some.has.name }))
question_by_name message place (Decision.yes n) = elim (cases_lt (length message) (n.next + 4)) [
  | inl short ↦ inr (λ some. let one = reads_one n.reads some.has.name in omega (arith, short, one.1, some.has.whole))
  | inr room ↦ inl (record {
    q = record { name = n.name; qtype = number_at message n.next; qclass = number_at message (n.next + 2) };
    next = n.next + 4;
    has = record { behind = n.next; name = n.reads; whole = room; qtype = refl; qclass = refl; ends = refl };
  })
]

pub question_decided : (message : List ℕ) (place : ℕ) → Decided (HasSomeQuestion message place)
question_decided message place = question_by_name message place (decide-named message place)

-- a place has at most one question
pub question_one : {message : List ℕ} {place : ℕ} (a b : HasSomeQuestion message place) → (a.q ≡ b.q) × (a.next ≡ b.next)
question_one {message} a b =
    let one = reads_one a.has.name b.has.name in
    let qtype : a.q.qtype ≡ b.q.qtype = a.has.qtype ∙ ap (number_at message) one.1 ∙ sym b.has.qtype in
    let qclass : a.q.qclass ≡ b.q.qclass = a.has.qclass ∙ ap (λ n. number_at message (n + 2)) one.1 ∙ sym b.has.qclass in
    let same : a.q ≡ b.q = λ i. record { name = one.0 i; qtype = qtype i; qclass = qclass i } in
    (same, a.has.ends ∙ ap (λ n. n + 4) one.1 ∙ sym b.has.ends)
