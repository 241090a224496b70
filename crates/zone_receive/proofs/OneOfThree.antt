-- A stream has a beginning that is a transfer, or is at fault, or is begun: at most one of these.
use Rattle.std.proofs.Common.{◌≡◌, ℕ, Bool, true, List, [], ◌∷◌, ◌++◌, refl, sym, ap, ◌∙◌, subst, append_assoc, append-nil, inl, inr}
use Rattle.std.specs.List.{AllByRecursion}
use Rattle.zone_records.specs.Record.{Record}
use Rattle.zone_core.specs.Query.{AxfrQuery}
use Rattle.zone_core.specs.Frames.{frame, frames, IsFramable}
use Rattle.zone_core.specs.Cutting.{joined}
use Rattle.zone_core.specs.Transfer.{IsAnswer, AreAnswers, IsTransferred, IsTransfer}
use Rattle.zone_receive.specs.Receiving.{IsOpen, IsClosed, IsBegun, HasBadMessage, is_first}
use Rattle.zone_receive.specs.declared.error.ReceiveError.{ReceiveError}
use Rattle.zone_core.proofs.Framing.{same_message, whole_is_not_partial}
use Rattle.zone_receive.proofs.FrontFrames.{two_fronts}
use Rattle.zone_receive.proofs.FrontFrames.ComparedFrames.{same_frames, more_frames, fewer_frames}
use Rattle.zone_core.proofs.Splits.{two_splits, nil_append_cons}
use Rattle.zone_core.proofs.Splits.Compared.{same, longer, shorter}
use Rattle.zone_receive.proofs.AnswerGroups.{groups_past, first_of_stream, joined_past}
use Rattle.zone_receive.proofs.LawfulRecords.{IsLawful, closed_not_open, closed_no_front}
use Rattle.zone_receive.proofs.MessageFaults.{MessageBroken, message_kind, answer_not_broken}
use Rattle.zone_receive.proofs.OneMessageFault.{message_fault_one}
use Rattle.zone_core.proofs.OneTransfer.{answers_one, transferred_and_last}

-- The messages at the front of the stream are answers that carry groups of records, and `rest` follows them.
pub record Carries (query : AxfrQuery) (stream : List ℕ) (messages : List (List ℕ)) (groups : List (List Record)) (rest : List ℕ)
    : Type 0 where
  pub each : AllByRecursion IsFramable messages
  pub whole : stream ≡ frames messages ++ rest
  pub answers : AreAnswers query true messages groups

-- the groups of the same messages are the same
pub same_groups : (query : AxfrQuery) (messages others : List (List ℕ)) (groups more : List (List Record)) → messages ≡ others
    → AreAnswers query true messages groups → AreAnswers query true others more → groups ≡ more
same_groups query messages others groups more is answers answers' =
    let P : List (List ℕ) → Type 0 = λ messages. AreAnswers query true messages more in
    answers_one query true messages groups more answers (subst P (sym is) answers')

-- The answers continue others: the next message is one of them, with the group after those of the others.
pub record CarriesPast (query : AxfrQuery) (others : List (List ℕ)) (before groups : List (List Record)) (next : List ℕ) : Type 0 where
  pub group : List Record
  pub after : List (List Record)
  pub are : groups ≡ before ++ group ∷ after
  pub answer : IsAnswer query (is_first others) next group
  pub records : joined groups ≡ joined before ++ (group ++ joined after)

pub carries_past : (query : AxfrQuery) (messages others : List (List ℕ)) (groups before : List (List Record)) (next : List ℕ)
    (behind : List (List ℕ)) → messages ≡ others ++ next ∷ behind → AreAnswers query true messages groups
    → AreAnswers query true others before → CarriesPast query others before groups next
carries_past query messages others groups before next behind is answers answers' =
    let P : List (List ℕ) → Type 0 = λ messages. AreAnswers query true messages groups in
    let past = groups_past query true others next behind groups (subst P is answers) in
    let one = same_groups query others others past.before before refl past.answers answers' in
    let Q : Bool → Type 0 = λ first. IsAnswer query first next past.group in
    record {
      group = past.group;
      after = past.after;
      are = past.are ∙ ap (λ l. l ++ past.group ∷ past.after) one;
      answer = subst Q (first_of_stream others) past.answer;
      records = ap joined past.are ∙ joined_past past.before past.group past.after
          ∙ ap (λ l. joined l ++ (past.group ++ joined past.after)) one;
    }

-- what a transfer at the front of a stream carries
carried : (query : AxfrQuery) (stream front rest : List ℕ) (records : List Record) → stream ≡ front ++ rest
    → (transfer : IsTransfer query front records) → Carries query stream transfer.messages transfer.groups rest
carried query stream front rest records is transfer = record {
  each = transfer.each;
  whole = is ∙ ap (λ l. l ++ rest) transfer.whole;
  answers = transfer.answers;
}

transfer_closed : (query : AxfrQuery) (stream : List ℕ) (records : List Record) (transfer : IsTransfer query stream records)
    → IsClosed query (joined transfer.groups)
transfer_closed query stream records transfer = record {
  front = records;
  last = transfer.last;
  splits = transferred_and_last query stream records transfer;
  transferred = transfer.transferred;
  closes = transfer.closed;
}

-- no messages without a last SOA continue a transfer
closed_past : (query : AxfrQuery) (others : List (List ℕ)) (before groups : List (List Record)) (next : List ℕ)
    → CarriesPast query others before groups next → IsClosed query (joined before) → IsOpen query (joined groups) → ⊥
closed_past query others before groups next past closed open_ =
    let P : List Record → Type 0 = λ records. IsOpen query records in
    closed_not_open query (joined before) (past.group ++ joined past.after) closed (subst P past.records open_)

closed_same : (query : AxfrQuery) (groups more : List (List Record)) → groups ≡ more → IsClosed query (joined groups)
    → IsOpen query (joined more) → ⊥
closed_same query groups more is closed open_ =
    let P : List Record → Type 0 = λ records. IsOpen query records in
    closed_not_open query (joined groups) [] closed (subst P (sym (append-nil (joined groups) ∙ ap joined is)) open_)

-- a bad message is not an answer of those that follow
bad_past : (query : AxfrQuery) (stream : List ℕ) (error : ReceiveError) (bad : HasBadMessage query stream error)
    (groups : List (List Record)) (next : List ℕ) (more : List ℕ) → IsFramable next → frame bad.bad ++ bad.behind ≡ frame next ++ more
    → CarriesPast query bad.messages bad.groups groups next → IsLawful query (joined groups) → ⊥
bad_past query stream error bad groups next more fits at past lawful =
    let one = same_message bad.bad next bad.behind more bad.fits fits at in
    let P : List ℕ → Type 0 = λ message. IsAnswer query (is_first bad.messages) message past.group in
    let Q : List Record → Type 0 = λ records. IsLawful query records in
    answer_not_broken query (joined bad.groups) (is_first bad.messages) bad.bad error past.group (joined past.after)
    (subst P (sym one.0) past.answer) (subst Q past.records lawful)
    (message_kind query (joined bad.groups) (is_first bad.messages) bad.bad error bad.fault)

-- a stream with a transfer at its front is not at fault
pub transfer_not_bad : (query : AxfrQuery) (stream front rest : List ℕ) (records : List Record) (error : ReceiveError) → stream ≡ front ++ rest
    → IsTransfer query front records → HasBadMessage query stream error → ⊥
transfer_not_bad query stream front rest records error is transfer bad =
    let carries = carried query stream front rest records is transfer in
    let closed = transfer_closed query front records transfer in
    elim (two_fronts transfer.messages bad.messages rest (frame bad.bad ++ bad.behind) transfer.each bad.each (sym carries.whole ∙ bad.whole)) [
      | same_frames s ↦ closed_same query transfer.groups bad.groups
          (same_groups query transfer.messages bad.messages transfer.groups bad.groups s.same transfer.answers bad.answers) closed bad.still_open
      | more_frames s ↦ bad_past query stream error bad transfer.groups s.next (frames s.behind ++ rest) s.fits s.back
          (carries_past query transfer.messages bad.messages transfer.groups bad.groups s.next s.behind s.front transfer.answers bad.answers) (inr closed)
      | fewer_frames s ↦ closed_past query transfer.messages transfer.groups bad.groups s.next
          (carries_past query bad.messages transfer.messages bad.groups transfer.groups s.next s.behind s.front bad.answers transfer.answers)
          closed bad.still_open
    ]

-- and is not only begun
pub transfer_not_begun : (query : AxfrQuery) (stream front rest : List ℕ) (records : List Record) → stream ≡ front ++ rest
    → IsTransfer query front records → IsBegun query stream → ⊥
transfer_not_begun query stream front rest records is transfer begun =
    let carries = carried query stream front rest records is transfer in
    let closed = transfer_closed query front records transfer in
    elim (two_fronts transfer.messages begun.messages rest begun.rest transfer.each begun.splits.each (sym carries.whole ∙ begun.splits.whole)) [
      | same_frames s ↦ closed_same query transfer.groups begun.groups
          (same_groups query transfer.messages begun.messages transfer.groups begun.groups s.same transfer.answers begun.answers) closed begun.still_open
      | more_frames s ↦ whole_is_not_partial begun.rest s.next (frames s.behind ++ rest) begun.splits.partial s.fits s.back
      | fewer_frames s ↦ closed_past query transfer.messages transfer.groups begun.groups s.next
          (carries_past query begun.messages transfer.messages begun.groups transfer.groups s.next s.behind s.front begun.answers transfer.answers)
          closed begun.still_open
    ]

-- a stream that is begun is not at fault
pub begun_not_bad : (query : AxfrQuery) (stream : List ℕ) (error : ReceiveError) → IsBegun query stream → HasBadMessage query stream error → ⊥
begun_not_bad query stream error begun bad =
    elim (two_fronts begun.messages bad.messages begun.rest (frame bad.bad ++ bad.behind) begun.splits.each bad.each (sym begun.splits.whole ∙ bad.whole)) [
      | same_frames s ↦ whole_is_not_partial begun.rest bad.bad bad.behind begun.splits.partial bad.fits s.back
      | more_frames s ↦ bad_past query stream error bad begun.groups s.next (frames s.behind ++ begun.rest) s.fits s.back
          (carries_past query begun.messages bad.messages begun.groups bad.groups s.next s.behind s.front begun.answers bad.answers)
          (inl begun.still_open)
      | fewer_frames s ↦ whole_is_not_partial begun.rest s.next (frames s.behind ++ (frame bad.bad ++ bad.behind)) begun.splits.partial s.fits s.back
    ]

-- a stream has one fault
pub bad_one : (query : AxfrQuery) (stream : List ℕ) (error other : ReceiveError) → HasBadMessage query stream error
    → HasBadMessage query stream other → error ≡ other
bad_one query stream error other a b =
    elim (two_fronts a.messages b.messages (frame a.bad ++ a.behind) (frame b.bad ++ b.behind) a.each b.each (sym a.whole ∙ b.whole)) [
      | same_frames s ↦ (
          let groups = same_groups query a.messages b.messages a.groups b.groups s.same a.answers b.answers in
          let one = same_message a.bad b.bad a.behind b.behind a.fits b.fits s.back in
          let kind = message_kind query (joined a.groups) (is_first a.messages) a.bad error a.fault in
          let kind' = message_kind query (joined b.groups) (is_first b.messages) b.bad other b.fault in
          let P : List (List Record) → Type 0 = λ groups. MessageBroken query (joined groups) (is_first b.messages) b.bad other in
          let Q : List (List ℕ) → Type 0 = λ messages. MessageBroken query (joined a.groups) (is_first messages) b.bad other in
          let R : List ℕ → Type 0 = λ bad. MessageBroken query (joined a.groups) (is_first a.messages) bad other in
          message_fault_one query (joined a.groups) (is_first a.messages) a.bad error other kind
          (subst R (sym one.0) (subst Q (sym s.same) (subst P (sym groups) kind'))))
      | more_frames s ↦ absurd (bad_past query stream other b a.groups s.next (frames s.behind ++ (frame a.bad ++ a.behind)) s.fits s.back
          (carries_past query a.messages b.messages a.groups b.groups s.next s.behind s.front a.answers b.answers) (inl a.still_open))
      | fewer_frames s ↦ absurd (bad_past query stream error a b.groups s.next (frames s.behind ++ (frame b.bad ++ b.behind)) s.fits s.back
          (carries_past query b.messages a.messages b.groups a.groups s.next s.behind s.front b.answers a.answers) (inl b.still_open))
    ]

-- No transfer continues another: it would have the last SOA of the other in it.
no_transfer_past : (query : AxfrQuery) (stream : List ℕ) (records : List Record) (transfer : IsTransfer query stream records)
    (before : List (List Record)) (group : List Record) (after : List (List Record)) → transfer.groups ≡ before ++ group ∷ after
    → IsClosed query (joined before) → ⊥
no_transfer_past query stream records transfer before group after are closed =
    let last : List Record = transfer.last_group ++ transfer.last ∷ [] in
    let P : List Record → Type 0 = λ records. IsTransferred query records in
    elim (two_splits before (group ∷ after) transfer.front (last ∷ []) (sym are ∙ transfer.splits)) [
      | same s ↦ (
          let is : records ≡ joined before ++ transfer.last_group =
          sym transfer.joins ∙ ap (λ l. joined l ++ transfer.last_group) (sym s.front) in
          closed_no_front query (joined before) transfer.last_group closed (subst P is transfer.transferred))
      | longer s ↦ (
          let none : [] ≡ s.w ++ group ∷ after = cc (s.back) in
          nil_append_cons s.w after group none)
      | shorter s ↦ (
          let more : List Record = (s.y ++ joined s.w) ++ transfer.last_group in
          let is : records ≡ joined before ++ more =
          sym transfer.joins ∙ ap (λ l. joined l ++ transfer.last_group) s.front
          ∙ ap (λ l. l ++ transfer.last_group) (joined_past before s.y s.w)
          ∙ append_assoc (joined before) (s.y ++ joined s.w) transfer.last_group in
          closed_no_front query (joined before) more closed (subst P is transfer.transferred))
    ]

past_transfer : (query : AxfrQuery) (stream other : List ℕ) (records others : List Record)
    (transfer : IsTransfer query stream records) (short : IsTransfer query other others)
    (next : List ℕ) (behind : List (List ℕ)) → transfer.messages ≡ short.messages ++ next ∷ behind → ⊥
past_transfer query stream other records others transfer short next behind is =
    let past = carries_past query transfer.messages short.messages transfer.groups short.groups next behind is transfer.answers short.answers in
    no_transfer_past query stream records transfer short.groups past.group past.after past.are (transfer_closed query other others short)

-- a stream has one beginning that is a transfer
pub transfer_beginning_one : (query : AxfrQuery) (stream front rest front' rest' : List ℕ) (records others : List Record)
    → stream ≡ front ++ rest → stream ≡ front' ++ rest' → IsTransfer query front records
    → IsTransfer query front' others → front ≡ front'
transfer_beginning_one query stream front rest front' rest' records others is is' a b =
    let carries = carried query stream front rest records is a in
    let carries' = carried query stream front' rest' others is' b in
    elim (two_fronts a.messages b.messages rest rest' a.each b.each (sym carries.whole ∙ carries'.whole)) [
      | same_frames s ↦ (a.whole ∙ ap frames s.same ∙ sym b.whole)
      | more_frames s ↦ absurd (past_transfer query front front' records others a b s.next s.behind s.front)
      | fewer_frames s ↦ absurd (past_transfer query front' front others records b a s.next s.behind s.front)
    ]
