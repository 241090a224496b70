-- Every stream of octets begins with a transfer, or is begun, or is at fault.
use Rattle.std.proofs.Common.{◌≡◌, ◌⊎◌, ℕ, ◌+◌, ◌<◌, ◌≤◌, ◌^◌, zero, suc, Bool, true, List, [], ◌∷◌, ◌++◌, length, refl, sym, ap, ◌∙◌, subst, arith, append_assoc, append-nil, length-append, inl, inr}
use Rattle.std.specs.Int.{to_be_bytes, from_be_bytes, w16}
use Rattle.std.specs.List.{AllByRecursion}
use Rattle.std.proofs.lemmas.Bool.{cases_lt}
use Rattle.std.proofs.lemmas.Nat.{be_bytes_2}
use Rattle.zone_records.specs.Record.{Record}
use Rattle.zone_core.specs.Query.{AxfrQuery}
use Rattle.zone_core.specs.Frames.{frame, frames, IsFramable, IsPartial}
use Rattle.zone_core.specs.Cutting.{joined}
use Rattle.zone_core.specs.Transfer.{AreAnswers, IsAnswer, IsTransfer}
use Rattle.zone_receive.specs.Receiving.{IsOpen, IsClosed, IsBegun, IsMessageFault, HasBadMessage, is_first}
use Rattle.zone_receive.specs.declared.error.ReceiveError.{ReceiveError}
use Rattle.zone_core.proofs.Splits.{two_splits}
use Rattle.zone_core.proofs.Splits.Compared.{same, longer, shorter}
use Rattle.zone_records.proofs.Each.{all_append}
use Rattle.zone_receive.proofs.AnswerGroups.{answers_push, first_of_stream, joined_push}
use Rattle.zone_receive.proofs.FrontFrames.{frames_more}
use Rattle.zone_receive.proofs.LawfulRecords.{closed_not_open}
use Rattle.dns_message.proofs.Numbers.{octet_at}
use Rattle.zone_records.proofs.OctetFronts.{AreOctets, front_of, octets_front, octets_behind}
use Rattle.zone_records.specs.Typed.{HasLawfulData}
use Rattle.zone_receive.proofs.JudgedMessages.{message_judged}
use Rattle.zone_receive.proofs.JudgedMessages.Verdict.{at_fault, answers}

-- what a stream is
abbrev pub BeginsWithTransfer : AxfrQuery → List ℕ → Type 0
BeginsWithTransfer query stream =
    (front rest : List ℕ) × (records : List Record) × (stream ≡ front ++ rest) × IsTransfer query front records

abbrev pub IsOneOfThree : AxfrQuery → List ℕ → Type 0
IsOneOfThree query stream =
    BeginsWithTransfer query stream ⊎ (IsBegun query stream ⊎ ((error : ReceiveError) × HasBadMessage query stream error))

-- what is known of the front of the stream
record Heard (query : AxfrQuery) (stream : List ℕ) (messages : List (List ℕ)) (groups : List (List Record)) (rest : List ℕ) : Type 0 where
  each : AllByRecursion IsFramable messages
  whole : stream ≡ frames messages ++ rest
  answered : AreAnswers query true messages groups
  still_open : IsOpen query (joined groups)
  data_are : AllByRecursion HasLawfulData (joined groups)

-- less than a whole frame is left
begun : (query : AxfrQuery) (stream : List ℕ) (messages : List (List ℕ)) (groups : List (List Record)) (rest : List ℕ)
    → Heard query stream messages groups rest → IsPartial rest → IsBegun query stream
begun query stream messages groups rest heard partial = record {
  messages = messages;
  rest = rest;
  splits = record { each = heard.each; whole = heard.whole; partial = partial };
  groups = groups;
  answers = heard.answered;
  still_open = heard.still_open;
}

-- the next frame is whole
record Next (rest : List ℕ) : Type 0 where
  message : List ℕ
  behind : List ℕ
  fits : IsFramable message
  at : rest ≡ frame message ++ behind

next_of : (high low : ℕ) (octets : List ℕ) → AreOctets (high ∷ low ∷ octets)
    → from_be_bytes w16 (high ∷ low ∷ []) ≤ length octets → Next (high ∷ low ∷ octets)
next_of high low octets each enough =
    let mark : List ℕ = high ∷ low ∷ [] in
    let n : ℕ = from_be_bytes w16 mark in
    let front = front_of octets n enough in
    let first : high < 256 = each.0 in
    let second : low < 256 = each.1.0 in
    let small : n < 2 ^ 16 = omega arith in
    let same : to_be_bytes w16 n ≡ mark = be_bytes_2 mark n refl (octet_at mark (each.0, (each.1.0, tt))) refl in
    let counted : to_be_bytes w16 (length front.front) ≡ mark = ap (to_be_bytes w16) front.long ∙ same in
    record {
      message = front.front;
      behind = front.rest;
      fits = omega (arith, small, front.long);
      at = ap (λ l. mark ++ l) front.at ∙ ap (λ l. l ++ (front.front ++ front.rest)) (sym counted)
          ∙ sym (append_assoc (to_be_bytes w16 (length front.front)) front.front front.rest);
    }

data Left (rest : List ℕ) : Type 0 where
  part : IsPartial rest → Left rest
  more : Next rest → Left rest

left_of : (rest : List ℕ) → AreOctets rest → Left rest
left_of [] each = part tt
left_of (high ∷ []) each = part tt
left_of (high ∷ low ∷ octets) each = elim (cases_lt (length octets) (from_be_bytes w16 (high ∷ low ∷ []))) [
  | inl few ↦ part few
  | inr enough ↦ more (next_of high low octets each enough)
]

frame_long : (message behind : List ℕ) → 2 + length behind ≤ length (frame message ++ behind)
frame_long message behind =
    omega (
      arith,
      length-append (to_be_bytes w16 (length message) ++ message) behind,
      length-append (to_be_bytes w16 (length message)) message,
    )

-- the next message is at fault
bad_next : (query : AxfrQuery) (stream : List ℕ) (messages : List (List ℕ)) (groups : List (List Record)) (rest : List ℕ)
    → Heard query stream messages groups rest → (next : Next rest) (e : ReceiveError)
    → IsMessageFault query (joined groups) (is_first messages) next.message e → HasBadMessage query stream e
bad_next query stream messages groups rest heard next e fault = record {
  messages = messages;
  each = heard.each;
  bad = next.message;
  fits = next.fits;
  behind = next.behind;
  whole = heard.whole ∙ ap (λ l. frames messages ++ l) next.at;
  groups = groups;
  answers = heard.answered;
  still_open = heard.still_open;
  fault = fault;
}

-- the front of the stream and the next message
record Goes (query : AxfrQuery) (stream : List ℕ) (messages : List (List ℕ)) (groups : List (List Record)) (behind : List ℕ) : Type 0 where
  each : AllByRecursion IsFramable messages
  whole : stream ≡ frames messages ++ behind
  answered : AreAnswers query true messages groups

goes_on : (query : AxfrQuery) (stream : List ℕ) (messages : List (List ℕ)) (groups : List (List Record)) (rest : List ℕ)
    → Heard query stream messages groups rest → (next : Next rest) (group : List Record)
    → IsAnswer query (is_first messages) next.message group
    → Goes query stream (messages ++ next.message ∷ []) (groups ++ group ∷ []) next.behind
goes_on query stream messages groups rest heard next group answer =
    let P : Bool → Type 0 = λ first. IsAnswer query first next.message group in
    record {
      each = all_append IsFramable messages (next.message ∷ []) heard.each (next.fits, tt);
      whole = heard.whole ∙ ap (λ l. frames messages ++ l) next.at ∙ frames_more messages next.message next.behind;
      answered = answers_push query true messages groups next.message group heard.answered
          (subst P (sym (first_of_stream messages)) answer);
    }

-- a list that the last group closes ends in it
record EndsIn (groups : List (List Record)) (group : List Record) (records : List Record) (last : Record) : Type 0 where
  last_group : List Record
  splits : group ≡ last_group ++ last ∷ []
  joins : joined groups ++ last_group ≡ records

none_behind : (w group : List Record) → [] ≡ w ++ group → w ≡ []
none_behind [] group is = refl
none_behind (r ∷ w) group is = absurd cc

ends_in : (query : AxfrQuery) (groups : List (List Record)) (group : List Record) → IsOpen query (joined groups)
    → (closed : IsClosed query (joined groups ++ group)) → EndsIn groups group closed.front closed.last
ends_in query groups group still_open closed =
    elim (two_splits (joined groups) group closed.front (closed.last ∷ []) closed.splits) [
      | same s ↦ record { last_group = []; splits = s.back; joins = append-nil (joined groups) ∙ s.front }
      | shorter s ↦ record { last_group = s.y ∷ s.w; splits = s.back; joins = sym s.front }
      | longer s ↦ (
          let behind : [] ≡ s.w ++ group = cc (s.back) in
          let last : closed.last ≡ s.y = cc (s.back) in
          let none = none_behind s.w group behind in
          let is : joined groups ≡ closed.front ++ closed.last ∷ [] = s.front ∙ cc (none, last) in
          let again : IsClosed query (joined groups) = record {
            front = closed.front;
            last = closed.last;
            splits = is;
            transferred = closed.transferred;
            closes = closed.closes;
          } in
          let P : List Record → Type 0 = λ records. IsOpen query records in
          absurd (closed_not_open query (joined groups) [] again (subst P (sym (append-nil (joined groups))) still_open)))
    ]

transfer_of : (query : AxfrQuery) (stream : List ℕ) (messages : List (List ℕ)) (groups : List (List Record)) (group : List Record)
    (behind : List ℕ) → Goes query stream messages (groups ++ group ∷ []) behind → IsOpen query (joined groups)
    → IsClosed query (joined groups ++ group) → BeginsWithTransfer query stream
transfer_of query stream messages groups group behind goes still_open closed =
    let ends = ends_in query groups group still_open closed in (
      frames messages,
      behind,
      closed.front,
      goes.whole,
      record {
        messages = messages;
        each = goes.each;
        whole = refl;
        groups = groups ++ group ∷ [];
        answers = goes.answered;
        last = closed.last;
        front = groups;
        last_group = ends.last_group;
        splits = ap (λ l. groups ++ l ∷ []) ends.splits;
        joins = ends.joins;
        transferred = closed.transferred;
        closed = closed.closes;
      },
    )

heard_more : (query : AxfrQuery) (stream : List ℕ) (messages : List (List ℕ)) (groups : List (List Record)) (group : List Record)
    (behind : List ℕ) → Goes query stream messages (groups ++ group ∷ []) behind → IsOpen query (joined groups ++ group)
    → AllByRecursion HasLawfulData (joined groups) → AllByRecursion HasLawfulData group
    → Heard query stream messages (groups ++ group ∷ []) behind
heard_more query stream messages groups group behind goes still_open data' more_data =
    let P : List Record → Type 0 = λ records. IsOpen query records in
    let Q : List Record → Type 0 = λ records. AllByRecursion HasLawfulData records in
    let is = sym (joined_push groups group) in
    record {
      each = goes.each;
      whole = goes.whole;
      answered = goes.answered;
      still_open = subst P is still_open;
      data_are = subst Q is (all_append HasLawfulData (joined groups) group data' more_data);
    }

judged_rest : (query : AxfrQuery) (stream : List ℕ) (fuel : ℕ) (messages : List (List ℕ)) (groups : List (List Record)) (rest : List ℕ)
    → length rest < fuel → AreOctets rest → Heard query stream messages groups rest → IsOneOfThree query stream
judged_rest query stream zero messages groups rest few each heard = absurd (omega arith)
judged_rest query stream (suc fuel) messages groups rest few each heard = elim (left_of rest each) [
  | part partial ↦ inr (inl (begun query stream messages groups rest heard partial))
  | more next ↦ (
      let framed = octets_front rest (frame next.message) next.behind next.at each in
      let octets = octets_behind (frame next.message) (to_be_bytes w16 (length next.message)) next.message refl framed in
      let behind = octets_behind rest (frame next.message) next.behind next.at each in
      elim (message_judged query (joined groups) (is_first messages) next.message octets heard.data_are heard.still_open) [
        | at_fault e fault ↦ inr (inr (e, bad_next query stream messages groups rest heard next e fault))
        | answers group answer lawful data' ↦ (
            let goes = goes_on query stream messages groups rest heard next group answer in
            elim lawful [
              | inl still_open ↦ judged_rest query stream fuel (messages ++ next.message ∷ []) (groups ++ group ∷ []) next.behind
                  (omega (arith, ap length next.at, frame_long next.message next.behind)) behind
                  (heard_more query stream (messages ++ next.message ∷ []) groups group next.behind goes still_open heard.data_are data')
              | inr closed ↦ inl (transfer_of query stream (messages ++ next.message ∷ []) groups group next.behind goes heard.still_open closed)
            ])
      ])
]

-- Every stream is one of three.
pub one_of_three : (query : AxfrQuery) (stream : List ℕ) → AreOctets stream → IsOneOfThree query stream
one_of_three query stream each =
    judged_rest query stream (suc (length stream)) [] [] stream (omega arith) each
    (record { each = tt; whole = refl; answered = tt; still_open = tt; data_are = tt })
