-- A frame is judged after those before it.
use Rattle.std.proofs.Common.{◌≡◌, ℕ, Bool, true, false, List, [], ◌∷◌, ◌++◌, drop, refl, sym, ap, ◌∙◌, subst, append_assoc, append-nil}
use Rattle.std.proofs.lemmas.List.{same_from_push}
use Rattle.std.specs.Prelude.{Result, Ok, Err, IfOk, IfErr, OnOk}
use Rattle.std.specs.Bool.{OnTrue, OnFalse}
use Rattle.std.specs.List.{AllByRecursion, push}
use Rattle.zone_records.specs.Record.{Record}
use Rattle.zone_records.specs.Records.{IsRecordOf}
use Rattle.zone_core.specs.Query.{AxfrQuery}
use Rattle.zone_core.specs.Frames.{frame, frames, IsFramable, IsPartial}
use Rattle.zone_core.specs.Cutting.{joined}
use Rattle.zone_core.specs.Transfer.{IsAnswer, AreAnswers, IsTransferred, ClosesTransfer}
use Rattle.zone_receive.specs.Receiving.{is_first, Heard, IsHeard, IsOpen, IsClosed, IsMessageFault, HasBadMessage, IsStreamFault, stage_of}
use Rattle.zone_receive.specs.Receiving.Stage.{Begun}
use Rattle.zone_receive.specs.FrameBuffer.{BreaksRule, EndsTransfer, GoesOn, HoldsFront, IsFaultOr, IsFrame, TakesMessage, heard_by, stage_where}
use Rattle.zone_receive.specs.FrameBuffer.HoldsFront.{begun, ended}
use Rattle.zone_receive.specs.declared.frame_buffer.FrameBuffer.{FrameBuffer}
use Rattle.zone_core.specs.declared.query_error.QueryError.{QueryError}
use Rattle.zone_receive.specs.declared.error.ReceiveError.{ReceiveError}
use Rattle.zone_receive.specs.declared.error.ReceiveError.TheVariants as receive_error
use Rattle.zone_records.proofs.Each.{all_append}
use Rattle.zone_receive.proofs.LawfulRecords.{closed_not_open}
use Rattle.zone_core.proofs.Framing.{frames_push}
use Rattle.zone_receive.proofs.AnswerGroups.{answers_push, first_of_stream, joined_push}

-- the message of a frame that is in the octets alone
pub framed_message : (octets : List ℕ) (framed : IsFrame octets) → drop 2 octets ≡ framed.message
framed_message octets framed = ap (drop 2) framed.whole

pub framed_alone : (open_frame octets : List ℕ) (framed : IsFrame (open_frame ++ octets)) → open_frame ≡ [] → drop 2 octets ≡ framed.message
framed_alone open_frame octets framed none = ap (λ l. drop 2 (l ++ octets)) (sym none) ∙ framed_message (open_frame ++ octets) framed

-- whether the message is the first
first_by : (messages : List (List ℕ)) (first : Bool) → stage_where first ≡ stage_of messages → first ≡ is_first messages
first_by [] true is = refl
first_by [] false is = absurd cc
first_by (message ∷ messages) true is = absurd cc
first_by (message ∷ messages) false is = refl

stage_push : (messages : List (List ℕ)) (message : List ℕ) → Begun ≡ stage_of (push messages message)
stage_push [] message = refl
stage_push (other ∷ messages) message = refl

-- The stream has one more message.
record NextHeard (messages : List (List ℕ)) (message stream : List ℕ) : Type 0 where
  each : AllByRecursion IsFramable (push messages message)
  whole : stream ≡ frames (push messages message)

next_heard : {heard : Heard} (stream octets : List ℕ) (is : IsHeard heard stream) (framed : IsFrame (heard.open_frame ++ octets))
    → NextHeard is.messages framed.message (stream ++ octets)
next_heard {heard} stream octets is framed = record {
  each = all_append IsFramable is.messages (framed.message ∷ []) is.splits.each (framed.fits, tt);
  whole = ap (λ l. l ++ octets) is.splits.whole ∙ append_assoc (frames is.messages) heard.open_frame octets
      ∙ ap (λ l. frames is.messages ++ l) framed.whole ∙ frames_push is.messages framed.message;
}

next_answers : (buffer : FrameBuffer) (query : AxfrQuery) (stream : List ℕ) (is : IsHeard (heard_by buffer query) stream) (message : List ℕ)
    (group : List Record) → IsAnswer query buffer.is_first message group
    → AreAnswers query true (push is.messages message) (push is.groups group)
next_answers buffer query stream is message group answer =
    let P : Bool → Type 0 = λ first. IsAnswer query first message group in
    answers_push query true is.messages is.groups message group is.answers
    (subst P (first_by is.messages buffer.is_first is.stage ∙ sym (first_of_stream is.messages)) answer)

-- what holds before the last SOA
record StandsOpen (query : AxfrQuery) (held front : List Record) : Type 0 where
  same : front ≡ held
  still : IsOpen query held

holds_open : {query : AxfrQuery} {held front : List Record} {closed : Bool} → HoldsFront query held closed front → closed ≡ false
    → StandsOpen query held front
holds_open (begun still) is = record { same = refl; still = still }
holds_open (ended last all closes) is = absurd cc

-- the message is judged, and the transfer goes on
pub judged_on : (old new : FrameBuffer) (query : AxfrQuery) (octets : List ℕ) (framed : IsFrame (old.open_frame.items ++ octets))
    → new.open_frame.items ≡ [] → new.is_first ≡ false → TakesMessage query old.records old.is_first framed.message new.records false
    → AllByRecursion (IsRecordOf query.class) new.records → GoesOn old octets new query
judged_on old new query octets framed none first takes known = record {
  heard = λ stream is.
      let next = next_heard stream octets is framed in
      let open' = holds_open takes.holds refl in
      let messages : List (List ℕ) = push is.messages framed.message in
      record {
        messages = messages;
        splits = record {
          each = next.each;
          whole = next.whole ∙ sym (append-nil (frames messages)) ∙ ap (λ l. frames messages ++ l) (sym none);
          partial = subst IsPartial (sym none) tt;
        };
        groups = push is.groups takes.group;
        answers = next_answers old query stream is framed.message takes.group takes.answer;
        joins = joined_push is.groups takes.group ∙ ap (λ l. l ++ takes.group) is.joins ∙ open'.same;
        still_open = open'.still;
        stage = ap stage_where first ∙ stage_push is.messages framed.message;
      };
  known = known;
}

-- what holds after the last SOA
record StandsClosed (query : AxfrQuery) (held front : List Record) : Type 0 where
  last : Record
  same : front ≡ push held last
  transferred : IsTransferred query held
  closes : ClosesTransfer held last

holds_closed : {query : AxfrQuery} {held front : List Record} {closed : Bool} → HoldsFront query held closed front → closed ≡ true
    → StandsClosed query held front
holds_closed (begun still) is = absurd cc
holds_closed (ended last all closes) is = record { last = last; same = refl; transferred = all; closes = closes }

-- the last record of a list that isn't empty
record Ended (group : List Record) : Type 0 where
  front : List Record
  last : Record
  is : group ≡ push front last

ended_by : (r : Record) (group : List Record) → Ended (r ∷ group)
ended_by r [] = record { front = []; last = r; is = refl }
ended_by r (next ∷ group) =
    let rest = ended_by next group in record { front = r ∷ rest.front; last = rest.last; is = ap (λ l. r ∷ l) rest.is }

-- the last message has the last SOA
record LastGroup (held old group : List Record) (last : Record) : Type 0 where
  front : List Record
  group_is : group ≡ push front last
  joins : old ++ front ≡ held

last_group : (query : AxfrQuery) (held old group : List Record) (last : Record) → IsOpen query old → old ++ group ≡ push held last
    → IsTransferred query held → ClosesTransfer held last → LastGroup held old group last
last_group query held old [] last still same all closes =
    let closed : IsClosed query (push held last) = record { front = held; last = last; splits = refl; transferred = all; closes = closes } in
    let P : List Record → Type 0 = λ records. IsOpen query records in
    absurd (closed_not_open query (push held last) [] closed (subst P (sym (append-nil old) ∙ same ∙ sym (append-nil (push held last))) still))
last_group query held old (r ∷ group) last still same all closes =
    let end = ended_by r group in
    let both = same_from_push (old ++ end.front) held end.last last (append_assoc old end.front (end.last ∷ []) ∙ ap (λ l. old ++ l) (sym end.is) ∙ same) in
    record { front = end.front; group_is = end.is ∙ ap (push end.front) both.1; joins = both.0 }

-- the message is judged, and ends the transfer
pub judged_last : (old new : FrameBuffer) (query : AxfrQuery) (octets : List ℕ) (framed : IsFrame (old.open_frame.items ++ octets))
    → new.open_frame.items ≡ [] → TakesMessage query old.records old.is_first framed.message new.records true
    → AllByRecursion (IsRecordOf query.class) new.records → EndsTransfer old octets new query
judged_last old new query octets framed none takes known = record {
  whole = none;
  transfer = λ stream is.
      let next = next_heard stream octets is framed in
      let closed = holds_closed takes.holds refl in
      let group = last_group query new.records old.records takes.group closed.last is.still_open closed.same closed.transferred closed.closes in
      record {
        messages = push is.messages framed.message;
        each = next.each;
        whole = next.whole;
        groups = push is.groups takes.group;
        answers = next_answers old query stream is framed.message takes.group takes.answer;
        last = closed.last;
        front = is.groups;
        last_group = group.front;
        splits = ap (push is.groups) group.group_is;
        joins = ap (λ l. l ++ group.front) is.joins ∙ group.joins;
        transferred = closed.transferred;
        closed = closed.closes;
      };
  known = known;
}

-- a bad message makes the stream bad
fault_in_stream : (query : AxfrQuery) (stream : List ℕ) (Fault : ReceiveError → Type 0) → ((e : ReceiveError) → Fault e → HasBadMessage query stream e)
    → ((why : QueryError) → Fault (receive_error.Query why) → ⊥) → (Fault receive_error.Unfinished → ⊥)
    → (error : ReceiveError) → IsFaultOr Fault error → IsStreamFault query stream error
fault_in_stream query stream Fault bad not_query finished (receive_error.Query why) fault = not_query why fault
fault_in_stream query stream Fault bad not_query finished receive_error.Short fault = bad _ fault
fault_in_stream query stream Fault bad not_query finished receive_error.Id fault = bad _ fault
fault_in_stream query stream Fault bad not_query finished receive_error.NotResponse fault = bad _ fault
fault_in_stream query stream Fault bad not_query finished receive_error.Opcode fault = bad _ fault
fault_in_stream query stream Fault bad not_query finished (receive_error.Rcode rcode) fault = bad _ fault
fault_in_stream query stream Fault bad not_query finished receive_error.Counts fault = bad _ fault
fault_in_stream query stream Fault bad not_query finished receive_error.Question fault = bad _ fault
fault_in_stream query stream Fault bad not_query finished (receive_error.Record n) fault = bad _ fault
fault_in_stream query stream Fault bad not_query finished receive_error.FirstNotSoa fault = bad _ fault
fault_in_stream query stream Fault bad not_query finished (receive_error.Class n) fault = bad _ fault
fault_in_stream query stream Fault bad not_query finished (receive_error.OutOfZone n) fault = bad _ fault
fault_in_stream query stream Fault bad not_query finished (receive_error.SoaDiffers n) fault = bad _ fault
fault_in_stream query stream Fault bad not_query finished (receive_error.AfterLast n) fault = bad _ fault
fault_in_stream query stream Fault bad not_query finished (receive_error.Unspellable n) fault = bad _ fault
fault_in_stream query stream Fault bad not_query finished receive_error.Trailing fault = bad _ fault
fault_in_stream query stream Fault bad not_query finished receive_error.Unfinished fault = finished fault
fault_in_stream query stream Fault bad not_query finished receive_error.OutOfMemory fault = tt

-- the message is bad
pub judged_bad : (old : FrameBuffer) (query : AxfrQuery) (octets : List ℕ) (framed : IsFrame (old.open_frame.items ++ octets)) (error : ReceiveError)
    → IsFaultOr (IsMessageFault query old.records old.is_first framed.message) error → BreaksRule old octets query error
judged_bad old query octets framed error fault stream behind is =
    let all : List ℕ = stream ++ (octets ++ behind) in
    let front : List ℕ = frames is.messages in
    let Fault : ReceiveError → Type 0 = λ e. IsMessageFault query old.records old.is_first framed.message e in
    let bad : (e : ReceiveError) → Fault e → HasBadMessage query all e = λ e why.
    let P : List Record → Type 0 = λ records. IsMessageFault query records old.is_first framed.message e in
    let Q : Bool → Type 0 = λ first. IsMessageFault query (joined is.groups) first framed.message e in
    record {
      messages = is.messages;
      each = is.splits.each;
      bad = framed.message;
      fits = framed.fits;
      behind = behind;
      whole = ap (λ l. l ++ (octets ++ behind)) is.splits.whole ∙ append_assoc front old.open_frame.items (octets ++ behind)
          ∙ ap (λ l. front ++ l) (sym (append_assoc old.open_frame.items octets behind) ∙ ap (λ l. l ++ behind) framed.whole);
      groups = is.groups;
      answers = is.answers;
      still_open = subst (IsOpen query) (sym is.joins) is.still_open;
      fault = subst Q (first_by is.messages old.is_first is.stage) (subst P (sym is.joins) why);
    } in
    fault_in_stream query all Fault bad (λ why fault. fault.4) (λ fault. fault.4) error fault

-- what a call returns for the message of the frame
pub answer_goes : (ends : Bool) (old new : FrameBuffer) (query : AxfrQuery) (octets message : List ℕ) (framed : IsFrame (old.open_frame.items ++ octets))
    → message ≡ framed.message → new.open_frame.items ≡ [] → new.is_first ≡ false
    → TakesMessage query old.records old.is_first message new.records ends → AllByRecursion (IsRecordOf query.class) new.records
    → OnFalse ends (GoesOn old octets new query)
answer_goes true old new query octets message framed is none first takes known = tt
answer_goes false old new query octets message framed is none first takes known =
    let P : List ℕ → Type 0 = λ message. TakesMessage query old.records old.is_first message new.records false in
    judged_on old new query octets framed none first (subst P is takes) known

pub answer_ends : (ends : Bool) (old new : FrameBuffer) (query : AxfrQuery) (octets message : List ℕ) (framed : IsFrame (old.open_frame.items ++ octets))
    → message ≡ framed.message → new.open_frame.items ≡ []
    → TakesMessage query old.records old.is_first message new.records ends → AllByRecursion (IsRecordOf query.class) new.records
    → OnTrue ends (EndsTransfer old octets new query)
answer_ends false old new query octets message framed is none takes known = tt
answer_ends true old new query octets message framed is none takes known =
    let P : List ℕ → Type 0 = λ message. TakesMessage query old.records old.is_first message new.records true in
    judged_last old new query octets framed none (subst P is takes) known

pub answer_breaks : (old : FrameBuffer) (query : AxfrQuery) (octets message : List ℕ) (framed : IsFrame (old.open_frame.items ++ octets)) (error : ReceiveError)
    → message ≡ framed.message → IsFaultOr (IsMessageFault query old.records old.is_first message) error → BreaksRule old octets query error
answer_breaks old query octets message framed error is fault =
    let P : List ℕ → Type 0 = λ message. IsFaultOr (IsMessageFault query old.records old.is_first message) error in
    judged_bad old query octets framed error (subst P is fault)

-- the same with the result returned to the caller
pub result_goes : (result : Result Bool ReceiveError) (old new : FrameBuffer) (query : AxfrQuery) (octets message : List ℕ)
    (framed : IsFrame (old.open_frame.items ++ octets)) → message ≡ framed.message → new.open_frame.items ≡ [] → new.is_first ≡ false
    → IfOk result (TakesMessage query old.records old.is_first message new.records)
    → OnOk result (AllByRecursion (IsRecordOf query.class) new.records) → IfOk result (λ ends. OnFalse ends (GoesOn old octets new query))
result_goes (Ok ends) old new query octets message framed is none first takes known =
    answer_goes ends old new query octets message framed is none first takes known
result_goes (Err error) old new query octets message framed is none first takes known = tt

pub result_ends : (result : Result Bool ReceiveError) (old new : FrameBuffer) (query : AxfrQuery) (octets message : List ℕ)
    (framed : IsFrame (old.open_frame.items ++ octets)) → message ≡ framed.message → new.open_frame.items ≡ []
    → IfOk result (TakesMessage query old.records old.is_first message new.records)
    → OnOk result (AllByRecursion (IsRecordOf query.class) new.records) → IfOk result (λ ends. OnTrue ends (EndsTransfer old octets new query))
result_ends (Ok ends) old new query octets message framed is none takes known =
    answer_ends ends old new query octets message framed is none takes known
result_ends (Err error) old new query octets message framed is none takes known = tt

pub result_breaks : (result : Result Bool ReceiveError) (old : FrameBuffer) (query : AxfrQuery) (octets message : List ℕ)
    (framed : IsFrame (old.open_frame.items ++ octets)) → message ≡ framed.message
    → IfErr result (IsFaultOr (IsMessageFault query old.records old.is_first message)) → IfErr result (BreaksRule old octets query)
result_breaks (Ok ends) old query octets message framed is fault = tt
result_breaks (Err error) old query octets message framed is fault = answer_breaks old query octets message framed error is fault
