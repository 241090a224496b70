-- What a receiver holds between two pieces.
use Rattle.std.proofs.Common.{◌≡◌, ℕ, ◌+◌, ◌-◌, ◌≤◌, Bool, true, List, [], ◌∷◌, ◌++◌, take, drop, refl, sym, ap, ◌∙◌, subst, arith, append_assoc, append-nil}
use Rattle.std.proofs.Math.Seq.{take-add}
use Rattle.std.proofs.lemmas.List.{take-append-drop}
use Rattle.std.specs.List.{AllByRecursion}
use Rattle.zone_records.specs.Record.{Record}
use Rattle.zone_records.specs.Records.{IsRecordOf}
use Rattle.zone_core.specs.Query.{AxfrQuery}
use Rattle.zone_core.specs.Frames.{frames, IsPartial}
use Rattle.zone_core.specs.Transfer.{IsTransfer}
use Rattle.zone_receive.specs.Receiving.{Heard, IsBegun, IsHeard, IsOpen, IsStreamFault}
use Rattle.zone_receive.specs.FrameBuffer.{BreaksRule, EndsTransfer, GoesOn, IsEnded, IsFrame, IsWaiting, heard_by, stage_where}
use Rattle.zone_receive.specs.declared.error.ReceiveError.{ReceiveError}
use Rattle.zone_receive.specs.declared.frame_buffer.FrameBuffer.{FrameBuffer}

-- before the last SOA, the stream is only begun
pub heard_is_begun : {heard : Heard} {stream : List ℕ} → IsHeard heard stream → IsBegun heard.query stream
heard_is_begun {heard} is = record {
  messages = is.messages;
  rest = heard.open_frame;
  splits = is.splits;
  groups = is.groups;
  answers = is.answers;
  still_open = subst (IsOpen heard.query) (sym is.joins) is.still_open;
}

pub take_none : (octets : List ℕ) → take 0 octets ≡ []
take_none [] = refl
take_none (x ∷ octets) = refl

-- no octets
pub goes_none : (buffer : FrameBuffer) (query : AxfrQuery) (piece : List ℕ) → AllByRecursion (IsRecordOf query.class) buffer.records
    → GoesOn buffer (take 0 piece) buffer query
goes_none buffer query piece known =
    let P : List ℕ → Type 0 = λ stream. IsHeard (heard_by buffer query) stream in
    record {
      heard = λ stream is. subst P (sym (append-nil stream) ∙ ap (λ l. stream ++ l) (sym (take_none piece))) is;
      known = known;
    }

pub goes_waits : {old new : FrameBuffer} {query : AxfrQuery} (octets : List ℕ) → IsWaiting old query → GoesOn old octets new query → IsWaiting new query
goes_waits octets waits goes =
    record { stream = waits.stream ++ octets; heard = goes.heard waits.stream waits.heard; known = goes.known }

-- before the first octet
pub heard_none : (buffer : FrameBuffer) (query : AxfrQuery) → buffer.open_frame.items ≡ [] → buffer.records ≡ [] → buffer.is_first ≡ true
    → IsHeard (heard_by buffer query) []
heard_none buffer query none no_records first = record {
  messages = [];
  splits = record { each = tt; whole = sym none; partial = subst IsPartial (sym none) tt };
  groups = [];
  answers = tt;
  joins = sym no_records;
  still_open = subst (IsOpen query) (sym no_records) tt;
  stage = ap stage_where first;
}

pub waits_none : (buffer : FrameBuffer) (query : AxfrQuery) → buffer.open_frame.items ≡ [] → buffer.records ≡ [] → buffer.is_first ≡ true
    → IsWaiting buffer query
waits_none buffer query none no_records first = record {
  stream = [];
  heard = heard_none buffer query none no_records first;
  known = subst (AllByRecursion (IsRecordOf query.class)) (sym no_records) tt;
}

-- octets after others
pub goes_more : {old between new : FrameBuffer} {query : AxfrQuery} (octets more all : List ℕ) → octets ++ more ≡ all → GoesOn old octets between query
    → GoesOn between more new query → GoesOn old all new query
goes_more {new = new} {query = query} octets more all is goes then =
    let P : List ℕ → Type 0 = λ stream. IsHeard (heard_by new query) stream in
    record {
      heard = λ stream heard. subst P (append_assoc stream octets more ∙ ap (λ l. stream ++ l) is)
          (then.heard (stream ++ octets) (goes.heard stream heard));
      known = then.known;
    }

pub ends_more : {old between new : FrameBuffer} {query : AxfrQuery} (octets more all : List ℕ) → octets ++ more ≡ all → GoesOn old octets between query
    → EndsTransfer between more new query → EndsTransfer old all new query
ends_more {new = new} {query = query} octets more all is goes ends =
    let P : List ℕ → Type 0 = λ stream. IsTransfer query stream new.records in
    record {
      whole = ends.whole;
      transfer = λ stream heard. subst P (append_assoc stream octets more ∙ ap (λ l. stream ++ l) is)
          (ends.transfer (stream ++ octets) (goes.heard stream heard));
      known = ends.known;
    }

pub breaks_more : {old between : FrameBuffer} {query : AxfrQuery} (error : ReceiveError) (octets more behind all : List ℕ)
    → octets ++ (more ++ behind) ≡ all → GoesOn old octets between query → BreaksRule between more query error
    → (stream : List ℕ) → IsHeard (heard_by old query) stream → IsStreamFault query (stream ++ all) error
breaks_more {query = query} error octets more behind all is goes breaks stream heard =
    let P : List ℕ → Type 0 = λ stream. IsStreamFault query stream error in
    subst P (append_assoc stream octets (more ++ behind) ∙ ap (λ l. stream ++ l) is) (breaks (stream ++ octets) behind (goes.heard stream heard))

-- octets that complete no frame
pub opens_more : (old new : FrameBuffer) (query : AxfrQuery) (octets : List ℕ) → new.open_frame.items ≡ old.open_frame.items ++ octets
    → new.records ≡ old.records → new.is_first ≡ old.is_first → IsPartial (old.open_frame.items ++ octets)
    → AllByRecursion (IsRecordOf query.class) old.records → GoesOn old octets new query
opens_more old new query octets opened same first partial known = record {
  heard = λ stream is. record {
    messages = is.messages;
    splits = record {
      each = is.splits.each;
      whole = ap (λ l. l ++ octets) is.splits.whole ∙ append_assoc (frames is.messages) old.open_frame.items octets
          ∙ ap (λ l. frames is.messages ++ l) (sym opened);
      partial = subst IsPartial (sym opened) partial;
    };
    groups = is.groups;
    answers = is.answers;
    joins = is.joins ∙ sym same;
    still_open = subst (IsOpen query) (sym same) is.still_open;
    stage = ap stage_where first ∙ is.stage;
  };
  known = subst (AllByRecursion (IsRecordOf query.class)) (sym same) known;
}

-- the octets of a piece up to a place, and those after it
pub piece_next : (piece : List ℕ) (taken end : ℕ) → taken ≤ end → take taken piece ++ take (end - taken) (drop taken piece) ≡ take end piece
piece_next piece taken end before =
    let is : taken + (end - taken) ≡ end = omega (arith, before) in
    sym (take-add taken (end - taken) piece) ∙ ap (λ n. take n piece) is

pub piece_is : (piece : List ℕ) (taken end : ℕ) → taken ≤ end
    → take taken piece ++ (take (end - taken) (drop taken piece) ++ drop end piece) ≡ piece
piece_is piece taken end before =
    sym (append_assoc (take taken piece) (take (end - taken) (drop taken piece)) (drop end piece))
    ∙ ap (λ l. l ++ drop end piece) (piece_next piece taken end before) ∙ take-append-drop end piece

-- the octets that complete the open frame, as a part of the piece
pub framed_next : (open_frame items rest behind : List ℕ) (taken len : ℕ) → items ≡ open_frame → rest ≡ behind → IsFrame (items ++ take len rest)
    → IsFrame (open_frame ++ take ((taken + len) - taken) behind)
framed_next open_frame items rest behind taken len is same framed =
    let P : List ℕ → Type 0 = λ l. IsFrame l in
    let count : len ≡ (taken + len) - taken = omega arith in
    subst P (ap (λ l. l ++ take len rest) is ∙ ap (λ l. open_frame ++ take len l) same ∙ ap (λ n. open_frame ++ take n behind) count) framed
