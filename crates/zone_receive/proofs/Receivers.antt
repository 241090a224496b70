-- How far a receiver has come.
use Rattle.std.proofs.Common.{◌≡◌, ℕ, ◌≤◌, Bool, true, false, None, List, [], ◌++◌, length, take, refl, sym, ap, ◌∙◌, subst, arith, append-nil, inl, inr}
use Rattle.std.proofs.lemmas.List.{take_all}
use Rattle.zone_records.specs.Record.{Record}
use Rattle.zone_core.specs.Query.{AxfrQuery}
use Rattle.zone_core.specs.Transfer.{IsTransfer}
use Rattle.zone_receive.specs.Receiving.{Heard, IsAfter, IsAfterAt, IsHeard, IsNoZone, IsStreamFault, Refuses, Stage, Takes, refusal_in}
use Rattle.zone_receive.specs.Receiving.Stage.{Begun, Ended, Refused}
use Rattle.zone_receive.specs.FrameBuffer.{EndsTransfer, GoesOn, IsEnded, IsWaiting, heard_by, stage_where}
use Rattle.zone_receive.specs.Received.{heard_in, stage_in}
use Rattle.zone_receive.specs.declared.error.ReceiveError.{ReceiveError}
use Rattle.zone_receive.specs.declared.error.ReceiveError.TheVariants as receive_error
use Rattle.zone_receive.specs.declared.frame_buffer.FrameBuffer.{FrameBuffer}
use Rattle.zone_receive.specs.declared.receiver.Progress.{Progress}
use Rattle.zone_receive.specs.declared.receiver.Progress.TheVariants as progress
use Rattle.zone_receive.proofs.FrameBuffers.{goes_none, heard_is_begun, take_none}

-- before the last SOA
pub after_where : (first : Bool) (heard : Heard) (stream : List ℕ) → IsHeard heard stream → IsAfterAt (stage_where first) heard stream
after_where true heard stream is = is
after_where false heard stream is = is

pub heard_where : (first : Bool) (heard : Heard) (stream : List ℕ) → IsAfterAt (stage_where first) heard stream → IsHeard heard stream
heard_where true heard stream after = after
heard_where false heard stream after = after

not_refused : (first : Bool) → refusal_in (stage_where first) ≡ None
not_refused true = refl
not_refused false = refl

not_ended : (first : Bool) → stage_where first ≡ Ended → ⊥
not_ended true is = absurd cc
not_ended false is = absurd cc

-- the whole piece is taken
pub takes_all : (old new : FrameBuffer) (query : AxfrQuery) (stream piece : List ℕ) (n : ℕ) → n ≡ length piece → GoesOn old piece new query
    → IsAfter (heard_in progress.Begun old query) stream → Takes (heard_in progress.Begun old query) stream piece (heard_in progress.Begun new query) n
takes_all old new query stream piece n all goes after =
    let heard = goes.heard stream (heard_where old.is_first (heard_in progress.Begun old query) stream after) in
    let P : List ℕ → Type 0 = λ octets. IsHeard (heard_in progress.Begun new query) (stream ++ octets) in
    record {
      free = not_refused old.is_first;
      query = refl;
      kept = not_refused new.is_first;
      within = omega (arith, all);
      after = after_where new.is_first (heard_in progress.Begun new query) (stream ++ take n piece)
          (subst P (sym (take_all n piece (omega (arith, all)))) heard);
      ends = inr (not_ended new.is_first, all);
    }

-- the transfer ends in the piece
pub takes_end : (old new : FrameBuffer) (query : AxfrQuery) (stream piece : List ℕ) (n : ℕ) → n ≤ length piece
    → EndsTransfer old (take n piece) new query → IsAfter (heard_in progress.Begun old query) stream
    → Takes (heard_in progress.Begun old query) stream piece (heard_in progress.Done new query) n
takes_end old new query stream piece n within ends after = record {
  free = not_refused old.is_first;
  query = refl;
  kept = refl;
  within = within;
  after = (ends.whole, ends.transfer stream (heard_where old.is_first (heard_in progress.Begun old query) stream after));
  ends = inl refl;
}

-- it has ended
pub takes_none : (buffer : FrameBuffer) (query : AxfrQuery) (stream piece : List ℕ) → IsAfter (heard_in progress.Done buffer query) stream
    → Takes (heard_in progress.Done buffer query) stream piece (heard_in progress.Done buffer query) 0
takes_none buffer query stream piece after =
    let P : List ℕ → Type 0 = λ octets. IsTransfer query octets buffer.records in
    record {
      free = refl;
      query = refl;
      kept = refl;
      within = omega arith;
      after = (after.0, subst P (sym (append-nil stream) ∙ ap (λ octets. stream ++ octets) (sym (take_none piece))) after.1);
      ends = inl refl;
    }

-- the piece is bad, or an earlier one was
pub refuses_piece : (old new : FrameBuffer) (query : AxfrQuery) (stream piece : List ℕ) (error : ReceiveError)
    → ((stream : List ℕ) → IsHeard (heard_by old query) stream → IsStreamFault query (stream ++ piece) error)
    → IsAfter (heard_in progress.Begun old query) stream
    → Refuses (heard_in progress.Begun old query) stream piece (heard_in (progress.Refused error) new query) error
refuses_piece old new query stream piece error breaks after = record {
  query = refl;
  kept = refl;
  why = inr (not_refused old.is_first, breaks stream (heard_where old.is_first (heard_in progress.Begun old query) stream after));
}

pub refuses_again : (buffer : FrameBuffer) (query : AxfrQuery) (stream piece : List ℕ) (error : ReceiveError)
    → Refuses (heard_in (progress.Refused error) buffer query) stream piece (heard_in (progress.Refused error) buffer query) error
refuses_again buffer query stream piece error = record { query = refl; kept = refl; why = inl (refl, refl) }

-- the transfer has ended
pub ends_ended : {old new : FrameBuffer} {query : AxfrQuery} (octets : List ℕ) → IsWaiting old query → EndsTransfer old octets new query
    → IsEnded new query
ends_ended octets waits ends =
    record { stream = waits.stream ++ octets; transfer = ends.transfer waits.stream waits.heard; known = ends.known }

-- a receiver that is done has the transfer, with its records
pub has_transfer : (heard : Heard) (records : List Record) (stream : List ℕ) → heard.stage ≡ Ended → records ≡ heard.records
    → IsAfter heard stream → (refusal_in heard.stage ≡ None) × IsTransfer heard.query stream records
has_transfer heard records stream is same after =
    let P : Stage → Type 0 = λ at. IsAfterAt at heard stream in
    let Q : List Record → Type 0 = λ records. IsTransfer heard.query stream records in
    let here = subst P is after in
    (ap refusal_in is, subst Q (sym same) here.1)

pub not_ended_in : (at : Progress) (first : Bool) → (at ≡ progress.Done → ⊥) → stage_in at first ≡ Ended → ⊥
not_ended_in progress.Begun first not_there is = not_ended first is
not_ended_in progress.Done first not_there is = not_there refl
not_ended_in (progress.Refused error) first not_there is = absurd cc

-- what the contract sees of a receiver, by how far it has come
pub feeds_all : (old : Heard) (at : Progress) (buffer new : FrameBuffer) (query : AxfrQuery) (piece : List ℕ) (n : ℕ) → heard_in at buffer query ≡ old
    → at ≡ progress.Begun → n ≡ length piece → GoesOn buffer piece new query
    → (stream : List ℕ) → IsAfter old stream → Takes old stream piece (heard_in at new query) n
feeds_all old at buffer new query piece n view is all goes =
    let P : Progress → Type 0 = λ at. (stream : List ℕ) → IsAfter (heard_in at buffer query) stream
    → Takes (heard_in at buffer query) stream piece (heard_in at new query) n in
    let Q : Heard → Type 0 = λ old. (stream : List ℕ) → IsAfter old stream → Takes old stream piece (heard_in at new query) n in
    subst Q view (subst P (sym is) (λ stream after. takes_all buffer new query stream piece n all goes after))

-- an empty piece
pub feeds_empty : (old : Heard) (at : Progress) (buffer : FrameBuffer) (query : AxfrQuery) (piece : List ℕ) → heard_in at buffer query ≡ old
    → at ≡ progress.Begun → piece ≡ [] → IsWaiting buffer query → (stream : List ℕ) → IsAfter old stream → Takes old stream piece old 0
feeds_empty old at buffer query piece view is none waits stream after =
    let P : List ℕ → Type 0 = λ octets. GoesOn buffer octets buffer query in
    let Q : Heard → Type 0 = λ heard. Takes old stream piece heard 0 in
    let goes = subst P (take_none piece ∙ sym none) (goes_none buffer query piece waits.known) in
    subst Q view (feeds_all old at buffer buffer query piece 0 view is (sym (ap (length {A = ℕ}) none)) goes stream after)

pub feeds_end : (old : Heard) (at : Progress) (buffer new : FrameBuffer) (query : AxfrQuery) (piece : List ℕ) (n : ℕ) → heard_in at buffer query ≡ old
    → at ≡ progress.Begun → n ≤ length piece → EndsTransfer buffer (take n piece) new query
    → (stream : List ℕ) → IsAfter old stream → Takes old stream piece (heard_in progress.Done new query) n
feeds_end old at buffer new query piece n view is within ends =
    let P : Progress → Type 0 = λ at. (stream : List ℕ) → IsAfter (heard_in at buffer query) stream
    → Takes (heard_in at buffer query) stream piece (heard_in progress.Done new query) n in
    let Q : Heard → Type 0 = λ old. (stream : List ℕ) → IsAfter old stream → Takes old stream piece (heard_in progress.Done new query) n in
    subst Q view (subst P (sym is) (λ stream after. takes_end buffer new query stream piece n within ends after))

pub feeds_none : (old : Heard) (at : Progress) (buffer : FrameBuffer) (query : AxfrQuery) (piece : List ℕ) → heard_in at buffer query ≡ old
    → at ≡ progress.Done → (stream : List ℕ) → IsAfter old stream → Takes old stream piece old 0
feeds_none old at buffer query piece view is =
    let P : Progress → Type 0 = λ at. (stream : List ℕ) → IsAfter (heard_in at buffer query) stream
    → Takes (heard_in at buffer query) stream piece (heard_in at buffer query) 0 in
    let Q : Heard → Type 0 = λ old. (stream : List ℕ) → IsAfter old stream → Takes old stream piece old 0 in
    subst Q view (subst P (sym is) (λ stream after. takes_none buffer query stream piece after))

pub feeds_bad : (old : Heard) (at : Progress) (buffer new : FrameBuffer) (query : AxfrQuery) (piece : List ℕ) (error : ReceiveError)
    → heard_in at buffer query ≡ old → at ≡ progress.Begun
    → ((stream : List ℕ) → IsHeard (heard_by buffer query) stream → IsStreamFault query (stream ++ piece) error)
    → (stream : List ℕ) → IsAfter old stream → Refuses old stream piece (heard_in (progress.Refused error) new query) error
feeds_bad old at buffer new query piece error view is breaks =
    let P : Progress → Type 0 = λ at. (stream : List ℕ) → IsAfter (heard_in at buffer query) stream
    → Refuses (heard_in at buffer query) stream piece (heard_in (progress.Refused error) new query) error in
    let Q : Heard → Type 0 = λ old. (stream : List ℕ) → IsAfter old stream
    → Refuses old stream piece (heard_in (progress.Refused error) new query) error in
    subst Q view (subst P (sym is) (λ stream after. refuses_piece buffer new query stream piece error breaks after))

pub feeds_again : (old : Heard) (at : Progress) (buffer : FrameBuffer) (query : AxfrQuery) (piece : List ℕ) (error : ReceiveError)
    → heard_in at buffer query ≡ old → at ≡ progress.Refused error
    → (stream : List ℕ) → IsAfter old stream → Refuses old stream piece old error
feeds_again old at buffer query piece error view is =
    let P : Progress → Type 0 = λ at. (stream : List ℕ) → IsAfter (heard_in at buffer query) stream
    → Refuses (heard_in at buffer query) stream piece (heard_in at buffer query) error in
    let Q : Heard → Type 0 = λ old. (stream : List ℕ) → IsAfter old stream → Refuses old stream piece old error in
    subst Q view (subst P (sym is) (λ stream after. refuses_again buffer query stream piece error))

pub done_stage : (heard : Heard) (at : Progress) (buffer : FrameBuffer) (query : AxfrQuery) → heard_in at buffer query ≡ heard → at ≡ progress.Done
    → heard.stage ≡ Ended
done_stage heard at buffer query view is =
    ap (λ (h : Heard). h.stage) (sym view) ∙ ap (λ (p : Progress). stage_in p buffer.is_first) is

pub other_stage : (heard : Heard) (at : Progress) (buffer : FrameBuffer) (query : AxfrQuery) → heard_in at buffer query ≡ heard
    → (at ≡ progress.Done → ⊥) → heard.stage ≡ Ended → ⊥
other_stage heard at buffer query view not_there ended =
    not_ended_in at buffer.is_first not_there (ap (λ (h : Heard). h.stage) view ∙ ended)

-- why there is no zone
no_zone_yet : (buffer : FrameBuffer) (query : AxfrQuery) (stream : List ℕ) → IsAfter (heard_in progress.Begun buffer query) stream
    → IsNoZone (heard_in progress.Begun buffer query) stream receive_error.Unfinished
no_zone_yet buffer query stream after =
    inr (refl, not_refused buffer.is_first, heard_is_begun (heard_where buffer.is_first (heard_in progress.Begun buffer query) stream after))

pub no_zone : (heard : Heard) (at : Progress) (buffer : FrameBuffer) (query : AxfrQuery) → heard_in at buffer query ≡ heard → at ≡ progress.Begun
    → (stream : List ℕ) → IsAfter heard stream → IsNoZone heard stream receive_error.Unfinished
no_zone heard at buffer query view is =
    let P : Progress → Type 0 = λ at. (stream : List ℕ) → IsAfter (heard_in at buffer query) stream
    → IsNoZone (heard_in at buffer query) stream receive_error.Unfinished in
    let Q : Heard → Type 0 = λ heard. (stream : List ℕ) → IsAfter heard stream → IsNoZone heard stream receive_error.Unfinished in
    subst Q view (subst P (sym is) (λ stream after. no_zone_yet buffer query stream after))
