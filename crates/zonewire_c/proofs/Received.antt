-- What is received from an input that is fed in one piece.
use Rattle.std.proofs.Common.{◌≡◌, ◌≢◌, ◌∙◌, ℕ, List, [], sym, ap, subst, take, drop, length, append-nil, take-append-drop, inl, inr, Some, None, arith, ◌⊎◌}
use Rattle.std.proofs.lemmas.List.{take_all}
use Rattle.zone_records.specs.Record.{Record}
use Rattle.zone_core.specs.Query.{AxfrQuery, IsQuery}
use Rattle.zone_core.specs.Transfer.{IsTransfer}
use Rattle.zone_receive.specs.Receiving.{Heard, IsAfterAt, IsBegun, IsNoZone, IsStreamFault, Refuses, Stage, Takes, refusal_in}
use Rattle.zone_receive.specs.Receiving.Stage.{Ended, Fresh, Refused}
use Rattle.zone_receive.specs.declared.error.ReceiveError.{ReceiveError}
use Rattle.zone_receive.specs.declared.error.ReceiveError.TheVariants.{OutOfMemory, Query, Unfinished}
use Rattle.zone_receive.proofs.OneOfThree.{transfer_not_begun}
use Rattle.zonewire.specs.Output.{IsNotReceived, IsReceived}

-- the zone that was received
pub received : (asking input : List ℕ) (old new : Heard) (n : ℕ) (records : List Record) → IsQuery asking old.query
    → Takes old [] input new n → IsTransfer new.query (take n input) records → IsReceived asking input records
received asking input old new n records asked takes transfer = record {
  query = old.query;
  asked = asked;
  stream = take n input;
  behind = drop n input;
  begins = sym (take-append-drop n input);
  transfer = subst (λ query. IsTransfer query (take n input) records) takes.query transfer;
}

-- no zone was received: the input is only begun
pub not_received : (asking input : List ℕ) (old new : Heard) (n : ℕ) (error : ReceiveError) → IsQuery asking old.query
    → Takes old [] input new n → IsNoZone new (take n input) error → IsNotReceived asking input error
not_received asking input old new n error asked takes (inl kept) =
    let bad : Some error ≡ None = sym (ap refusal_in kept) ∙ takes.kept in cc
not_received asking input old new n error asked takes (inr (is, free, begun)) =
    subst (IsNotReceived asking input) (sym is) (old.query, asked, subst (λ query. IsBegun query input) takes.query (whole takes.ends))
  where
    whole : (new.stage ≡ Ended) ⊎ ((new.stage ≢ Ended) × (n ≡ length input)) → IsBegun new.query input
    whole (inl ended) =
        let after : IsAfterAt Ended new (take n input) = subst (λ (at : Stage). IsAfterAt at new (take n input)) ended takes.after in
        absurd (transfer_not_begun new.query (take n input) (take n input) [] new.records (sym (append-nil (take n input))) after.1 begun)
    whole (inr (not_there, all)) = subst (IsBegun new.query) (take_all n input (omega (arith, all))) begun

-- the input breaks a rule
not_taken : (asking input : List ℕ) (query : AxfrQuery) (error : ReceiveError) → IsQuery asking query → IsStreamFault query input error
    → IsNotReceived asking input error
not_taken asking input query (Query why) asked fault = absurd fault
not_taken asking input query Unfinished asked fault = absurd fault
not_taken asking input query OutOfMemory asked fault = tt
not_taken asking input query error asked fault = (query, asked, fault)

pub refused : (asking input : List ℕ) (old new : Heard) (error : ReceiveError) → IsQuery asking old.query → old.stage ≡ Fresh
    → Refuses old [] input new error → IsNotReceived asking input error
refused asking input old new error asked fresh refuses = why refuses.why
  where
    why : ((old.stage ≡ Refused error) × (new ≡ old)) ⊎ ((refusal_in old.stage ≡ None) × IsStreamFault old.query input error)
        → IsNotReceived asking input error
    why (inl again) = let bad : Some error ≡ None = sym (ap refusal_in again.0) ∙ ap refusal_in fresh in cc
    why (inr (free, fault)) = not_taken asking input old.query error asked fault
