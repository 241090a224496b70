-- The records of a transfer, one after another.
use Rattle.std.proofs.Common.{◌≡◌, ℕ, ◌+◌, ◌-◌, Bool, true, false, List, [], ◌∷◌, length, take, refl, sym, ap, ◌∙◌, subst, arith, length-append}
use mir.Val.{bool_byte}
use Rattle.std.specs.List.{push}
use Rattle.zone_records.specs.Record.{Record}
use Rattle.zone_records.proofs.StoredRecords.{take_before_last}
use Rattle.zone_core.specs.Query.{AxfrQuery}
use Rattle.dns_message.specs.Record.{ReadsRecord}
use Rattle.zone_core.specs.Transfer.{IsTransferred, ClosesTransfer}
use Rattle.zone_receive.specs.Receiving.{IsOpen}
use Rattle.zone_receive.specs.FrameBuffer.{HoldsFront, IsFaultOr, TakesRecord}
use Rattle.zone_receive.specs.FrameBuffer.HoldsFront.{begun, ended}
use Rattle.zone_receive.specs.declared.error.ReceiveError.{ReceiveError}
use Rattle.zone_receive.specs.declared.error.ReceiveError.TheVariants as receive_error

-- a fault is one of a rule or of memory
pub fault_or : (Fault : ReceiveError → Type 0) (error : ReceiveError) → Fault error → IsFaultOr Fault error
fault_or Fault (receive_error.Query fault) is = is
fault_or Fault receive_error.Short is = is
fault_or Fault receive_error.Id is = is
fault_or Fault receive_error.NotResponse is = is
fault_or Fault receive_error.Opcode is = is
fault_or Fault (receive_error.Rcode rcode) is = is
fault_or Fault receive_error.Counts is = is
fault_or Fault receive_error.Question is = is
fault_or Fault (receive_error.Record n) is = is
fault_or Fault receive_error.FirstNotSoa is = is
fault_or Fault (receive_error.Class n) is = is
fault_or Fault (receive_error.OutOfZone n) is = is
fault_or Fault (receive_error.SoaDiffers n) is = is
fault_or Fault (receive_error.AfterLast n) is = is
fault_or Fault (receive_error.Unspellable n) is = is
fault_or Fault receive_error.Trailing is = is
fault_or Fault receive_error.Unfinished is = is
fault_or Fault receive_error.OutOfMemory is = tt

-- how many records there are, with the last SOA
pub holds_counted : {query : AxfrQuery} {held front : List Record} {closed : Bool} (last : ℕ) → HoldsFront query held closed front
    → last ≡ bool_byte closed → length front ≡ length held + last
holds_counted {held = held} last (begun still) is = omega (arith, is)
holds_counted {held = held} last (ended soa all closes) is = omega (arith, is, length-append held (soa ∷ []))

-- no record follows the last SOA
holds_same : {query : AxfrQuery} {held front : List Record} {closed : Bool} → HoldsFront query held closed front → closed ≡ false → front ≡ held
holds_same (begun is) not_closed = refl
holds_same (ended last is closes) not_closed = absurd cc

-- the last record is removed again
pub taken_off : {records new : List Record} (held : List Record) (r : Record) → records ≡ push held r
    → new ≡ take (length records - 1) records → new ≡ held
taken_off held r splits is = is ∙ ap (λ (l : List Record). take (length l - 1) l) splits ∙ take_before_last held r

-- the last SOA
pub takes_last : {query : AxfrQuery} {message : List ℕ} {place next : ℕ} {held new front : List Record} {closed : Bool} (r : Record)
    → ReadsRecord message place r next → closed ≡ false → new ≡ held → IsTransferred query held × ClosesTransfer held r
    → HoldsFront query held closed front → TakesRecord query message place next new true front
takes_last {query} {held = held} {new} {front} r has not_closed same closes holds =
    let P : List Record → Type 0 = λ front. HoldsFront query new true (push front r) in
    let Q : List Record → Type 0 = λ new. HoldsFront query new true (push held r) in
    record { r = r; has = has; holds = subst P (sym (holds_same holds not_closed)) (subst Q (sym same) (ended r closes.0 closes.1)) }

-- a record of the zone
pub takes_inner : {query : AxfrQuery} {message : List ℕ} {place next : ℕ} {held new front : List Record} {closed : Bool} (r : Record)
    → ReadsRecord message place r next → closed ≡ false → new ≡ push held r → IsOpen query (push held r)
    → HoldsFront query held closed front → TakesRecord query message place next new false front
takes_inner {query} {held = held} {new} {front} r has not_closed is still holds =
    let P : List Record → Type 0 = λ new. HoldsFront query new false (push held r) in
    let Q : List Record → Type 0 = λ front. HoldsFront query new false (push front r) in
    record { r = r; has = has; holds = subst Q (sym (holds_same holds not_closed)) (subst P (sym is) (begun still)) }
