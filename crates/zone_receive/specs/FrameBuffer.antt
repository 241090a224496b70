-- What a receiver holds while a stream arrives. Only contracts inside the crate use it.
use Rattle.std.specs.Prelude.{◌≡◌, ◌+◌, ◌<◌, ◌≤◌, ℕ, Bool, true, false, List, [], ◌++◌, length, take, ⊤}
use Rattle.std.specs.List.{AllByRecursion, push}
use Rattle.dns_rdata.specs.Fields.{IsData}
use Rattle.zone_records.specs.Record as spec
use Rattle.zone_core.specs.Query.{AxfrQuery}
use Rattle.zone_core.specs.Frames.{frame, IsFramable}
use Rattle.zone_records.specs.Records.{IsRecordOf}
use Rattle.dns_message.specs.Record.{ReadsRecord}
use Rattle.zone_core.specs.Transfer.{IsAnswer, IsTransferred, ClosesTransfer, IsTransfer}
use Rattle.zone_receive.specs.Receiving.{Heard, IsHeard, IsOpen, IsStreamFault, Stage}
use Rattle.zone_receive.specs.Receiving.Stage.{Begun, Fresh}
use Rattle.zone_receive.specs.declared.error.ReceiveError.{ReceiveError}
use Rattle.zone_receive.specs.declared.error.ReceiveError.TheVariants as receive_error
use Rattle.zone_receive.specs.declared.rules.RecordRole.{RecordRole}
use Rattle.zone_receive.specs.declared.rules.RecordRole.TheVariants as role
use Rattle.zone_receive.specs.declared.frame_buffer.FrameBuffer.{FrameBuffer}

-- a fault by a rule, or out of memory
abbrev pub IsFaultOr : (ReceiveError → Type 0) → ReceiveError → Type 0
IsFaultOr Fault receive_error.OutOfMemory = ⊤
IsFaultOr Fault error = Fault error

-- These are the first records of a transfer: those that are held, and then the last SOA if it has come.
pub data HoldsFront (query : AxfrQuery) (held : List spec.Record) : Bool → List spec.Record → Type 0 where
  begun : IsOpen query held → HoldsFront query held false held
  ended : (last : spec.Record) → IsTransferred query held → ClosesTransfer held last → HoldsFront query held true (push held last)

-- The last of the records is the next one of the transfer, with this number, and those before it are held.
pub record IsNext (query : AxfrQuery) (records : List spec.Record) (closed : Bool) (number : ℕ) : Type 0 where
  pub held : List spec.Record
  pub r : spec.Record
  pub splits : records ≡ push held r
  pub front : List spec.Record
  pub holds : HoldsFront query held closed front
  pub numbered : number ≡ length front + 1
  pub known : AllByRecursion (IsRecordOf query.class) held
  pub data_is : IsData r.rtype r.rdata

-- whether a record that keeps all rules after those that are held is the last SOA
abbrev pub HasRole : AxfrQuery → List spec.Record → spec.Record → RecordRole → Type 0
HasRole query held r role.Inner = IsOpen query (push held r)
HasRole query held r role.Last = IsTransferred query held × ClosesTransfer held r

-- the record at a place of the message is added after those before it
pub record TakesRecord (query : AxfrQuery) (message : List ℕ) (place next : ℕ) (held : List spec.Record) (closed : Bool)
    (front : List spec.Record) : Type 0 where
  pub r : spec.Record
  pub has : ReadsRecord message place r next
  pub holds : HoldsFront query held closed (push front r)

-- The message is an answer, and its records are held after those before it.
pub record TakesMessage (query : AxfrQuery) (front : List spec.Record) (first : Bool) (message : List ℕ) (held : List spec.Record)
    (closed : Bool) : Type 0 where
  pub group : List spec.Record
  pub answer : IsAnswer query first message group
  pub holds : HoldsFront query held closed (front ++ group)

abbrev pub stage_where : Bool → Stage
stage_where true = Fresh
stage_where false = Begun

-- a buffer as a receiver of the query's answers, before the last SOA
abbrev pub heard_by : FrameBuffer → AxfrQuery → Heard
heard_by buffer query = record {
  query = query;
  records = buffer.records;
  open_frame = buffer.open_frame.items;
  stage = stage_where buffer.is_first;
}

-- The last SOA has not come, and the buffer is the result of some stream.
pub record IsWaiting (buffer : FrameBuffer) (query : AxfrQuery) : Type 0 where
  pub stream : List ℕ
  pub heard : IsHeard (heard_by buffer query) stream
  pub known : AllByRecursion (IsRecordOf query.class) buffer.records

-- The records are those of a transfer.
pub record IsEnded (buffer : FrameBuffer) (query : AxfrQuery) : Type 0 where
  pub stream : List ℕ
  pub transfer : IsTransfer query stream buffer.records
  pub known : AllByRecursion (IsRecordOf query.class) buffer.records

-- The octets are one whole frame.
pub record IsFrame (octets : List ℕ) : Type 0 where
  pub message : List ℕ
  pub fits : IsFramable message
  pub whole : octets ≡ frame message

-- The first `len` of the octets complete the open frame.
pub record Completes (open_frame octets : List ℕ) (len : ℕ) : Type 0 where
  pub some : 0 < len
  pub within : len ≤ length octets
  pub framed : IsFrame (open_frame ++ take len octets)

-- After every stream that the buffer has heard, it takes these octets and goes on.
pub record GoesOn (old : FrameBuffer) (octets : List ℕ) (new : FrameBuffer) (query : AxfrQuery) : Type 0 where
  pub heard : (stream : List ℕ) → IsHeard (heard_by old query) stream → IsHeard (heard_by new query) (stream ++ octets)
  pub known : AllByRecursion (IsRecordOf query.class) new.records

-- After every stream that the buffer has heard, these octets end the transfer.
pub record EndsTransfer (old : FrameBuffer) (octets : List ℕ) (new : FrameBuffer) (query : AxfrQuery) : Type 0 where
  pub whole : new.open_frame.items ≡ []
  pub transfer : (stream : List ℕ) → IsHeard (heard_by old query) stream → IsTransfer query (stream ++ octets) new.records
  pub known : AllByRecursion (IsRecordOf query.class) new.records

-- After every stream that the buffer has heard, these octets break the rule, whatever follows them.
abbrev pub BreaksRule : FrameBuffer → List ℕ → AxfrQuery → ReceiveError → Type 0
BreaksRule old octets query error =
    (stream behind : List ℕ) → IsHeard (heard_by old query) stream → IsStreamFault query (stream ++ (octets ++ behind)) error
