-- What a stream is as the answer to a query for a zone's transfer (RFC 5936 2.2): a transfer, perhaps with octets after
-- it; only begun; or at fault, by the first rule that its first bad message breaks.
use Rattle.std.specs.Prelude.{◌≡◌, ◌≢◌, ◌+◌, ◌<◌, ◌≤◌, ◌⊎◌, ℕ, Bool, true, false, Option, Some, None, List, [], ◌∷◌, ◌++◌, length, take, ⊤}
use Rattle.std.specs.List.{AllByRecursion, push}
use Rattle.dns_label.specs.Name.{low}
use Rattle.dns_header.specs.Header.{is_response, opcode_of, rcode_of, answer_count, id_of}
use Rattle.zone_records.specs.Record.{Record}
use Rattle.dns_rdata.specs.DataOctets.{IsSpellable}
use Rattle.zone_records.specs.Zone.{IsUnder, soa_type}
use Rattle.zone_core.specs.Query.{AxfrQuery, IsQuery, IsQueryFault}
use Rattle.zone_core.specs.Frames.{frame, frames, IsFramable, Splits}
use Rattle.zone_core.specs.Cutting.{joined}
use Rattle.dns_message.specs.Record.{ReadsRecord}
use Rattle.zone_core.specs.Transfer.{AsksAgain, SpellsRecords, CountsAnswers, HasAnswerHeader, AreAnswers, IsTransferred, ClosesTransfer, IsTransfer}
use Rattle.zone_records.specs.Records.{SameSoa}
use Rattle.zone_receive.specs.declared.error.ReceiveError.{ReceiveError}
use Rattle.zone_receive.specs.declared.error.ReceiveError.TheVariants as receive_error

-- the records of a transfer so far, before the last SOA
abbrev pub IsOpen : AxfrQuery → List Record → Type 0
IsOpen query [] = ⊤
IsOpen query (soa ∷ others) = IsTransferred query (soa ∷ others)

-- all records of a transfer, with the last SOA
pub record IsClosed (query : AxfrQuery) (records : List Record) : Type 0 where
  pub front : List Record
  pub last : Record
  pub splits : records ≡ push front last
  pub transferred : IsTransferred query front
  pub closes : ClosesTransfer front last

-- The stream is a transfer, of some records.
abbrev pub IsWholeTransfer : AxfrQuery → List ℕ → Type 0
IsWholeTransfer query stream = (records : List Record) × IsTransfer query stream records

-- The whole messages of the stream keep the rules of a transfer, and the last SOA has not come.
pub record IsBegun (query : AxfrQuery) (stream : List ℕ) : Type 0 where
  pub messages : List (List ℕ)
  pub rest : List ℕ
  pub splits : Splits stream messages rest
  pub groups : List (List Record)
  pub answers : AreAnswers query true messages groups
  pub still_open : IsOpen query (joined groups)

-- the first record is the SOA of the query's name
abbrev pub KeepsFirstRule : AxfrQuery → List Record → Record → Type 0
KeepsFirstRule query [] r = (r.rtype ≡ soa_type) × (low r.owner ≡ low query.name)
KeepsFirstRule query (soa ∷ others) r = ⊤

-- a later SOA equals the first
abbrev pub KeepsLastRule : List Record → Record → Type 0
KeepsLastRule [] r = ⊤
KeepsLastRule (soa ∷ others) r = r.rtype ≡ soa_type → SameSoa soa r

-- The rule that the record at a place of the message breaks after the records before it: the first in the order of the
-- cases. Records are counted from 1.
abbrev pub IsRecordFault : AxfrQuery → List Record → List ℕ → ℕ → ReceiveError → Type 0
IsRecordFault query front message place (receive_error.Record n) =
    (n ≡ length front + 1) × ((r : Record) (next : ℕ) → ReadsRecord message place r next → ⊥)
IsRecordFault query front message place receive_error.FirstNotSoa =
    (r : Record) × (next : ℕ) × ReadsRecord message place r next × (KeepsFirstRule query front r → ⊥)
IsRecordFault query front message place (receive_error.Class n) =
    (n ≡ length front + 1) × (r : Record) × (next : ℕ) × ReadsRecord message place r next
    × KeepsFirstRule query front r × (r.class ≢ query.class)
IsRecordFault query front message place (receive_error.OutOfZone n) =
    (n ≡ length front + 1) × (r : Record) × (next : ℕ) × ReadsRecord message place r next
    × KeepsFirstRule query front r × (r.class ≡ query.class) × (IsUnder query.name r.owner → ⊥)
IsRecordFault query front message place (receive_error.SoaDiffers n) =
    (n ≡ length front + 1) × (r : Record) × (next : ℕ) × ReadsRecord message place r next
    × KeepsFirstRule query front r × (r.class ≡ query.class) × IsUnder query.name r.owner × (KeepsLastRule front r → ⊥)
IsRecordFault query front message place (receive_error.AfterLast n) =
    (n ≡ length front + 1) × (r : Record) × (next : ℕ) × ReadsRecord message place r next
    × KeepsFirstRule query front r × (r.class ≡ query.class) × IsUnder query.name r.owner × KeepsLastRule front r
    × IsClosed query front
IsRecordFault query front message place (receive_error.Unspellable n) =
    (n ≡ length front + 1) × (r : Record) × (next : ℕ) × ReadsRecord message place r next
    × KeepsFirstRule query front r × (r.class ≡ query.class) × IsUnder query.name r.owner × KeepsLastRule front r
    × (IsClosed query front → ⊥) × (IsSpellable r.rtype r.rdata → ⊥)
IsRecordFault query front message place (receive_error.Query why) = ⊥
IsRecordFault query front message place receive_error.Short = ⊥
IsRecordFault query front message place receive_error.Id = ⊥
IsRecordFault query front message place receive_error.NotResponse = ⊥
IsRecordFault query front message place receive_error.Opcode = ⊥
IsRecordFault query front message place (receive_error.Rcode rcode) = ⊥
IsRecordFault query front message place receive_error.Counts = ⊥
IsRecordFault query front message place receive_error.Question = ⊥
IsRecordFault query front message place receive_error.Trailing = ⊥
IsRecordFault query front message place receive_error.Unfinished = ⊥
IsRecordFault query front message place receive_error.OutOfMemory = ⊥

-- The message, with the records of others before it, keeps the rules up to a place: there its group of records ends.
pub record KeepsRulesTo (query : AxfrQuery) (front : List Record) (first : Bool) (message : List ℕ) (group : List Record) (place : ℕ)
    : Type 0 where
  pub header : HasAnswerHeader query message
  pub start : ℕ
  pub asked : AsksAgain query first message start
  pub spelled : SpellsRecords message start group place
  pub lawful : IsOpen query (front ++ group) ⊎ IsClosed query (front ++ group)

-- The first rule that the message breaks: the rules of the header and the question, then those of each record in order,
-- and then that nothing follows the records.
abbrev pub IsMessageFault : AxfrQuery → List Record → Bool → List ℕ → ReceiveError → Type 0
IsMessageFault query front first message receive_error.Short = length message < 12
IsMessageFault query front first message receive_error.Id = (12 ≤ length message) × (id_of message ≢ query.id)
IsMessageFault query front first message receive_error.NotResponse =
    (12 ≤ length message) × (id_of message ≡ query.id) × (is_response message ≡ false)
IsMessageFault query front first message receive_error.Opcode =
    (12 ≤ length message) × (id_of message ≡ query.id) × (is_response message ≡ true) × (opcode_of message ≢ 0)
IsMessageFault query front first message (receive_error.Rcode rcode) =
    (12 ≤ length message) × (id_of message ≡ query.id) × (is_response message ≡ true) × (opcode_of message ≡ 0)
    × (rcode ≡ rcode_of message) × (rcode ≢ 0)
IsMessageFault query front first message receive_error.Counts =
    (12 ≤ length message) × (id_of message ≡ query.id) × (is_response message ≡ true) × (opcode_of message ≡ 0)
    × (rcode_of message ≡ 0) × (CountsAnswers message → ⊥)
IsMessageFault query front first message receive_error.Question =
    HasAnswerHeader query message × ((place : ℕ) → AsksAgain query first message place → ⊥)
IsMessageFault query front first message receive_error.Trailing =
    (group : List Record) × (place : ℕ) × KeepsRulesTo query front first message group place
    × (length group ≡ answer_count message) × (place ≢ length message)
IsMessageFault query front first message error =
    (group : List Record) × (place : ℕ) × KeepsRulesTo query front first message group place
    × (length group < answer_count message) × IsRecordFault query (front ++ group) message place error

abbrev pub is_first : List (List ℕ) → Bool
is_first [] = true
is_first (message ∷ messages) = false

-- A message of the stream breaks the rule, those before it keep all rules, and none of them has the last SOA.
pub record HasBadMessage (query : AxfrQuery) (stream : List ℕ) (error : ReceiveError) : Type 0 where
  pub messages : List (List ℕ)
  pub each : AllByRecursion IsFramable messages
  pub bad : List ℕ
  pub fits : IsFramable bad
  pub behind : List ℕ
  pub whole : stream ≡ frames messages ++ (frame bad ++ behind)
  pub groups : List (List Record)
  pub answers : AreAnswers query true messages groups
  pub still_open : IsOpen query (joined groups)
  pub fault : IsMessageFault query (joined groups) (is_first messages) bad error

-- Why a stream fails. (`OutOfMemory` may come for any stream.)
abbrev pub IsStreamFault : AxfrQuery → List ℕ → ReceiveError → Type 0
IsStreamFault query stream (receive_error.Query fault) = ⊥
IsStreamFault query stream receive_error.Unfinished = ⊥
IsStreamFault query stream receive_error.OutOfMemory = ⊤
IsStreamFault query stream error = HasBadMessage query stream error

-- how far a stream has come
pub data Stage : Type 0 where
  -- no whole message has come
  Fresh : Stage
  -- a whole message has come, but not the last SOA
  Begun : Stage
  -- the last SOA has come
  Ended : Stage
  -- a message broke a rule, or memory ran out
  Refused : ReceiveError → Stage

-- the stage before the last SOA, by the whole messages so far
abbrev pub stage_of : List (List ℕ) → Stage
stage_of [] = Fresh
stage_of (message ∷ messages) = Begun

-- the error that is kept
abbrev pub refusal_in : Stage → Option ReceiveError
refusal_in Fresh = None
refusal_in Begun = None
refusal_in Ended = None
refusal_in (Refused error) = Some error

-- What a receiver is: the query, the records so far, the octets of the open frame, and how far the stream has come.
pub record Heard : Type 0 where
  pub query : AxfrQuery
  pub records : List Record
  pub open_frame : List ℕ
  pub stage : Stage

-- The stream is whole messages that keep the rules of a transfer, with the records so far and without the last SOA, and
-- then the open frame.
pub record IsHeard (heard : Heard) (stream : List ℕ) : Type 0 where
  pub messages : List (List ℕ)
  pub splits : Splits stream messages heard.open_frame
  pub groups : List (List Record)
  pub answers : AreAnswers heard.query true messages groups
  pub joins : joined groups ≡ heard.records
  pub still_open : IsOpen heard.query heard.records
  pub stage : heard.stage ≡ stage_of messages

-- The receiver is as it is after this stream: it holds what these octets make of it. (A stream that failed includes
-- the piece that failed.)
abbrev pub IsAfterAt : Stage → Heard → List ℕ → Type 0
IsAfterAt Fresh heard stream = IsHeard heard stream
IsAfterAt Begun heard stream = IsHeard heard stream
IsAfterAt Ended heard stream = (heard.open_frame ≡ []) × IsTransfer heard.query stream heard.records
IsAfterAt (Refused error) heard stream = IsStreamFault heard.query stream error

abbrev pub IsAfter : Heard → List ℕ → Type 0
IsAfter heard stream = IsAfterAt heard.stage heard stream

-- A piece after the stream is taken up to the n-th octet: up to the end of the transfer, otherwise all of it.
pub record Takes (old : Heard) (stream piece : List ℕ) (new : Heard) (n : ℕ) : Type 0 where
  pub free : refusal_in old.stage ≡ None
  pub query : new.query ≡ old.query
  pub kept : refusal_in new.stage ≡ None
  pub within : n ≤ length piece
  pub after : IsAfter new (stream ++ take n piece)
  pub ends : (new.stage ≡ Ended) ⊎ ((new.stage ≢ Ended) × (n ≡ length piece))

-- A piece after the stream fails: with the error that is kept, or else by the rule that the stream breaks with the
-- piece. The error is kept from then on.
pub record Refuses (old : Heard) (stream piece : List ℕ) (new : Heard) (error : ReceiveError) : Type 0 where
  pub query : new.query ≡ old.query
  pub kept : new.stage ≡ Refused error
  pub why : ((old.stage ≡ Refused error) × (new ≡ old)) ⊎ ((refusal_in old.stage ≡ None) × IsStreamFault old.query (stream ++ piece) error)

-- Why there is no receiver: the query breaks a rule, or it breaks none and memory runs out.
abbrev pub IsAskFault : List ℕ → ReceiveError → Type 0
IsAskFault message (receive_error.Query fault) = IsQueryFault message fault
IsAskFault message receive_error.OutOfMemory = (query : AxfrQuery) × IsQuery message query
IsAskFault message receive_error.Short = ⊥
IsAskFault message receive_error.Id = ⊥
IsAskFault message receive_error.NotResponse = ⊥
IsAskFault message receive_error.Opcode = ⊥
IsAskFault message (receive_error.Rcode rcode) = ⊥
IsAskFault message receive_error.Counts = ⊥
IsAskFault message receive_error.Question = ⊥
IsAskFault message (receive_error.Record n) = ⊥
IsAskFault message receive_error.FirstNotSoa = ⊥
IsAskFault message (receive_error.Class n) = ⊥
IsAskFault message (receive_error.OutOfZone n) = ⊥
IsAskFault message (receive_error.SoaDiffers n) = ⊥
IsAskFault message (receive_error.AfterLast n) = ⊥
IsAskFault message (receive_error.Unspellable n) = ⊥
IsAskFault message receive_error.Trailing = ⊥
IsAskFault message receive_error.Unfinished = ⊥

-- Why there is no zone: the error that is kept, or the stream is only begun.
abbrev pub IsNoZone : Heard → List ℕ → ReceiveError → Type 0
IsNoZone heard stream error =
    (heard.stage ≡ Refused error)
    ⊎ ((error ≡ receive_error.Unfinished) × (refusal_in heard.stage ≡ None) × IsBegun heard.query stream)
