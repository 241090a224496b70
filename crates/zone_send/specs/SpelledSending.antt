-- What holds while messages are written with names in any spelling. Only contracts inside the crate use it.
use Rattle.std.specs.Prelude.{◌≡◌, ◌==◌, ◌||◌, ◌+◌, ◌<◌, ◌≤◌, ◌^◌, ℕ, Bool, true, false, Some, List, [], ◌∷◌, ◌++◌, length, map, take, slice_get, IfSome}
use Rattle.std.specs.List.{AllByRecursion, push}
use Rattle.dns_name.specs.Spelling.{Spelling}
use Rattle.dns_name.specs.Page.{Page, Parts, write}
use Rattle.dns_header.specs.Question.{question_parts}
use Rattle.dns_builder.specs.Built.{Built, Draft, IsDraftOf}
use Rattle.dns_message.specs.Record.{IsWritten}
use Rattle.zone_records.specs.Record.{Record}
use Rattle.zone_core.specs.Query.{AxfrQuery, question_of}
use Rattle.zone_core.specs.Frames.{frame, frames}
use Rattle.zone_send.specs.Sending.{header_front}
use Rattle.zone_core.specs.Cutting.{IsFullCut, FitsNotBehind}
use Rattle.zone_send.specs.Spelled.{spelled_size}
use Rattle.zone_send.specs.SpelledSent.{spelled_message, IsSpelledBlocked}
use Rattle.zone_send.specs.declared.sending.error.SendError.{SendError}
use Rattle.zone_send.specs.declared.sending.error.SendError.TheVariants as send_error

-- Whether data of the type has a name that may be written with a pointer. These are the types of RFC 1035 with names in
-- their data (RFC 3597 4): NS, MD, MF, CNAME, SOA, MB, MG, MR, PTR, MINFO and MX.
abbrev pub may_have_pointer : ℕ → Bool
may_have_pointer rtype =
    rtype == 2 || rtype == 3 || rtype == 4 || rtype == 5 || rtype == 6 || rtype == 7 || rtype == 8 || rtype == 9
    || rtype == 12 || rtype == 14 || rtype == 15

-- The record is written as by parts that a writer gives for it, on every page.
pub record IsWrittenAs (s : Spelling) (r : Record) (parts : Parts) : Type 0 where
  pub given : Parts
  pub is_written : IsWritten r given
  pub same : (page : Page) → write s page parts ≡ write s page given

-- this item is the parts that a writer gives for the record
abbrev pub IsItem : (Record → Parts) → Record → Type 0
IsItem item r = (parts : Parts) → IsWritten r parts → parts ≡ item r

abbrev pub AreItems : (Record → Parts) → List Record → Type 0
AreItems item records = AllByRecursion (IsItem item) records

-- a message with the query's question and these answers
abbrev pub answer_built : AxfrQuery → List Parts → Built
answer_built query answers = record {
  header = header_front query;
  sections = (question_parts (question_of query) ∷ []) ∷ answers ∷ [];
}

-- a builder of the message for the group, whose pushes fail if they would make it longer than `max`
pub record HoldsGroup (s : Spelling) (query : AxfrQuery) (item : Record → Parts) (max : ℕ) (group : List Record) (draft : Draft) : Type 0 where
  pub built : IsDraftOf s (answer_built query (map item group)) draft
  pub limit : draft.limit ≡ max + 1
  pub bound : draft.bound ≡ Some 65535
  pub small : max < 2 ^ 16
  pub few : length group ≤ length draft.page.octets

-- the record is added if it has room, otherwise the builder keeps the group
abbrev pub IsPushed : Spelling → AxfrQuery → (Record → Parts) → ℕ → List Record → Record → Bool → Draft → Type 0
IsPushed s query item max group r true new =
    HoldsGroup s query item max (push group r) new × (spelled_size s query item (push group r) ≤ max)
IsPushed s query item max group r false new =
    HoldsGroup s query item max group new × (max < spelled_size s query item (push group r))

-- the message holds the records from one index up to another, at least one, and has room for them
pub record HoldsUpTo (s : Spelling) (query : AxfrQuery) (item : Record → Parts) (max : ℕ) (all : List Record) (start next : ℕ) (draft : Draft) : Type 0 where
  pub first : Record
  pub others : List Record
  pub there : slice_get all start ≡ Some first
  pub splits : take next all ≡ take start all ++ first ∷ others
  pub small : spelled_size s query item (first ∷ others) ≤ max
  pub holds : HoldsGroup s query item max (first ∷ others) draft

-- the frame has the message of the records from one index up to another, at least one, and the next record has no room
pub record IsNextFrame (s : Spelling) (query : AxfrQuery) (item : Record → Parts) (max : ℕ) (all : List Record) (start next : ℕ)
    (octets : List ℕ) : Type 0 where
  pub first : Record
  pub others : List Record
  pub there : slice_get all start ≡ Some first
  pub splits : take next all ≡ take start all ++ first ∷ others
  pub small : spelled_size s query item (first ∷ others) ≤ max
  pub later : start < next
  pub within : next ≤ length all
  pub full : IfSome (slice_get all next) (λ x. max < spelled_size s query item (push (first ∷ others) x))
  pub framed : octets ≡ frame (spelled_message s query item (first ∷ others))

-- the record at the index has no room even alone
pub record HasNoRoomAlone (s : Spelling) (query : AxfrQuery) (item : Record → Parts) (max : ℕ) (all : List Record) (start : ℕ) : Type 0 where
  pub r : Record
  pub there : slice_get all start ≡ Some r
  pub large : max < spelled_size s query item (r ∷ [])

abbrev pub IsFrameFault : Spelling → AxfrQuery → (Record → Parts) → ℕ → List Record → ℕ → SendError → Type 0
IsFrameFault s query item max all start (send_error.Query fault) = ⊥
IsFrameFault s query item max all start send_error.WrongZone = ⊥
IsFrameFault s query item max all start (send_error.Record n) = (n ≡ start + 1) × HasNoRoomAlone s query item max all start
IsFrameFault s query item max all start send_error.OutOfMemory = Unit {0}

-- the stream is the full cut of the records up to an index, where a message begins
pub record SendsUpTo (s : Spelling) (query : AxfrQuery) (item : Record → Parts) (max : ℕ) (all : List Record) (next : ℕ)
    (stream : List ℕ) : Type 0 where
  pub groups : List (List Record)
  pub cut : IsFullCut (spelled_size s query item) max (take next all) groups
  pub behind : IfSome (slice_get all next) (FitsNotBehind (spelled_size s query item) max groups)
  pub framed : stream ≡ frames (map (spelled_message s query item) groups)

-- why the stream ends early
abbrev pub IsRefusedSpelled : Spelling → List Record → AxfrQuery → ℕ → SendError → Type 0
IsRefusedSpelled s records query max (send_error.Query fault) = ⊥
IsRefusedSpelled s records query max send_error.WrongZone = ⊥
IsRefusedSpelled s records query max (send_error.Record n) = IsSpelledBlocked s records query max n
IsRefusedSpelled s records query max send_error.OutOfMemory = Unit {0}
