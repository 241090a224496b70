-- What a sender holds while its stream grows. Only contracts inside the crate use it.
use Rattle.std.specs.Prelude.{◌≡◌, ◌+◌, ◌<◌, ◌≤◌, ◌^◌, ℕ, Option, Some, None, List, [], ◌∷◌, ◌++◌, length, take, map, flat_map}
use Rattle.std.specs.Prelude.{if◌then◌else◌}
use Rattle.std.specs.Int.{to_be_bytes, w16}
use Rattle.std.specs.List.{push}
use Rattle.dns_label.specs.Name.{IsName}
use Rattle.dns_header.specs.Question.{question_octets}
use Rattle.dns_message.specs.Record.{record_octets}
use Rattle.zone_records.specs.Record.{Record}
use Rattle.zone_core.specs.Query.{AxfrQuery, question_of}
use Rattle.zone_core.specs.Frames.{frames}
use Rattle.zone_send.specs.Sent.{message, size, with_soa_again}
use Rattle.zone_core.specs.Cutting.{IsFullCut, IsBlocked, FitsNotBehind}
use Rattle.zone_send.specs.declared.sending.plain.Sender.{Sender}
use Rattle.zone_send.specs.declared.sending.error.SendError.{SendError}
use Rattle.zone_send.specs.declared.sending.error.SendError.TheVariants as send_error

-- the header of each message but for its counts
abbrev pub header_front : AxfrQuery → List ℕ
header_front query = to_be_bytes w16 query.id ++ (if query.recursion then 133 else 132) ∷ 0 ∷ []

-- a message up to its count of answers, and what is between that count and the records
abbrev pub before_count : AxfrQuery → List ℕ
before_count query = to_be_bytes w16 query.id ++ (if query.recursion then 133 else 132) ∷ 0 ∷ 0 ∷ 1 ∷ []

abbrev pub behind_count : AxfrQuery → List ℕ
behind_count query = 0 ∷ 0 ∷ 0 ∷ 0 ∷ question_octets (question_of query)

-- a message with this group of records, and these octets as its count of answers
abbrev pub counted_message : AxfrQuery → List ℕ → List Record → List ℕ
counted_message query count group =
    before_count query ++ (count ++ (behind_count query ++ flat_map record_octets group))

-- what never changes in a sender
pub record IsFor (sender : Sender) (query : AxfrQuery) : Type 0 where
  pub small : sender.max < 2 ^ 16
  pub name : IsName query.name
  pub opening : sender.opening.items ≡ message query []

-- The last message begins at `start`, has this group of records, and follows the frames of these groups. Its length and
-- its count of answers may still be wrong.
pub record Stands (sender : Sender) (query : AxfrQuery) (start : ℕ) (front : List (List Record)) (group : List Record)
    (mark count : List ℕ) : Type 0 where
  pub is_for : IsFor sender query
  pub place : start ≡ length (frames (map (message query) front)) + 2
  pub last : sender.last ≡ Some start
  pub answers : sender.answers ≡ length group
  pub mark_long : length mark ≡ 2
  pub count_long : length count ≡ 2
  pub octets : sender.stream.items ≡ frames (map (message query) front) ++ (mark ++ counted_message query count group)

-- the same with the right length and count
abbrev pub StandsWhole : Sender → AxfrQuery → ℕ → List (List Record) → List Record → Type 0
StandsWhole sender query start front group =
    Stands sender query start front group (to_be_bytes w16 (size query group)) (to_be_bytes w16 (length group))

pub record LastStands (sender : Sender) (query : AxfrQuery) (start : ℕ) (groups : List (List Record)) : Type 0 where
  pub front : List (List Record)
  pub group : List Record
  pub are : groups ≡ push front group
  pub stands : StandsWhole sender query start front group

-- the last message, if there is one
abbrev pub LastIs : Sender → AxfrQuery → Option ℕ → List (List Record) → Type 0
LastIs sender query None groups = (groups ≡ []) × (sender.stream.items ≡ [])
LastIs sender query (Some start) groups = LastStands sender query start groups

-- the stream is whole messages with these groups of records
pub record HoldsGroups (sender : Sender) (query : AxfrQuery) (groups : List (List Record)) : Type 0 where
  pub is_for : IsFor sender query
  pub last : LastIs sender query sender.last groups

-- the stream is the full cut of the records
pub record Holds (sender : Sender) (query : AxfrQuery) (records : List Record) : Type 0 where
  pub groups : List (List Record)
  pub holds : HoldsGroups sender query groups
  pub cut : IsFullCut (size query) sender.max records groups

-- the record has no room in the last message, if there is one
abbrev pub HasNoRoom : Sender → Option ℕ → ℕ → Type 0
HasNoRoom sender None len = Unit {0}
HasNoRoom sender (Some start) len = sender.max + start < length sender.stream.items + len

-- the record fits neither after the others nor alone
pub record FitsNowhere (sender : Sender) (query : AxfrQuery) (records : List Record) (r : Record) : Type 0 where
  pub groups : List (List Record)
  pub cut : IsFullCut (size query) sender.max records groups
  pub behind : FitsNotBehind (size query) sender.max groups r
  pub alone : sender.max < size query (r ∷ [])

-- so many octets have the first records of these
abbrev pub octets_before : List Record → ℕ → ℕ
octets_before records count = length (flat_map record_octets (take count records))

-- the records from index `start` up to index `end` have this room, and with the next one they do not
pub record IsRun (records : List Record) (start room end : ℕ) : Type 0 where
  pub ordered : start ≤ end
  pub within : end ≤ length records
  pub fits : octets_before records end ≤ octets_before records start + room
  pub full : end < length records → octets_before records start + room < octets_before records (end + 1)

-- why the stream ends early
abbrev pub IsRefusedBy : AxfrQuery → ℕ → List Record → SendError → Type 0
IsRefusedBy query max records (send_error.Query fault) = ⊥
IsRefusedBy query max records send_error.WrongZone = ⊥
IsRefusedBy query max records (send_error.Record n) = IsBlocked (size query) max (with_soa_again records) n
IsRefusedBy query max records send_error.OutOfMemory = Unit {0}
