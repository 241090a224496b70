-- How good a sent stream is: no division of the records into messages has fewer messages, and no freely compressed
-- messages are fewer or shorter (RFC 5936 2.2, RFC 1035 4.1.4).
use Rattle.std.specs.Prelude.{◌≡◌, ◌≤◌, ◌↔◌, ℕ, List, length, ⊤}
use Rattle.std.specs.List.{AllByRecursion, AllZip}
use Rattle.dns_name.specs.Page.{Parts}
use Rattle.dns_name.specs.Spelling.{tree_spelling, hash_spelling}
use Rattle.dns_name.specs.Spelling as names
use Rattle.dns_message.specs.Record.{IsWritten}
use Rattle.dns_compression_laws.specs.Free.{IsFree}
use Rattle.dns_compression_laws.specs.Groups.{group_parts}
use Rattle.zone.specs.Canonical.{IsCanonical}
use Rattle.zone_records.specs.Record.{Record}
use Rattle.zone_core.specs.Query.{AxfrQuery, IsQuery}
use Rattle.zone_core.specs.Frames.{frames, IsFramable}
use Rattle.zone_core.specs.Cutting.{IsCutting, Fits}
use Rattle.zone_core.specs.Transfer.{IsTransfer, IsExactTransfer}
use Rattle.zone.specs.View.{apex_of}
use Rattle.zone_send.specs.Sent.{size, with_soa_again, AsksFor}
use Rattle.zone_send.specs.SentBy.{IsSentBy, KeepsCase}
use Rattle.zone_send.specs.Spelled.{answer_head, spelled_size, IsFreeAnswer, SpellGroups}
use Rattle.zone_send.specs.SpelledSent.{IsNear}
use Rattle.zone_core.specs.declared.spelling.Spelling.{Spelling}
use Rattle.zone_core.specs.declared.spelling.Spelling.TheVariants.{Plain, Static, Tree, Hash}
use Rattle.zone_send.specs.declared.sending.error.SendError.{SendError}
use Rattle.zone_send.specs.declared.sending.error.SendError.TheVariants as send_error

-- The stream is a transfer of records that equal these up to the ASCII case of owners and compressible names.
pub record IsNearTransfer (query : AxfrQuery) (stream : List ℕ) (records : List Record) : Type 0 where
  pub others : List Record
  pub transfer : IsTransfer query stream others
  pub near : AllZip IsNear records others

-- What a reader gets from the stream: the same records if names are compared octet for octet, otherwise records that
-- differ at most in case.
abbrev pub IsTransferBy : Spelling → AxfrQuery → List ℕ → List Record → Type 0
IsTransferBy Plain query stream records = IsExactTransfer query stream records
IsTransferBy Static query stream records = IsNearTransfer query stream records
IsTransferBy Tree query stream records = IsExactTransfer query stream records
IsTransferBy Hash query stream records = IsNearTransfer query stream records

-- The stream is messages, no more than the groups of any cutting of the records that fits. `size` is the number of
-- octets of the message for a group.
pub record IsFewest (size_of : List Record → ℕ) (max : ℕ) (records : List Record) (stream : List ℕ) : Type 0 where
  pub messages : List (List ℕ)
  pub each : AllByRecursion IsFramable messages
  pub whole : stream ≡ frames messages
  pub fewest : (groups : List (List Record)) → Fits size_of max records groups → length messages ≤ length groups

-- no cutting of the records fits
abbrev pub HasNoCutting : (List Record → ℕ) → ℕ → List Record → Type 0
HasNoCutting size_of max records = (groups : List (List Record)) → Fits size_of max records groups → ⊥

-- the same with names by a spelling, each record by the parts that a writer gives
pub record IsSpelledFewest (s : names.Spelling) (records : List Record) (query : AxfrQuery) (max : ℕ) (stream : List ℕ) : Type 0 where
  pub item : Record → Parts
  pub each : AllByRecursion (λ r. IsWritten r (item r)) records
  pub is : IsFewest (spelled_size s query item) max (with_soa_again records) stream

pub record HasNoSpelledCutting (s : names.Spelling) (records : List Record) (query : AxfrQuery) (max : ℕ) : Type 0 where
  pub item : Record → Parts
  pub each : AllByRecursion (λ r. IsWritten r (item r)) records
  pub none : HasNoCutting (spelled_size s query item) max (with_soa_again records)

-- No stream of the records and the SOA again, with names written this way, has fewer messages: with names in full, and
-- with pointers to any suffix in messages of at most 16,384 octets, which pointers reach. (For the spelling that
-- remembers at most 24 suffixes this says nothing.)
abbrev pub IsFewestBy : Spelling → List Record → AxfrQuery → ℕ → List ℕ → Type 0
IsFewestBy Plain records query max stream = IsFewest (size query) max (with_soa_again records) stream
IsFewestBy Static records query max stream = ⊤
IsFewestBy Tree records query max stream = max ≤ 16384 → IsSpelledFewest tree_spelling records query max stream
IsFewestBy Hash records query max stream = max ≤ 16384 → IsSpelledFewest hash_spelling records query max stream

-- and no cutting fits
abbrev pub HasNoCuttingBy : Spelling → List Record → AxfrQuery → ℕ → Type 0
HasNoCuttingBy Plain records query max = HasNoCutting (size query) max (with_soa_again records)
HasNoCuttingBy Static records query max = ⊤
HasNoCuttingBy Tree records query max = max ≤ 16384 → HasNoSpelledCutting tree_spelling records query max
HasNoCuttingBy Hash records query max = max ≤ 16384 → HasNoSpelledCutting hash_spelling records query max

-- what holds if a record has room in no message
abbrev pub IfRecord : SendError → Type 0 → Type 0
IfRecord (send_error.Query fault) P = ⊤
IfRecord send_error.WrongZone P = ⊤
IfRecord (send_error.Record n) P = P
IfRecord send_error.OutOfMemory P = ⊤

-- The message spells the group freely, and no message that does so is shorter, whatever its header.
pub record IsShortest (query : AxfrQuery) (item : Record → Parts) (message : List ℕ) (group : List Record) : Type 0 where
  pub free : IsFree message (group_parts (answer_head query) item group)
  pub shortest : (rival : List ℕ) → IsFreeAnswer query item rival group → length message ≤ length rival

-- Each message of the stream is a shortest one of its records. No messages of at most `max` octets that spell the
-- records and the SOA again freely are fewer, in groups of any size and after any headers.
pub record IsBest (records : List Record) (query : AxfrQuery) (max : ℕ) (stream : List ℕ) : Type 0 where
  pub item : Record → Parts
  pub each : AllByRecursion (λ r. IsWritten r (item r)) records
  pub messages : List (List ℕ)
  pub framable : AllByRecursion IsFramable messages
  pub whole : stream ≡ frames messages
  pub groups : List (List Record)
  pub cut : IsCutting (with_soa_again records) groups
  pub shortest : AllZip (IsShortest query item) messages groups
  pub fewest : (rivals : List (List ℕ)) (others : List (List Record)) → IsCutting (with_soa_again records) others
      → SpellGroups query item max rivals others → length messages ≤ length rivals

-- the same if suffixes are remembered octet for octet, in messages of at most 16,384 octets
abbrev pub IsBestBy : Spelling → List Record → AxfrQuery → ℕ → List ℕ → Type 0
IsBestBy Plain records query max stream = ⊤
IsBestBy Static records query max stream = ⊤
IsBestBy Tree records query max stream = max ≤ 16384 → IsBest records query max stream
IsBestBy Hash records query max stream = ⊤

-- Whatever is sent, with names written this way, for the records that are received from the stream, is the stream
-- again.
abbrev pub IsSentAgain : Spelling → AxfrQuery → ℕ → List ℕ → Type 0
IsSentAgain spelling query max stream =
    (others : List Record) (again : List ℕ) → IsTransfer query stream others → IsSentBy spelling others query max again → again ≡ stream

-- The records that are received from the stream have the canonical octets of these (RFC 4034 6).
abbrev pub KeepsCanonical : AxfrQuery → List Record → List ℕ → Type 0
KeepsCanonical query records stream =
    (others : List Record) (octets : List ℕ) → IsTransfer query stream others → IsCanonical records octets ↔ IsCanonical others octets

-- What is sent for a zone in answer to the octets of a query, which asks for it: a reader gets the zone's records from
-- the stream, no stream of these has fewer messages, and each message is a shortest one if suffixes are remembered
-- octet for octet. What is received has the zone's canonical octets, and is sent again as the same stream if names keep
-- their case.
pub record IsSentFor (spelling : Spelling) (records : List Record) (class : ℕ) (octets : List ℕ) (max : ℕ) (stream : List ℕ) : Type 0 where
  pub query : AxfrQuery
  pub is : IsQuery octets query
  pub asks : AsksFor query (apex_of records) class
  pub sent : IsSentBy spelling records query max stream
  pub transfer : IsTransferBy spelling query stream records
  pub fewest : IsFewestBy spelling records query max stream
  pub best : IsBestBy spelling records query max stream
  pub again : KeepsCase spelling → IsSentAgain spelling query max stream
  pub canonical : KeepsCanonical query records stream

-- The octets are a query, and no messages of at most `max` octets that answer it hold the records.
pub record FitsNoMessages (spelling : Spelling) (records : List Record) (octets : List ℕ) (max : ℕ) : Type 0 where
  pub query : AxfrQuery
  pub is : IsQuery octets query
  pub none : HasNoCuttingBy spelling records query max
