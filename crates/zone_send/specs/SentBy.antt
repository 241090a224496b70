-- What is sent for a zone and a query under a `Spelling`, and why nothing is sent (RFC 5936 2.2).
use Rattle.std.specs.Prelude.{ℕ, List, ⊤}
use Rattle.dns_name.specs.Spelling.{static_spelling, tree_spelling, hash_spelling}
use Rattle.zone_records.specs.Record.{Record}
use Rattle.zone_core.specs.Query.{AxfrQuery, IsQuery, IsQueryFault}
use Rattle.zone_core.specs.Cutting.{IsBlocked}
use Rattle.zone_send.specs.Sent.{size, with_soa_again, IsSent, AsksFor}
use Rattle.zone_send.specs.SpelledSent.{IsSpelledSent, IsSpelledBlocked}
use Rattle.zone_core.specs.declared.spelling.Spelling.{Spelling}
use Rattle.zone_core.specs.declared.spelling.Spelling.TheVariants.{Plain, Static, Tree, Hash}
use Rattle.zone_send.specs.declared.sending.error.SendError.{SendError}
use Rattle.zone_send.specs.declared.sending.error.SendError.TheVariants as send_error

-- the stream is the frames of the full cut, in messages of at most `max` octets
abbrev pub IsSentBy : Spelling → List Record → AxfrQuery → ℕ → List ℕ → Type 0
IsSentBy Plain records query max stream = IsSent records query max stream
IsSentBy Static records query max stream = IsSpelledSent static_spelling records query max stream
IsSentBy Tree records query max stream = IsSpelledSent tree_spelling records query max stream
IsSentBy Hash records query max stream = IsSpelledSent hash_spelling records query max stream

-- names are received in their own case: they are written in full, or a pointer replaces only the same octets
abbrev pub KeepsCase : Spelling → Type 0
KeepsCase Plain = ⊤
KeepsCase Static = ⊥
KeepsCase Tree = ⊤
KeepsCase Hash = ⊥

-- the n-th of the records and the SOA again, counted from 1, has room in no message
abbrev pub IsBlockedBy : Spelling → List Record → AxfrQuery → ℕ → ℕ → Type 0
IsBlockedBy Plain records query max n = IsBlocked (size query) max (with_soa_again records) n
IsBlockedBy Static records query max n = IsSpelledBlocked static_spelling records query max n
IsBlockedBy Tree records query max n = IsSpelledBlocked tree_spelling records query max n
IsBlockedBy Hash records query max n = IsSpelledBlocked hash_spelling records query max n

-- Why nothing is sent, by the first rule in the order of the variants: the query breaks a rule, it asks for another
-- zone, or a record is blocked. `OutOfMemory` implies that the query asks for the zone.
abbrev pub IsSendFault : Spelling → List Record → List (List ℕ) → ℕ → List ℕ → ℕ → SendError → Type 0
IsSendFault spelling records apex class octets max (send_error.Query fault) = IsQueryFault octets fault
IsSendFault spelling records apex class octets max send_error.WrongZone =
    (query : AxfrQuery) × IsQuery octets query × (AsksFor query apex class → ⊥)
IsSendFault spelling records apex class octets max (send_error.Record n) =
    (query : AxfrQuery) × IsQuery octets query × AsksFor query apex class × IsBlockedBy spelling records query max n
IsSendFault spelling records apex class octets max send_error.OutOfMemory =
    (query : AxfrQuery) × IsQuery octets query × AsksFor query apex class

-- why a stream for a query that asks for the zone ends early
abbrev pub IsRefusedFor : Spelling → List Record → AxfrQuery → ℕ → SendError → Type 0
IsRefusedFor spelling records query max (send_error.Query fault) = ⊥
IsRefusedFor spelling records query max send_error.WrongZone = ⊥
IsRefusedFor spelling records query max (send_error.Record n) = IsBlockedBy spelling records query max n
IsRefusedFor spelling records query max send_error.OutOfMemory = Unit {0}
