-- What a stream, and what a fault, says of a zone and a query.
use Rattle.std.proofs.Common.{◌≡◌, ℕ, ◌<◌, ◌^◌, List, [], ◌∷◌, get_or, subst, arith}
use Rattle.dns_header.specs.Header.{id_of}
use Rattle.zone_records.specs.Record.{Record}
use Rattle.zone_send.specs.declared.sending.error.SendError.{SendError}
use Rattle.zone_send.specs.declared.sending.error.SendError.TheVariants as send_error
use Rattle.zone_core.specs.Query.{AxfrQuery, IsQuery}
use Rattle.zone_records.specs.Records.{AreRecordsOf}
use Rattle.zone_send.specs.Sent.{IsQueryFor, AsksFor}
use Rattle.zone_send.specs.SentBy.{IsSendFault, IsRefusedFor}
use Rattle.zone_core.specs.declared.spelling.Spelling.{Spelling}
use Rattle.zone.specs.View.{apex_of}

fault_of : (spelling : Spelling) (query : AxfrQuery) (class : ℕ) (records : List Record) (octets : List ℕ) (max : ℕ) (error : SendError)
    → IsQuery octets query → AsksFor query (apex_of records) class → IsRefusedFor spelling records query max error
    → IsSendFault spelling records (apex_of records) class octets max error
fault_of spelling query class records octets max (send_error.Query fault) is asks refused = absurd refused
fault_of spelling query class records octets max send_error.WrongZone is asks refused = absurd refused
fault_of spelling query class records octets max (send_error.Record n) is asks refused = (query, is, asks, refused)
fault_of spelling query class records octets max send_error.OutOfMemory is asks refused = (query, is, asks)

pub fault_for : (spelling : Spelling) (query : AxfrQuery) (class : ℕ) (held records : List Record) (octets : List ℕ) (max : ℕ) (error : SendError)
    → IsQuery octets query → AsksFor query (apex_of records) class → held ≡ records → IsRefusedFor spelling held query max error
    → IsSendFault spelling records (apex_of records) class octets max error
fault_for spelling query class held records octets max error is asks are refused =
    let P : List Record → Type 0 = λ rs. IsRefusedFor spelling rs query max error in
    fault_of spelling query class records octets max error is asks (subst P are refused)

-- the class of a zone fits in two octets
class_small : (class : ℕ) (records : List Record) → AreRecordsOf class records → class < 2 ^ 16
class_small class [] are = absurd are.zone
class_small class (soa ∷ others) are =
    let first = are.each.0.sendable in
    omega (arith, first.lawful.class, first.class_is)

pub query_for : (query : AxfrQuery) (class : ℕ) (records : List Record) (octets : List ℕ) → IsQuery octets query → query.id < 2 ^ 16
    → AsksFor query (apex_of records) class → AreRecordsOf class records → IsQueryFor records class query
query_for query class records octets is small asks are = record {
  id = small;
  name = is.question.name.is_name;
  class_fits = omega (arith, class_small class records are, asks.class_is);
  asks = asks;
}

-- an ID fits in two octets
pub id_small : (octets : List ℕ) → ((i : ℕ) → get_or octets i 0 < 256) → id_of octets < 2 ^ 16
id_small [] each = omega arith
id_small (a ∷ []) each = let high : a < 256 = each 0 in omega arith
id_small (a ∷ (b ∷ octets)) each =
    let high : a < 256 = each 0 in
    let low_octet : b < 256 = each 1 in
    omega arith
