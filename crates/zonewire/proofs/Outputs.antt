-- Why a text or a zone has no output.
use Rattle.std.proofs.Common.{◌≡◌, ℕ, List, subst}
use Rattle.std.specs.Prelude.{Option}
use Rattle.zone_records.specs.Record.{Record}
use Rattle.zone.specs.View.{apex_of}
use Rattle.zone.specs.ZoneText.{IsZoneFault, IsZoneText}
use Rattle.zone.specs.declared.zone_error.ZoneError.{ZoneError}
use Rattle.zone.specs.declared.zone_error.ZoneError.TheVariants.{OutOfMemory as NoMemory}
use Rattle.zone_send.specs.SentBy.{IsSendFault}
use Rattle.zone_core.specs.declared.spelling.Spelling.{Spelling}
use Rattle.zone_send.specs.declared.sending.error.SendError.{SendError}
use Rattle.zone_send.specs.declared.sending.error.SendError.TheVariants.{Query, WrongZone, Record as Blocked, OutOfMemory}
use Rattle.zonewire.specs.Fault.{of_send, of_zone}
use Rattle.zone_core.specs.Query.{query_octets}
use Rattle.zonewire.specs.Output.{IsNotSent, IsSendJobFault, IsTextJobFault, query_of}

-- why no zone is read from the input
pub text-fault : (origin : Option (List (List ℕ))) (class : ℕ) (input : List ℕ) (error : ZoneError) → IsZoneFault input origin class error
    → IsTextJobFault origin class input (of_zone error)
text-fault origin class input NoMemory refused = tt
text-fault origin class input error refused = refused

-- the same for a job that sends
pub send-text-fault : (origin : Option (List (List ℕ))) (class id : ℕ) (apex : Option (List (List ℕ))) (max : ℕ) (spelling : Spelling)
    (input : List ℕ) (error : ZoneError) → IsZoneFault input origin class error → IsSendJobFault origin class id apex max spelling input (of_zone error)
send-text-fault origin class id apex max spelling input NoMemory refused = tt
send-text-fault origin class id apex max spelling input error refused = refused

-- nothing is sent for the job's query
not-sent : (records : List Record) (origin : Option (List (List ℕ))) (zone_class class id : ℕ) (apex : Option (List (List ℕ))) (max : ℕ) (spelling : Spelling) (octets input : List ℕ) (error : SendError)
    → octets ≡ query_octets (query_of id zone_class apex records) → IsZoneText input origin class records → zone_class ≡ class
    → IsSendFault spelling records (apex_of records) zone_class octets max error → IsNotSent origin class id apex max spelling input error
not-sent records origin zone_class class id apex max spelling octets input error is text same refused =
    let P : List ℕ → Type 0 = λ o. IsSendFault spelling records (apex_of records) zone_class o max error in
    let Q : ℕ → Type 0 = λ c. IsSendFault spelling records (apex_of records) c (query_octets (query_of id c apex records)) max error in
    record { records = records; text = text; refused = subst Q same (subst P is refused) }

-- the fault of the job for it
pub send-fault : (records : List Record) (origin : Option (List (List ℕ))) (zone_class class id : ℕ) (apex : Option (List (List ℕ))) (max : ℕ)
    (spelling : Spelling) (octets input : List ℕ) (error : SendError) → octets ≡ query_octets (query_of id zone_class apex records) → IsZoneText input origin class records → zone_class ≡ class
    → IsSendFault spelling records (apex_of records) zone_class octets max error → IsSendJobFault origin class id apex max spelling input (of_send error)
send-fault records origin zone_class class id apex max spelling octets input (Query fault) is text same refused =
    not-sent records origin zone_class class id apex max spelling octets input (Query fault) is text same refused
send-fault records origin zone_class class id apex max spelling octets input WrongZone is text same refused =
    not-sent records origin zone_class class id apex max spelling octets input WrongZone is text same refused
send-fault records origin zone_class class id apex max spelling octets input (Blocked n) is text same refused =
    not-sent records origin zone_class class id apex max spelling octets input (Blocked n) is text same refused
send-fault records origin zone_class class id apex max spelling octets input OutOfMemory is text same refused = tt
