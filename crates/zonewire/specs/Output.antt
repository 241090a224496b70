-- The output of a job for its input.
use Rattle.std.specs.Prelude.{◌≡◌, ℕ, List, [], ◌∷◌, ◌++◌, length, false, Option, Some, unwrap_or, codes, decimal, ⊤}
use Rattle.dns_text.specs.Layout.{layout_of}
use Rattle.dns_text.specs.declared.layout.DisplayKind.{DisplayKind}
use Rattle.zone_canonical.specs.Canonical.{IsCanonical}
use Rattle.zone_records.specs.Record.{Record}
use Rattle.zone.specs.View.{apex_of}
use Rattle.zone_core.specs.Query.{AxfrQuery, IsQuery, query_octets}
use Rattle.zone.specs.ZoneText.{IsZoneText, IsZoneFault}
use Rattle.zone_send.specs.Sent.{AsksFor}
use Rattle.zone_send.specs.SentBy.{IsSentBy, IsSendFault}
use Rattle.zone_core.specs.declared.spelling.Spelling.{Spelling}
use Rattle.zone_core.specs.Transfer.{IsTransfer}
use Rattle.zone_receive.specs.Receiving.{IsAskFault, IsBegun, IsStreamFault}
use Rattle.zone.specs.Printed.{IsPrinted}
use Rattle.zone_receive.specs.declared.error.ReceiveError.{ReceiveError}
use Rattle.zone_receive.specs.declared.error.ReceiveError.TheVariants as receive_error
use Rattle.zone.specs.declared.zone_error.ZoneError.TheVariants as zone_error
use Rattle.zone_send.specs.declared.sending.error.SendError.{SendError}
use Rattle.zone_send.specs.declared.sending.error.SendError.TheVariants as send_error
use Rattle.zonewire_words.specs.declared.jobs.Job.{Job}
use Rattle.zonewire_words.specs.declared.jobs.Job.TheVariants as job
use Rattle.zonewire.specs.declared.fault.Fault.{Fault}
use Rattle.zonewire.specs.declared.fault.Fault.TheVariants as fault

-- the query of a job: it asks for the name that the job gives, or otherwise for the zone's, and all its flags are clear
abbrev pub query_of : ℕ → ℕ → Option (List (List ℕ)) → List Record → AxfrQuery
query_of id class apex records =
    record { id = id; recursion = false; name = unwrap_or apex (apex_of records); class = class }

-- The input is a zone's text, the job's query asks for that zone, and the output is what is sent for it. `query` is
-- what the octets of the job's query are read as.
pub record IsSendOutput (origin : Option (List (List ℕ))) (class id : ℕ) (apex : Option (List (List ℕ))) (max : ℕ)
    (spelling : Spelling) (input output : List ℕ) : Type 0 where
  pub records : List Record
  pub text : IsZoneText input origin class records
  pub query : AxfrQuery
  pub asked : IsQuery (query_octets (query_of id class apex records)) query
  pub asks : AsksFor query (apex_of records) class
  pub sent : IsSentBy spelling records query max output

-- The input is a zone's text, and nothing is sent for the job's query.
pub record IsNotSent (origin : Option (List (List ℕ))) (class id : ℕ) (apex : Option (List (List ℕ))) (max : ℕ) (spelling : Spelling)
    (input : List ℕ) (error : SendError) : Type 0 where
  pub records : List Record
  pub text : IsZoneText input origin class records
  pub refused : IsSendFault spelling records (apex_of records) class (query_octets (query_of id class apex records)) max error

-- Why no zone is read from the input: the first rule that the text breaks. A failed read or write is no fault of a job,
-- and `OutOfMemory` covers every allocation.
abbrev pub IsTextJobFault : Option (List (List ℕ)) → ℕ → List ℕ → Fault → Type 0
IsTextJobFault origin class input (fault.Zone zone_error.OutOfMemory) = ⊥
IsTextJobFault origin class input (fault.Zone error) = IsZoneFault input origin class error
IsTextJobFault origin class input fault.OutOfMemory = Unit {0}
IsTextJobFault origin class input (fault.Send error) = ⊥
IsTextJobFault origin class input (fault.Receive error) = ⊥
IsTextJobFault origin class input fault.Read = ⊥
IsTextJobFault origin class input fault.Write = ⊥

-- Why nothing is sent: no zone is read from the input, or nothing is sent for the job's query.
abbrev pub IsSendJobFault : Option (List (List ℕ)) → ℕ → ℕ → Option (List (List ℕ)) → ℕ → Spelling → List ℕ → Fault → Type 0
IsSendJobFault origin class id apex max spelling input (fault.Send send_error.OutOfMemory) = ⊥
IsSendJobFault origin class id apex max spelling input (fault.Send error) = IsNotSent origin class id apex max spelling input error
IsSendJobFault origin class id apex max spelling input error = IsTextJobFault origin class input error

-- the line with the number of records
abbrev pub count_line : List Record → List ℕ
count_line records = decimal (length records) ++ codes " records" ++ 10 ∷ []

-- The input is a zone's text, and the output is the number of the zone's records.
pub record IsCheckOutput (origin : Option (List (List ℕ))) (class : ℕ) (input output : List ℕ) : Type 0 where
  pub records : List Record
  pub text : IsZoneText input origin class records
  pub line : output ≡ count_line records

-- The input is a zone's text, and the output is the zone's canonical octets.
pub record IsCanonOutput (origin : Option (List (List ℕ))) (class : ℕ) (input output : List ℕ) : Type 0 where
  pub records : List Record
  pub text : IsZoneText input origin class records
  pub canonical : IsCanonical records output

-- The octets are read as a query, and the input begins with a transfer of these records that answers it. Whatever
-- follows is ignored.
pub record IsReceived (asking input : List ℕ) (records : List Record) : Type 0 where
  pub query : AxfrQuery
  pub asked : IsQuery asking query
  pub stream : List ℕ
  pub behind : List ℕ
  pub begins : input ≡ stream ++ behind
  pub transfer : IsTransfer query stream records

-- The octets are no query; or the input, as an answer to the query, is only begun, or breaks this rule first.
abbrev pub IsNotReceived : List ℕ → List ℕ → ReceiveError → Type 0
IsNotReceived asking input (receive_error.Query fault) = IsAskFault asking (receive_error.Query fault)
IsNotReceived asking input receive_error.Unfinished = (query : AxfrQuery) × IsQuery asking query × IsBegun query input
IsNotReceived asking input receive_error.OutOfMemory = ⊤
IsNotReceived asking input error = (query : AxfrQuery) × IsQuery asking query × IsStreamFault query input error

-- the octets of a job's query for the zone of this name, which depends on no records
abbrev pub asking_for : ℕ → ℕ → List (List ℕ) → List ℕ
asking_for class id apex = query_octets (query_of id class (Some apex) [])

-- The input begins with a transfer that answers the job's query, and the output is the text of the records that it
-- transfers.
pub record IsReceiveOutput (class id : ℕ) (apex : List (List ℕ)) (layout : DisplayKind) (input output : List ℕ) : Type 0 where
  pub records : List Record
  pub received : IsReceived (asking_for class id apex) input records
  pub text : IsPrinted (layout_of layout) records output

-- why the input has no output, as for a job that sends
abbrev pub IsReceiveJobFault : ℕ → ℕ → List (List ℕ) → List ℕ → Fault → Type 0
IsReceiveJobFault class id apex input (fault.Receive receive_error.OutOfMemory) = ⊥
IsReceiveJobFault class id apex input (fault.Receive error) = IsNotReceived (asking_for class id apex) input error
IsReceiveJobFault class id apex input fault.OutOfMemory = Unit {0}
IsReceiveJobFault class id apex input (fault.Zone error) = ⊥
IsReceiveJobFault class id apex input (fault.Send error) = ⊥
IsReceiveJobFault class id apex input fault.Read = ⊥
IsReceiveJobFault class id apex input fault.Write = ⊥

-- the output of a job for its input
abbrev pub IsOutput : Job → List ℕ → List ℕ → Type 0
IsOutput (job.Send origin class id apex max spelling) input output = IsSendOutput origin class id apex max spelling input output
IsOutput (job.Receive class id apex layout) input output = IsReceiveOutput class id apex layout input output
IsOutput (job.Check origin class) input output = IsCheckOutput origin class input output
IsOutput (job.Canon origin class) input output = IsCanonOutput origin class input output

abbrev pub IsJobFault : Job → List ℕ → Fault → Type 0
IsJobFault (job.Send origin class id apex max spelling) input error = IsSendJobFault origin class id apex max spelling input error
IsJobFault (job.Receive class id apex layout) input error = IsReceiveJobFault class id apex input error
IsJobFault (job.Check origin class) input error = IsTextJobFault origin class input error
IsJobFault (job.Canon origin class) input error = IsTextJobFault origin class input error
