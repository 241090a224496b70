-- What each call hands out, and why it fails.
use Rattle.std.specs.Prelude.{◌≡◌, ◌⊎◌, ℕ, List, false, ⊤}
use Rattle.dns_label.specs.NameText.{IsNameText}
use Rattle.dns_text.specs.Layout.{layout_of}
use Rattle.dns_text.specs.declared.layout.DisplayKind.{DisplayKind}
use Rattle.zone.specs.View.{apex_of}
use Rattle.zone_canonical.specs.Canonical.{IsCanonical}
use Rattle.zone_core.specs.Query.{query_octets}
use Rattle.zone_records.specs.Record.{Record}
use Rattle.zone.specs.Printed.{IsPrinted}
use Rattle.zone_send.specs.Best.{FitsNoMessages, IfRecord, IsSentFor}
use Rattle.zone_send.specs.SentBy as sent
use Rattle.zone_core.specs.declared.spelling.Spelling.{Spelling}
use Rattle.zone_send.specs.declared.sending.error.SendError.{SendError}
use Rattle.zonewire.specs.Output.{IsNotReceived, IsReceived}
use Rattle.zonewire_c.specs.Given.{HasLayout, HasSpelling, IsLayout, IsNoLayout, IsNoSpelling, IsSpelling, IsTextFault, IsTextOf}
use Rattle.zonewire_c.specs.declared.fault.Fault.{Fault}
use Rattle.zonewire_c.specs.declared.fault.Fault.TheVariants as fault

-- The octets are the printed text of the zone of the text.
pub record IsPrintOutput (text origin : List ℕ) (class number : ℕ) (octets : List ℕ) : Type 0 where
  pub layout : DisplayKind
  pub chosen : IsLayout number layout
  pub records : List Record
  pub read : IsTextOf text origin class records
  pub printed : IsPrinted (layout_of layout) records octets

-- No layout has the number; or one has it, and no zone is read from the text.
abbrev pub IsPrintFault : List ℕ → List ℕ → ℕ → ℕ → Fault → Type 0
IsPrintFault text origin class number error =
    ((error ≡ fault.BadLayout) × IsNoLayout number) ⊎ (HasLayout number × IsTextFault text origin class error)

-- The octets are the canonical ones of the zone of the text.
pub record IsCanonicalOutput (text origin : List ℕ) (class : ℕ) (octets : List ℕ) : Type 0 where
  pub records : List Record
  pub read : IsTextOf text origin class records
  pub canonical : IsCanonical records octets

-- The octets are the query with this ID for the transfer of the zone whose name is spelled, with all flags clear.
pub record IsQueryOutput (id : ℕ) (text : List ℕ) (class : ℕ) (octets : List ℕ) : Type 0 where
  pub name : List (List ℕ)
  pub spelled : IsNameText text name
  pub written : octets ≡ query_octets (record { id = id; recursion = false; name = name; class = class })

-- The octets are what is sent for the zone of the text and the query.
pub record IsSendOutput (text origin : List ℕ) (class : ℕ) (query : List ℕ) (max number : ℕ) (octets : List ℕ) : Type 0 where
  pub spelling : Spelling
  pub chosen : IsSpelling number spelling
  pub records : List Record
  pub read : IsTextOf text origin class records
  pub sent : IsSentFor spelling records class query max octets

-- Nothing is sent for the zone of the text and the query. If a record has room in no message, no messages hold the records.
pub record IsNotSent (text origin : List ℕ) (class : ℕ) (query : List ℕ) (max number : ℕ) (error : SendError) : Type 0 where
  pub spelling : Spelling
  pub chosen : IsSpelling number spelling
  pub records : List Record
  pub read : IsTextOf text origin class records
  pub refused : sent.IsSendFault spelling records (apex_of records) class query max error
  pub none : IfRecord error (FitsNoMessages spelling records query max)

-- No spelling has the number; or one has it, and no zone is read from the text, or nothing is sent for it.
abbrev pub IsSendFault : List ℕ → List ℕ → ℕ → List ℕ → ℕ → ℕ → Fault → Type 0
IsSendFault text origin class query max number error =
    ((error ≡ fault.BadSpelling) × IsNoSpelling number)
    ⊎ (HasSpelling number × (IsTextFault text origin class error
    ⊎ ((why : SendError) × (error ≡ fault.Send why) × IsNotSent text origin class query max number why)))

-- The octets are the printed text of the zone whose transfer the stream begins with.
pub record IsReceiveOutput (query stream : List ℕ) (number : ℕ) (octets : List ℕ) : Type 0 where
  pub layout : DisplayKind
  pub chosen : IsLayout number layout
  pub records : List Record
  pub received : IsReceived query stream records
  pub printed : IsPrinted (layout_of layout) records octets

-- why no zone is received
abbrev pub IsStreamFault : List ℕ → List ℕ → Fault → Type 0
IsStreamFault query stream fault.OutOfMemory = ⊤
IsStreamFault query stream fault.BadName = ⊥
IsStreamFault query stream fault.BadLayout = ⊥
IsStreamFault query stream fault.BadSpelling = ⊥
IsStreamFault query stream (fault.Zone error) = ⊥
IsStreamFault query stream (fault.Send error) = ⊥
IsStreamFault query stream (fault.Receive error) = IsNotReceived query stream error

-- No layout has the number; or one has it, and no zone is received.
abbrev pub IsReceiveFault : List ℕ → List ℕ → ℕ → Fault → Type 0
IsReceiveFault query stream number error =
    ((error ≡ fault.BadLayout) × IsNoLayout number) ⊎ (HasLayout number × IsStreamFault query stream error)
