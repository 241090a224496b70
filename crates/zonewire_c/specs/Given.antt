-- What C passes to a call: names and zones as text, layouts and spellings by their numbers.
use Rattle.std.specs.Prelude.{◌≡◌, ℕ, List, [], ◌∷◌, Some, None, ⊤}
use Rattle.std.specs.Str.{IsUtf8}
use Rattle.dns_label.specs.NameText.{IsNameText}
use Rattle.dns_text.specs.declared.layout.DisplayKind.{DisplayKind}
use Rattle.dns_text.specs.declared.layout.DisplayKind.TheVariants.{Simple, Tabbed, Multiline}
use Rattle.zone_records.specs.Record.{Record}
use Rattle.zone.specs.ZoneText.{IsZoneFault, IsZoneText}
use Rattle.zone.specs.declared.zone_error.ZoneError.{ZoneError}
use Rattle.zone_core.specs.declared.spelling.Spelling.{Spelling}
use Rattle.zone_core.specs.declared.spelling.Spelling.TheVariants.{Plain, Static, Tree, Hash}
use Rattle.zonewire_c.specs.declared.fault.Fault.{Fault}
use Rattle.zonewire_c.specs.declared.fault.Fault.TheVariants as fault

-- the octets are no UTF-8, or spell no name
abbrev pub SpellsNoName : List ℕ → Type 0
SpellsNoName text = IsUtf8 text → (name : List (List ℕ)) → IsNameText text name → ⊥

-- why no name is read
abbrev pub IsNameFault : List ℕ → Fault → Type 0
IsNameFault text fault.OutOfMemory = ⊤
IsNameFault text fault.BadName = SpellsNoName text
IsNameFault text fault.BadLayout = ⊥
IsNameFault text fault.BadSpelling = ⊥
IsNameFault text (fault.Zone error) = ⊥
IsNameFault text (fault.Send error) = ⊥
IsNameFault text (fault.Receive error) = ⊥

-- The text is that of a zone of the class with these records. Its names are relative to the origin that is spelled. There
-- is no origin if that has no octets.
abbrev pub IsTextOf : List ℕ → List ℕ → ℕ → List Record → Type 0
IsTextOf text [] class records = IsZoneText text None class records
IsTextOf text (c ∷ cs) class records = (origin : List (List ℕ)) × IsNameText (c ∷ cs) origin × IsZoneText text (Some origin) class records

-- the same of the first rule that the text breaks
abbrev pub IsBrokenFor : List ℕ → List ℕ → ℕ → ZoneError → Type 0
IsBrokenFor text [] class error = IsZoneFault text None class error
IsBrokenFor text (c ∷ cs) class error = (origin : List (List ℕ)) × IsNameText (c ∷ cs) origin × IsZoneFault text (Some origin) class error

-- an origin is given, and spells no name
abbrev pub IsBadOrigin : List ℕ → Type 0
IsBadOrigin [] = ⊥
IsBadOrigin (c ∷ cs) = SpellsNoName (c ∷ cs)

-- why no zone is read
abbrev pub IsTextFault : List ℕ → List ℕ → ℕ → Fault → Type 0
IsTextFault text origin class fault.OutOfMemory = ⊤
IsTextFault text origin class fault.BadName = IsBadOrigin origin
IsTextFault text origin class fault.BadLayout = ⊥
IsTextFault text origin class fault.BadSpelling = ⊥
IsTextFault text origin class (fault.Zone error) = IsBrokenFor text origin class error
IsTextFault text origin class (fault.Send error) = ⊥
IsTextFault text origin class (fault.Receive error) = ⊥

-- the number of a layout, and of a spelling
abbrev pub layout_number : DisplayKind → ℕ
layout_number Simple = 0
layout_number Tabbed = 1
layout_number Multiline = 2

abbrev pub spelling_number : Spelling → ℕ
spelling_number Plain = 0
spelling_number Static = 1
spelling_number Tree = 2
spelling_number Hash = 3

abbrev pub IsLayout : ℕ → DisplayKind → Type 0
IsLayout number layout = layout_number layout ≡ number

abbrev pub IsSpelling : ℕ → Spelling → Type 0
IsSpelling number spelling = spelling_number spelling ≡ number

-- the number is that of a layout, or of a spelling
abbrev pub HasLayout : ℕ → Type 0
HasLayout number = (layout : DisplayKind) × IsLayout number layout

abbrev pub HasSpelling : ℕ → Type 0
HasSpelling number = (spelling : Spelling) × IsSpelling number spelling

-- the number is that of none
abbrev pub IsNoLayout : ℕ → Type 0
IsNoLayout number = (layout : DisplayKind) → IsLayout number layout → ⊥

abbrev pub IsNoSpelling : ℕ → Type 0
IsNoSpelling number = (spelling : Spelling) → IsSpelling number spelling → ⊥
