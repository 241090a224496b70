-- A zone that is sent and received.
use Rattle.std.specs.Prelude.{◌≡◌, ◌<◌, ◌^◌, IfSome, List}
use Rattle.std.specs.List.{AllZip}
use Rattle.dns_label.specs.Name.{IsName}
use Rattle.zone_records.specs.Record.{Record}
use Rattle.zone_send.specs.SpelledSent.{IsNear}
use Rattle.zone_core.specs.declared.spelling.Spelling.{Spelling}
use Rattle.zone_core.specs.declared.spelling.Spelling.TheVariants.{Plain, Static, Tree, Hash}
use Rattle.zonewire_words.specs.declared.jobs.Job.{Job}
use Rattle.zonewire_words.specs.declared.jobs.Job.TheVariants.{Send, Receive, Check, Canon}

-- what is received of records that are sent under the spelling: the same records if names keep their case, otherwise
-- records that are equal up to the ASCII case of owners and compressible names
abbrev pub ArePassedBy : Spelling → List Record → List Record → Type 0
ArePassedBy Plain records others = others ≡ records
ArePassedBy Static records others = AllZip IsNear records others
ArePassedBy Tree records others = others ≡ records
ArePassedBy Hash records others = AllZip IsNear records others

-- the values of a job are those of its types: its names are names, and its numbers have 16 bits
abbrev pub HasLawfulValues : Job → Type 0
HasLawfulValues (Send origin class id apex max spelling) =
    IfSome origin IsName × (class < 2 ^ 16) × (id < 2 ^ 16) × IfSome apex IsName × (max < 2 ^ 16)
HasLawfulValues (Receive class id apex layout) = (class < 2 ^ 16) × (id < 2 ^ 16) × IsName apex
HasLawfulValues (Check origin class) = IfSome origin IsName × (class < 2 ^ 16)
HasLawfulValues (Canon origin class) = IfSome origin IsName × (class < 2 ^ 16)
