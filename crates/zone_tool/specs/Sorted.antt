-- A zone's text in canonical order, the SOA first.
use Rattle.std.specs.Prelude.{◌≡◌, ◌==◌, ◌++◌, ℕ, Bool, not, List, filter}
use Rattle.std.specs.Prelude.{if◌then◌else◌}
use Rattle.dns_text.specs.Document.{Layout}
use Rattle.zone_records.specs.Record.{Record}
use Rattle.zone_records.specs.Zone.{soa_type}
use Rattle.zone_canonical.specs.Canonical.{AreFormsOf}
use Rattle.zone.specs.Printed.{IsPrinted}

abbrev pub is_soa : Record → Bool
is_soa r = r.rtype == soa_type

-- whether the record is one of the SOAs, or one of the others
abbrev pub is_one : Bool → Record → Bool
is_one are_soas r = if are_soas then is_soa r else not (is_soa r)

-- the SOA, and then the other records, in order (RFC 1035 5.2)
abbrev pub soa_first : List Record → List Record
soa_first records = filter is_soa records ++ filter (λ r. not (is_soa r)) records

-- the new text is the old one and the text of the records
pub record AddsRecords (layout : Layout) (records : List Record) (old new : List ℕ) : Type 0 where
  pub text : List ℕ
  pub printed : IsPrinted layout records text
  pub added : new ≡ old ++ text

-- The text is that of the canonical forms of the records, each once, the SOA first and the others in canonical order
-- (RFC 4034 6, RFC 1035 5.2).
pub record IsSortedText (layout : Layout) (records : List Record) (text : List ℕ) : Type 0 where
  pub forms : List Record
  pub are : AreFormsOf records forms
  pub printed : IsPrinted layout (soa_first forms) text
