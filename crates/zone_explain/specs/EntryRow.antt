-- The row of an entry in a text (RFC 1035 5.1).
use Rattle.std.specs.Prelude.{◌≡◌, ◌<◌, ◌≤◌, ◌-◌, ℕ, Bool, true, false, List, Option, Some, None, drop, length, count_by}
use Rattle.dns_text.specs.Rows.{BeginsWithRows, TokenRow}
use Rattle.dns_entry_scanner.specs.RowFound.{IsRowAt, NoRow}
use Rattle.dns_entry_scanner.specs.declared.token_span.TokenSpan.{TokenSpan}
use Rattle.zone.specs.ZoneText.{IsZoneFault}
use Rattle.zone.specs.declared.zone_error.ZoneError.{ZoneError}
use Rattle.zone.specs.declared.zone_error.ZoneError.TheVariants as zone_error
use Rattle.zone_explain.specs.Explained.{has_tokens}

-- the number of the entry that breaks the rule
abbrev pub number_of : ZoneError → Option ℕ
number_of zone_error.ClassAny = None
number_of (zone_error.Text n) = Some n
number_of (zone_error.Include n) = Some n
number_of (zone_error.Untyped n) = Some n
number_of (zone_error.FirstNotSoa n) = Some n
number_of (zone_error.SecondSoa n) = Some n
number_of (zone_error.OutOfZone n) = Some n
number_of (zone_error.Unspellable n) = Some n
number_of zone_error.NoSoa = None
number_of zone_error.OutOfMemory = None

-- whether an entry that reads may break the rule
abbrev pub breaks_entry : ZoneError → Bool
breaks_entry zone_error.ClassAny = false
breaks_entry (zone_error.Text n) = false
breaks_entry (zone_error.Include n) = true
breaks_entry (zone_error.Untyped n) = true
breaks_entry (zone_error.FirstNotSoa n) = true
breaks_entry (zone_error.SecondSoa n) = true
breaks_entry (zone_error.OutOfZone n) = true
breaks_entry (zone_error.Unspellable n) = true
breaks_entry zone_error.NoSoa = false
breaks_entry zone_error.OutOfMemory = false

-- rows are in the text from the start up to the place, and so many of them are entries
pub record HasPassed (text : List ℕ) (start place count : ℕ) : Type 0 where
  pub rows : List TokenRow
  pub begins : BeginsWithRows (drop start text) rows (drop place text)
  pub counted : count ≡ count_by has_tokens rows

-- At the place is the row of the n-th entry from the start on. With None there is no row, and at most n - 1 entries are
-- before it.
abbrev pub IsEntryRow : List ℕ → ℕ → ℕ → ℕ → List TokenSpan → Option Bool → Type 0
IsEntryRow text start n place spans (Some blank_led) =
    HasPassed text start place (n - 1) × (0 < length spans) × ((next : ℕ) × IsRowAt text place spans next blank_led)
IsEntryRow text start n place spans None =
    NoRow (drop place text) × ((count : ℕ) × HasPassed text start place count × (count ≤ n - 1))

-- Of the entry that breaks the rule, this row is found, or none.
pub record IsFaultRow (text : List ℕ) (class : ℕ) (fault : ZoneError) (place : ℕ) (spans : List TokenSpan) (blank_led : Option Bool) : Type 0 where
  pub origin : Option (List (List ℕ))
  pub n : ℕ
  pub breaks : IsZoneFault text origin class fault
  pub numbered : number_of fault ≡ Some n
  pub row : IsEntryRow text 0 n place spans blank_led
