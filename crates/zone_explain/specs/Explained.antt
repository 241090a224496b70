-- Which rule of a zone's text is broken first, and where (RFC 1035 5).
use Rattle.std.specs.Prelude.{◌≡◌, ◌≢◌, ℕ, suc, Bool, true, false, if◌then◌else◌, ⊤, List, [], ◌∷◌, Option, Some, None, drop, count_by}
use Rattle.dns_scan.specs.Token.{Token}
use Rattle.dns_text.specs.Rows.{BeginsWithRows, TokenRow}
use Rattle.dns_text.specs.Tokens.{is_gap}
use Rattle.dns_entry_scanner.specs.Lines.{line_at}
use Rattle.zone_records.specs.Record.{Record}
use Rattle.zone.specs.ZoneText.{IsZoneFault, IsZoneText}
use Rattle.zone.specs.declared.zone_error.ZoneError.{ZoneError}
use Rattle.zone.specs.declared.zone_error.ZoneError.TheVariants as zone_error
use Rattle.zone_explain.specs.declared.explain.Finding.{Finding}

-- whether there are tokens
abbrev pub any_tokens : List Token → Bool
any_tokens [] = false
any_tokens (token ∷ tokens) = true

-- an entry is a row with tokens
abbrev pub has_tokens : TokenRow → Bool
has_tokens row = any_tokens row.tokens

-- what is left of a text from its first octet on that is no white space
abbrev pub behind_blanks : List ℕ → List ℕ
behind_blanks [] = []
behind_blanks (octet ∷ rest) = if is_gap octet then behind_blanks rest else octet ∷ rest

-- The n-th entry of the text begins at the place, behind the white space that its row begins with: rows with n - 1 entries
-- are before its row, which has tokens.
pub record BeginsAt (text : List ℕ) (n place : ℕ) : Type 0 where
  pub rows : List TokenRow
  pub row : TokenRow
  pub left : List ℕ
  pub rest : List ℕ
  pub begins : BeginsWithRows text rows left
  pub counted : n ≡ suc (count_by has_tokens rows)
  pub entry : BeginsWithRows left (row ∷ []) rest
  pub some : has_tokens row ≡ true
  pub place_is : drop place text ≡ behind_blanks left

-- If an entry reads but breaks the rule, it begins at the place.
abbrev pub IsRulePlace : List ℕ → ZoneError → ℕ → Type 0
IsRulePlace text zone_error.ClassAny place = ⊤
IsRulePlace text (zone_error.Text n) place = ⊤
IsRulePlace text (zone_error.Include n) place = BeginsAt text n place
IsRulePlace text (zone_error.Untyped n) place = BeginsAt text n place
IsRulePlace text (zone_error.FirstNotSoa n) place = BeginsAt text n place
IsRulePlace text (zone_error.SecondSoa n) place = BeginsAt text n place
IsRulePlace text (zone_error.OutOfZone n) place = BeginsAt text n place
IsRulePlace text (zone_error.Unspellable n) place = BeginsAt text n place
IsRulePlace text zone_error.NoSoa place = ⊤
IsRulePlace text zone_error.OutOfMemory place = ⊤

-- What is found in the text is the first rule that it breaks. An entry that reads but breaks it begins at the place, and
-- the line is that of the place.
pub record IsFound (text : List ℕ) (origin : Option (List (List ℕ))) (class : ℕ) (finding : Finding) : Type 0 where
  pub fault : IsZoneFault text origin class finding.fault
  pub read : finding.fault ≢ zone_error.OutOfMemory
  pub entry : IsRulePlace text finding.fault finding.located.start
  pub line : finding.line ≡ line_at text finding.located.start

-- Nothing is found exactly in a zone's text.
abbrev pub IsExplained : List ℕ → Option (List (List ℕ)) → ℕ → Option Finding → Type 0
IsExplained text origin class None = (records : List Record) × IsZoneText text origin class records
IsExplained text origin class (Some finding) = IsFound text origin class finding
