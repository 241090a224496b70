-- Strings and texts that are appended as fields.
use Rattle.std.proofs.Common.{◌≡◌, ℕ, List, [], ◌∷◌, ◌++◌, refl, sym, ◌∙◌, ap, append-nil}
use Rattle.std.specs.List.{flat_map}
use Rattle.dns_scan.specs.Token.{Token}
use Rattle.dns_scan.specs.CharStr.{string_wire}
use Rattle.dns_fields.specs.Fields.{RestText, String, Strings, Tag, rest_text, string, strings, tag}
use Rattle.dns_fields.specs.Scanned.{NoFieldScans, NoRowScans, ScansField}
use Rattle.dns_fields.proofs.FieldKinds.{of_string, of_tag}
use Rattle.dns_fields.proofs.ScanLeaves.{no_rest_text}
use Rattle.dns_fields.proofs.TextStrings.{entry_scanned, entry_strings}
use Rattle.dns_entry_scanner.specs.AppendedString.{AppendsString, AppendsStrings, AppendsText, SpellsNoOctets, SpellsNoString}
use Rattle.dns_scan_data.specs.Appended.{AppendsField, AppendsRow, GoesOn}
use Rattle.dns_scan_data.proofs.Appending.{Names}

module _ {names : Names} {tokens left : List Token} {old new : List ℕ} (appends : AppendsString tokens left old new) where
  pub string_appended : AppendsField names String tokens left old new
  string_appended = record { field = string appends.string; kind = refl; scans = appends.takes; behind = appends.behind }

  pub tag_appended : AppendsField names Tag tokens left old new
  tag_appended = record { field = tag appends.string; kind = refl; scans = appends.takes; behind = appends.behind }

pub string_gone : {tokens left : List Token} {old new : List ℕ} → AppendsString tokens left old new → GoesOn old new
string_gone appends = record { more = string_wire appends.string; is = appends.behind }

module _ (names : Names) {tokens : List Token} (none : SpellsNoString tokens) where
  pub no_string : NoFieldScans names String tokens
  no_string field left is = of_string (λ f. ScansField names f tokens left → ⊥) field (λ octets scans. none octets left scans) is

  pub no_tag : NoFieldScans names Tag tokens
  no_tag field left is = of_tag (λ f. ScansField names f tokens left → ⊥) field (λ octets scans. none octets left scans) is

-- a text up to the end of the data
pub text_appended : {names : Names} {tokens left : List Token} {old new : List ℕ} → AppendsText tokens left old new
    → AppendsRow names (RestText ∷ []) tokens left old new
text_appended {left = left} {old} appends = record {
  row = rest_text appends.octets ∷ [];
  are = refl;
  scans = (left, appends.takes, refl);
  behind = appends.behind ∙ ap (λ (l : List ℕ). old ++ l) (sym (append-nil appends.octets));
}

pub text_gone : {tokens left : List Token} {old new : List ℕ} → AppendsText tokens left old new → GoesOn old new
text_gone appends = record { more = appends.octets; is = appends.behind }

pub no_text : (names : Names) {tokens : List Token} → SpellsNoOctets tokens → NoRowScans names (RestText ∷ []) tokens
no_text names {tokens} none = no_rest_text names tokens none

-- all remaining strings
pub strings_appended : {names : Names} {tokens left : List Token} {old new : List ℕ} → (tokens ≡ [] → ⊥) → AppendsStrings tokens left old new
    → AppendsRow names (Strings ∷ []) tokens left old new
strings_appended {names} {tokens} {old = old} some appends =
    let are = entry_strings tokens appends.octets some appends.entry in record {
      row = strings are.each ∷ [];
      are = refl;
      scans = ([], entry_scanned names tokens [] appends.octets are.each some appends.entry are.written refl, appends.none);
      behind = appends.behind ∙ ap (λ (l : List ℕ). old ++ l) (are.written ∙ sym (append-nil (flat_map string_wire are.each)));
    }
