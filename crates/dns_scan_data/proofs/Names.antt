-- Names that are appended as fields.
use Rattle.std.proofs.Common.{ℕ, List, refl}
use Rattle.dns_scan.specs.Token.{Token}
use Rattle.dns_label.specs.Name.{wire}
use Rattle.dns_fields.specs.Fields.{Compressible, Uncompressed, compressible, uncompressed}
use Rattle.dns_fields.specs.Scanned.{NoFieldScans, ScansField}
use Rattle.dns_fields.proofs.FieldKinds.{of_compressible, of_uncompressed}
use Rattle.dns_entry_scanner.specs.AppendedName.{AppendsName, SpellsNoName}
use Rattle.dns_scan_data.specs.Appended.{AppendsField, GoesOn}

module _ {names : List ℕ → List (List ℕ) → Type 0} {tokens left : List Token} {old new : List ℕ} (appends : AppendsName names tokens left old new) where
  pub compressible_appended : AppendsField names Compressible tokens left old new
  compressible_appended =
      record { field = compressible appends.name; kind = refl; scans = (appends.text, appends.is, appends.spells); behind = appends.behind }

  pub uncompressed_appended : AppendsField names Uncompressed tokens left old new
  uncompressed_appended =
      record { field = uncompressed appends.name; kind = refl; scans = (appends.text, appends.is, appends.spells); behind = appends.behind }

  pub name_gone : GoesOn old new
  name_gone = record { more = wire appends.name; is = appends.behind }

module _ {names : List ℕ → List (List ℕ) → Type 0} {tokens : List Token} (none : SpellsNoName names tokens) where
  pub no_compressible : NoFieldScans names Compressible tokens
  no_compressible field left is =
      of_compressible (λ f. ScansField names f tokens left → ⊥) field (λ name scans. none scans.0 left name scans.1 scans.2) is

  pub no_uncompressed : NoFieldScans names Uncompressed tokens
  no_uncompressed field left is =
      of_uncompressed (λ f. ScansField names f tokens left → ⊥) field (λ name scans. none scans.0 left name scans.1 scans.2) is
