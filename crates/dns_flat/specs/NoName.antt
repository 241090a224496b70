-- Why octets are no flat name (RFC 1035 3.1).
use Rattle.std.specs.Prelude.{◌≡◌, ◌<◌, ℕ, List, ◌∷◌, ◌++◌, length}
use Rattle.std.specs.List.{AllByRecursion}
use Rattle.dns_label.specs.Name.{IsLabel, labels_wire}
use Rattle.dns_label.specs.Split.{NoLabel}
use Rattle.dns_label.specs.declared.label.SplitLabelError.{SplitLabelError}
use Rattle.dns_label.specs.declared.label.SplitLabelError.TheVariants.{Pointer, BadType, ShortInput}
use Rattle.dns_wire.specs.Flat.{StartsWithName}
use Rattle.dns_flat.specs.declared.name.NameError.{NameError}
use Rattle.dns_flat.specs.declared.name.NameError.TheVariants as flat
use Rattle.dns_flat.specs.declared.relative.RelativeNameError.{RelativeNameError}
use Rattle.dns_flat.specs.declared.relative.RelativeNameError.TheVariants as relative

-- labels without the root's, and then the rest
pub record StartsWithLabels (octets rest : List ℕ) : Type 0 where
  pub labels : List (List ℕ)
  pub each : AllByRecursion IsLabel labels
  pub whole : octets ≡ labels_wire labels ++ rest

-- After some labels there are octets that start with no label.
abbrev pub StopsAt : List ℕ → SplitLabelError → Type 0
StopsAt octets error = (rest : List ℕ) × StartsWithLabels octets rest × NoLabel rest error

abbrev pub IsNoName : List ℕ → NameError → Type 0
IsNoName octets (flat.BadLabel kind) = StopsAt octets (BadType kind)
IsNoName octets flat.CompressedName = (place : ℕ) × StopsAt octets (Pointer place)
IsNoName octets flat.LongName = 255 < length octets
IsNoName octets flat.TrailingData = (name : List (List ℕ)) × ((rest : List ℕ) × StartsWithName octets name rest × (0 < length rest))
IsNoName octets flat.ShortInput = StopsAt octets ShortInput

abbrev pub IsNoRelativeName : List ℕ → RelativeNameError → Type 0
IsNoRelativeName octets (relative.BadLabel kind) = StopsAt octets (BadType kind)
IsNoRelativeName octets relative.CompressedName = (place : ℕ) × StopsAt octets (Pointer place)
IsNoRelativeName octets relative.ShortInput = (rest : List ℕ) × StartsWithLabels octets rest × NoLabel rest ShortInput × (0 < length rest)
IsNoRelativeName octets relative.LongName = 254 < length octets
IsNoRelativeName octets relative.AbsoluteName = (rest : List ℕ) × StartsWithLabels octets (0 ∷ rest)
