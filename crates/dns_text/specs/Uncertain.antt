-- Names that may be absolute or relative.
use Rattle.std.specs.Prelude.{◌≡◌, ◌++◌, Bool, true, false, List, ℕ, Option}
use Rattle.dns_label.specs.Name.{IsName, labels_wire, wire, with_root}
use Rattle.dns_label.specs.Printed.{printed_name}
use Rattle.dns_name.specs.Parsed.{LabelsStandAt}
use Rattle.dns_name.specs.Relative.{StandsIn as stands_in_relative}
use Rattle.dns_name.specs.PrintedLabels.{printed_relative}
use Rattle.dns_label.specs.NameText.{IsEitherText}
use Rattle.dns_text.specs.declared.uncertain.UncertainName.{UncertainName}
use Rattle.dns_text.specs.declared.uncertain.UncertainName.TheVariants.{Absolute, Relative}

abbrev pub is_absolute : {O : Type 0} → UncertainName O → Bool
is_absolute (Absolute name) = true
is_absolute (Relative name) = false

-- the labels, without the root's
abbrev pub labels_of : {O : Type 0} → UncertainName O → List (List ℕ)
labels_of (Absolute name) = name
labels_of (Relative name) = name

-- the labels, with that of the root if the name is absolute
abbrev pub seen_labels : {O : Type 0} → UncertainName O → List (List ℕ)
seen_labels (Absolute name) = with_root name
seen_labels (Relative name) = name

-- the labels with a suffix: those of an absolute name alone, and those of a relative one before the suffix's
abbrev pub chained_labels : {O : Type 0} → UncertainName O → List (List ℕ) → List (List ℕ)
chained_labels (Absolute name) suffix = with_root name
chained_labels (Relative name) suffix = name ++ suffix

-- the octets on the wire
abbrev pub uncertain_octets : {O : Type 0} → UncertainName O → List ℕ
uncertain_octets (Absolute name) = wire name
uncertain_octets (Relative name) = labels_wire name

-- how the name is printed: its last dot says that it is absolute
abbrev pub text_of : {O : Type 0} → UncertainName O → List ℕ
text_of (Absolute name) = printed_name name
text_of (Relative name) = printed_relative name

-- the label with this number is at this place
abbrev pub StandsIn : {O : Type 0} → UncertainName O → ℕ → Option ℕ → Type 0
StandsIn (Absolute name) index place = LabelsStandAt (wire name) (with_root name) index place
StandsIn (Relative name) index place = stands_in_relative (labels_wire name) name index place

-- octets that are no name
abbrev pub IsNoName : List ℕ → Type 0
IsNoName octets = (name : List (List ℕ)) → IsName name → (octets ≡ wire name → ⊥) × (octets ≡ labels_wire name → ⊥)

-- the text spells the name, with its last dot if it is absolute and without it if it is relative
abbrev pub IsTextOf : {O : Type 0} → List ℕ → UncertainName O → Type 0
IsTextOf text name = IsEitherText (is_absolute name) text (labels_of name)
