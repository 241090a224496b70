-- What laws of scanning ask of the names that a scanner takes.
use Rattle.std.specs.Prelude.{◌≡◌, ℕ, List}
use Rattle.std.specs.List.{AllByRecursion}
use Rattle.dns_label.specs.Name.{IsName}
use Rattle.dns_label.specs.Printed.{printed_name}
use Rattle.dns_label.specs.Octets.{AreOctets}

-- each name is spelled by the text that it is printed as (RFC 1035 5.1)
abbrev pub SpellPrinted : (List ℕ → List (List ℕ) → Type 0) → Type 0
SpellPrinted names = (name : List (List ℕ)) → IsName name → AllByRecursion AreOctets name → names (printed_name name) name

-- a text is one name at most
abbrev pub SpellOne : (List ℕ → List (List ℕ) → Type 0) → Type 0
SpellOne names = (text : List ℕ) (name other : List (List ℕ)) → names text name → names text other → name ≡ other
