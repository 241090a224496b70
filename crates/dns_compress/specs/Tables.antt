-- What a table of suffixes remembers (RFC 1035 4.1.4).
use Rattle.std.specs.Prelude.{ℕ, Bool, true, false, nat_le, ◌&&◌, if◌then◌else◌, List, [], ◌∷◌, take, drop}
use Rattle.std.specs.List.{list_all}
use Rattle.dns_octets.specs.Builder.{Standing, Known}
use Rattle.dns_label.specs.Name.{low}
use Rattle.dns_name.specs.Spelling.{Spelling, is_same, standings}

-- what a suffix is looked up by: the suffix in lower case, or as it is
abbrev pub looked_up : Bool → List (List ℕ) → List (List ℕ)
looked_up lowers suffix = if lowers then low suffix else suffix

-- the suffixes of a name that begin with one of its first labels
abbrev pub added : Spelling → ℕ → ℕ → ℕ → List (List ℕ) → Known
added s count place stop name = standings s place stop (take count name) (drop count name)

-- the other suffix may be remembered after this one: it is not equal, and stops no earlier
abbrev pub goes_before : Spelling → Standing → Standing → Bool
goes_before s one other = if is_same s one.suffix other.suffix then false else nat_le one.stop other.stop

-- no two are equal, and they stop in order
abbrev pub in_order : Spelling → Known → Bool
in_order s [] = true
in_order s (one ∷ known) = list_all (goes_before s one) known && in_order s known
