-- What names and parts take if each suffix written before is a pointer (RFC 1035 4.1.4).
use Rattle.std.specs.Prelude.{ℕ, ◌+◌, Bool, false, ◌||◌, List, [], ◌∷◌, ◌++◌, length, map, if◌then◌else◌, nat_eq}
use Rattle.std.specs.Cmp.Lexicographic.{pointwise}
use Rattle.dns_name.specs.Spelling.{Spelling, folded}
use Rattle.dns_name.specs.Page.{Parts, write}
use Rattle.dns_name.specs.Page.Parts.{End, Octets, Named, Counted}
use Rattle.dns_name.specs.RecordData.{page_of}

-- a test of whether two names are the same
abbrev pub Sameness : Type 0
Sameness = List (List ℕ) → List (List ℕ) → Bool

-- the spelling's: label for label, up to ASCII case where it folds
abbrev pub same_name : Spelling → Sameness
same_name s one other = pointwise (pointwise nat_eq) (map (folded s) one) (map (folded s) other)

-- whether the suffix is one of the name's, other than the root
abbrev pub is_suffix_of : Sameness → List (List ℕ) → List (List ℕ) → Bool
is_suffix_of same suffix [] = false
is_suffix_of same suffix (label ∷ parent) = same (label ∷ parent) suffix || is_suffix_of same suffix parent

-- whether it is a suffix of one of the names
abbrev pub has_stood : Sameness → List (List (List ℕ)) → List (List ℕ) → Bool
has_stood same [] suffix = false
has_stood same (name ∷ names) suffix = is_suffix_of same suffix name || has_stood same names suffix

-- The root takes one octet, a suffix written before the two of a pointer, and any other its first label, the label's
-- length octet, and what its parent takes.
abbrev pub name_cost : (List (List ℕ) → Bool) → List (List ℕ) → ℕ
name_cost stood [] = 1
name_cost stood (label ∷ parent) = if stood (label ∷ parent) then 2 else 1 + length label + name_cost stood parent

-- what names take one after another, after those already seen, the last seen first
abbrev pub cost : Sameness → List (List (List ℕ)) → List (List (List ℕ)) → ℕ
cost same seen [] = 0
cost same seen (name ∷ names) = name_cost (has_stood same seen) name + cost same (name ∷ seen) names

-- the names in parts, in their order
abbrev pub names_in : Parts → List (List (List ℕ))
names_in End = []
names_in (Octets more parts) = names_in parts
names_in (Named name parts) = name ∷ names_in parts
names_in (Counted inner parts) = names_in inner ++ names_in parts

-- how many octets the parts have outside their names, with the two of each length
abbrev pub octets_in : Parts → ℕ
octets_in End = 0
octets_in (Octets more parts) = length more + octets_in parts
octets_in (Named name parts) = octets_in parts
octets_in (Counted inner parts) = 2 + octets_in inner + octets_in parts

-- what parts take
abbrev pub parts_cost : Spelling → Parts → ℕ
parts_cost s parts = octets_in parts + cost (same_name s) [] (names_in parts)

-- the octets of parts that are written on an empty page
abbrev pub written : Spelling → Parts → List ℕ
written s parts = (write s (page_of [] []) parts).octets
