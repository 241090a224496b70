-- What names take as a sum over their distinct suffixes (RFC 1035 4.1.4).
use Rattle.std.specs.Prelude.{◌≡◌, ◌+◌, ℕ, Bool, false, ◌||◌, List, [], ◌∷◌, length, flat_map, sum_by, if◌then◌else◌, ⊤}
use Rattle.dns_name.specs.Spelling.{Spelling}
use Rattle.dns_name.specs.Page.{Parts}
use Rattle.dns_compression_laws.specs.Cost.{Sameness, same_name, has_stood, names_in, octets_in}

-- the suffixes of a name, other than the root
abbrev pub own_suffixes : List (List ℕ) → List (List (List ℕ))
own_suffixes [] = []
own_suffixes (label ∷ parent) = (label ∷ parent) ∷ own_suffixes parent

-- whether one of the names is the same
abbrev pub has_same : Sameness → List (List (List ℕ)) → List (List ℕ) → Bool
has_same same [] name = false
has_same same (other ∷ names) name = same other name || has_same same names name

-- no two of the names are the same
abbrev pub AreDistinctNames : Sameness → List (List (List ℕ)) → Type 0
AreDistinctNames same [] = ⊤
AreDistinctNames same (name ∷ names) = (has_same same names name ≡ false) × AreDistinctNames same names

-- the distinct suffixes of the names, each once, in any order
pub record AreTheSuffixes (same : Sameness) (names suffixes : List (List (List ℕ))) : Type 0 where
  pub distinct : AreDistinctNames same suffixes
  pub each : (name : List (List ℕ)) → has_same same suffixes name ≡ has_same same (flat_map own_suffixes names) name

-- the octets of a name's first label, and its length octet
abbrev pub first_label : List (List ℕ) → ℕ
first_label [] = 0
first_label (label ∷ parent) = 1 + length label

-- How a name ends: the root, and the first name with its last label, in the root's 0, every other in a pointer.
abbrev pub end_octets : (List (List ℕ) → Bool) → List (List ℕ) → ℕ
end_octets stood [] = 1
end_octets stood (label ∷ []) = if stood (label ∷ []) then 2 else 1
end_octets stood (label ∷ next ∷ parent) = end_octets stood (next ∷ parent)

-- the octets at the ends of names, after those already seen, the last seen first
abbrev pub ends_cost : Sameness → List (List (List ℕ)) → List (List (List ℕ)) → ℕ
ends_cost same seen [] = 0
ends_cost same seen (name ∷ names) = end_octets (has_stood same seen) name + ends_cost same (name ∷ seen) names

-- The sum: the octets outside names, the first labels of the distinct suffixes, and the ends of the names.
abbrev pub suffixes_sum : Spelling → List (List (List ℕ)) → Parts → ℕ
suffixes_sum s suffixes parts = octets_in parts + sum_by first_label suffixes + ends_cost (same_name s) [] (names_in parts)
