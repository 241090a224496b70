-- How a name is written: its first labels one by one, and then the rest of it or a pointer (RFC 1035 4.1.4).
use Rattle.std.specs.Prelude.{◌≡◌, ℕ, Bool, Option, Some, None, List, [], ◌∷◌, ◌++◌, length, take, drop}
use Rattle.std.specs.List.{list_all}
use Rattle.dns_octets.specs.Builder.{Known}
use Rattle.dns_label.specs.Name.{wire, labels_wire}
use Rattle.dns_name.specs.Spelling.{Spelling, Split, split_from, is_near, place_in, pointer_to}
use Rattle.dns_compress.specs.Tables.{added}

-- a name in two after `count` labels
abbrev pub cut_at : ℕ → List (List ℕ) → Split
cut_at count name = record { labels = take count name; suffix = drop count name }

-- the place that a pointer to the suffix has; none leads to the root
abbrev pub pointed_to : Spelling → Known → List (List ℕ) → Option ℕ
pointed_to s known [] = None
pointed_to s known (label ∷ parent) = place_in s known (wire (label ∷ parent))

-- a name at a place, with `count` suffixes remembered, splits after `labels` labels of `front` octets
pub record IsWalked (s : Spelling) (known : Known) (count place : ℕ) (name : List (List ℕ)) (labels front : ℕ) (near : Bool) (target : Option ℕ) : Type 0 where
  pub splits : split_from s known count place name ≡ cut_at labels name
  pub long : front ≡ length (labels_wire (take labels name))
  -- whether pointers reach each of the labels
  pub reached : (stop : ℕ) → list_all (λ standing. is_near standing.place) (added s labels place stop name) ≡ near
  pub leads : target ≡ pointed_to s known (drop labels name)

-- the octets before the pointer and the pointer, or all octets
abbrev pub walked_text : List ℕ → ℕ → Option ℕ → List ℕ
walked_text octets front None = octets
walked_text octets front (Some place) = take front octets ++ pointer_to place
