-- When suffixes can be remembered without an allocation.
use Rattle.std.specs.Prelude.{◌≡◌, ◌*◌, ℕ, List, length}
use Rattle.dns_label.specs.Name.{wire}
use Rattle.dns_compress.specs.Listed.{HasRoom}
use Rattle.dns_compress.specs.declared.suffix_map.SuffixMap.{SuffixMap}

-- the map has its buckets, and room for the suffixes of the name that begin with one of its first `count` labels
pub record IsReady (map : SuffixMap) (count : ℕ) (name : List (List ℕ)) : Type 0 where
  pub buckets : length map.heads.items ≡ 512
  pub list : HasRoom map.list count (count * length (wire name))
