-- What contracts see of tables of suffixes.
use Rattle.std.specs.Prelude.{ℕ, List}
use Rattle.dns_octets.specs.Builder.{Known}
use Rattle.dns_compress.specs.Listed.{listed}
use Rattle.dns_compress.specs.Ready.{IsReady}
use Rattle.dns_compress.specs.declared.spot.Spot.{Spot}
use Rattle.dns_compress.specs.declared.static_table.StaticTable.{StaticTable}
use Rattle.dns_compress.specs.declared.tree_table.TreeTable.{TreeTable}
use Rattle.dns_compress.specs.declared.hash_table.HashTable.{HashTable}

-- the places of suffixes in the static table
abbrev pub spots_in : StaticTable → List Spot
spots_in table = table.written.items

-- the suffixes that the others keep
abbrev pub exact_in : TreeTable → Known
exact_in table = listed table.suffixes.list

abbrev pub lowered_in : HashTable → Known
lowered_in table = listed table.suffixes.list

-- whether these have room for a name's first suffixes
abbrev pub exact_room : TreeTable → ℕ → List (List ℕ) → Type 0
exact_room table count name = IsReady table.suffixes count name

abbrev pub lowered_room : HashTable → ℕ → List (List ℕ) → Type 0
lowered_room table count name = IsReady table.suffixes count name
