-- What contracts see of a compressor: the wrapped target, its octets, and the suffixes of them that are remembered.
use Rattle.std.specs.Prelude.{ℕ, List}
use Rattle.dns_octets.specs.Builder.{Known}
use Rattle.dns_compress.specs.declared.compressor.Compressor.{Compressor}

abbrev pub target_in : {Target T : Type 0} {builds holds remembers table : _} → Compressor Target T builds holds remembers table → Target
target_in compressor = compressor.target

abbrev pub octets_in : {Target T : Type 0} {builds holds remembers table : _} → Compressor Target T builds holds remembers table → List ℕ
octets_in {holds = holds} compressor = holds.list compressor.target

abbrev pub known_in : {Target T : Type 0} {builds holds remembers table : _} → Compressor Target T builds holds remembers table → Known
known_in {holds = holds} {table = table} compressor = table.known compressor.table (holds.list compressor.target)
