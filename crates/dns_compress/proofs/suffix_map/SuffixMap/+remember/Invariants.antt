use Rattle.std.proofs.Common.{length}
use Rattle.dns_compress.proofs.suffix_map.SuffixMap.+remember.Given as goal

abbrev pub decreases-remember : goal.decreases-remember
decreases-remember l = length l.name.now
