use Rattle.std.proofs.Common.{◌≡◌, take, fold}
use Rattle.dns_compress.specs.SuffixHash.{mixed}
use Rattle.dns_compress.proofs.suffix_hash.hash_few.Given as goal

abbrev pub invariant-loop-octet : goal.invariant-loop-octet
invariant-loop-octet l = l.state ≡ fold mixed l.seed (take l.octet-index l.octets)
