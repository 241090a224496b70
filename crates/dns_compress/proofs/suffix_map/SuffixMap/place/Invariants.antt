use Rattle.dns_compress.specs.Listed.{listed}
use Rattle.dns_compress.specs.SuffixHash.{hash_of, bucket_of}
use Rattle.dns_compress.proofs.LookUp.{IsDown}
use Rattle.dns_compress.proofs.suffix_map.SuffixMap.place.Given as goal

abbrev pub invariant-loop-next : goal.invariant-loop-next
invariant-loop-next l = IsDown l.self.list.written.items (listed l.self.list) (bucket_of (hash_of l.self.seed l.suffix)) l.next l.suffix

abbrev pub decreases-loop-next : goal.decreases-loop-next
decreases-loop-next l = l.next
