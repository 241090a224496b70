use Rattle.std.proofs.Common.{◌≡◌, ◌/◌, length}
use Rattle.dns_compress.specs.SuffixHash.{mixed_words}
use Rattle.dns_compress.proofs.suffix_hash.hash.Given as goal

abbrev pub invariant-loop-word : goal.invariant-loop-word
invariant-loop-word l = mixed_words (length l.rest / 8) l.state l.rest ≡ mixed_words (length l.octets / 8) l.seed l.octets

abbrev pub decreases-loop-word : goal.decreases-loop-word
decreases-loop-word l = length l.rest
