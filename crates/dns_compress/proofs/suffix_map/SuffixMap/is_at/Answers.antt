use Rattle.std.proofs.Common.{◌≡◌, ◌∙◌, false, ap, sym, arith}
use Rattle.std.specs.Prelude.{nat_eq}
use Rattle.std.proofs.lemmas.Bool.Decides.{nat_tests}
use Rattle.dns_compress.specs.Listed.{listed}
use Rattle.dns_compress.proofs.LookUp.{other_hash}
use Rattle.dns_compress.proofs.suffix_map.SuffixMap.is_at.Goals as goal

pub returns-else-get-hash : goal.returns-else-get-hash
returns-else-get-hash c = λ standing stands.
    let differ : nat_eq c.get.result.now.hash c.args.hash ≡ false = grind (arith, nat_tests) in
    let self = c.args.self.now in
    differ
    ∙ sym (other_hash self.seed self.list.written.items (listed self.list) self.hashes c.args.suffix.now c.args.index c.get.result.now standing
    c.get.ensures stands (ap (nat_eq c.get.result.now.hash) (sym c.requires.hash) ∙ differ))
