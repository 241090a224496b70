use Rattle.std.proofs.Common.{◌≡◌, ◌++◌, ◌∷◌, [], suc, ap, sym, subst, Some, true, ℕ, List, arith, length, length-append, set}
use Rattle.std.specs.Prelude.{slice_get}
use Rattle.std.proofs.lemmas.Option.{slice_get_read}
use Rattle.dns_octets.specs.Builder.{Standing, Known}
use Rattle.dns_name.specs.Spelling.{tree_spelling}
use Rattle.dns_compress.specs.declared.written.Written.{Written}
use Rattle.dns_compress.specs.Tables.{in_order}
use Rattle.dns_compress.specs.Listed.{listed}
use Rattle.dns_compress.specs.SuffixIndex.{IsIndex, AreHashes}
use Rattle.dns_compress.proofs.Index.{index_push, hashes_push}
use Rattle.dns_compress.proofs.suffix_map.SuffixMap.push.Goals as goal

pub invariant_of-self : goal.invariant_of-self
invariant_of-self c =
    let heads : List ℕ = c.args.self.now.heads.items in
    let written : List Written = c.args.self.now.list.written.items in
    let known : Known = listed c.args.self.now.list in
    let one : Written = record {
      start = length c.args.self.now.list.octets.items;
      len = length c.args.suffix.now;
      place = c.args.place;
      stop = c.args.stop;
      hash = c.hash-hash.result;
      older = c.index-older.result.now;
    } in
    let standing : Standing = record { suffix = c.args.suffix.now; place = c.args.place; stop = c.args.stop } in
    let long : c.len.result ≡ suc (length written) =
    omega (arith, c.len.ensures, ap (length {A = Written}) c.push.ensures.written, length-append written (one ∷ [])) in
    let older : slice_get heads c.bucket-bucket.result ≡ Some one.older =
    slice_get_read heads 512 c.bucket-bucket.result one.older (sym c.requires.buckets) c.bucket-bucket.ensures.within c.index-older.ensures in
    record {
      index = subst (λ (l : List Written). IsIndex l (set heads c.bucket-bucket.result c.len.result)) (sym c.push.ensures.written)
          (subst (λ n. IsIndex (written ++ one ∷ []) (set heads c.bucket-bucket.result n)) (sym long)
          (subst (λ n. IsIndex (written ++ one ∷ []) (set heads n (suc (length written)))) (sym c.bucket-bucket.ensures.is)
          (index_push written heads one c.args.self.now.index c.requires.buckets
          (subst (λ n. slice_get heads n ≡ Some one.older) c.bucket-bucket.ensures.is older))));
      hashes = subst (λ (l : List Written). AreHashes c.args.self.now.seed l (listed c.push.new.self)) (sym c.push.ensures.written)
          (subst (AreHashes c.args.self.now.seed (written ++ one ∷ [])) (sym c.push.ensures.last)
          (hashes_push c.args.self.now.seed written known one standing c.args.self.now.hashes c.hash-hash.ensures));
      order = subst (λ (l : Known). in_order tree_spelling l ≡ true) (sym c.push.ensures.last) c.requires.order;
    }
