use Rattle.std.proofs.Common.{◌≡◌, ◌<◌, ◌-◌, ◌∙◌, ℕ, suc, Some, List, length, take, drop, ap, sym, subst, arith}
use Rattle.std.specs.Prelude.{slice_get}
use Rattle.dns_octets.specs.Builder.{Known}
use Rattle.dns_compress.specs.declared.written.Written.{Written}
use Rattle.dns_compress.specs.Joined.{total}
use Rattle.dns_compress.specs.Listed.{listed}
use Rattle.dns_compress.specs.SuffixHash.{hash_of, bucket_of}
use Rattle.dns_compress.specs.SuffixIndex.{latest}
use Rattle.dns_compress.proofs.Elements.{get_within}
use Rattle.dns_compress.proofs.Index.{older_below, hashes_long}
use Rattle.dns_compress.proofs.Joined.{standing_at}
use Rattle.dns_compress.proofs.LookUp.{IsDown, down_first, down_next, found}
use Rattle.dns_compress.proofs.suffix_map.SuffixMap.place.Goals as goal

pub loop-next-init : goal.loop-next-init
loop-next-init c =
    let self = c.args.self.now in
    let written : List Written = self.list.written.items in
    let suffix : List ℕ = c.args.suffix.now in
    subst (λ n. IsDown written (listed self.list) (bucket_of (hash_of self.seed suffix)) n suffix)
    (sym (c.head-next.ensures ∙ ap (λ n. latest written n (length written)) (c.bucket.ensures.is ∙ ap bucket_of c.hash-hash.ensures)))
    (down_first self.seed written (listed self.list) self.hashes suffix)

pub returns-then-is_at : goal.returns-then-is_at
returns-then-is_at c =
    let self = c.args.self.now in
    let written : List Written = self.list.written.items in
    let known : Known = listed self.list in
    let suffix : List ℕ = c.args.suffix.now in
    let index : ℕ = c.loop-next.next - 1 in
    let next : c.loop-next.next ≡ suc index = omega arith in
    let one : Written = c.get.result.now in
    let at : slice_get known index ≡ Some (record { suffix = take one.len (drop (total (take index written)) self.list.octets.items); place = one.place; stop = one.stop }) =
    standing_at self.list.octets.items written index one c.get.ensures in
    sym (found self.seed written known self.hashes suffix self.order index one _ c.get.ensures at
    (subst (λ n. IsDown written known (bucket_of (hash_of self.seed suffix)) n suffix) next c.loop-next.invariant)
    (sym (c.is_at.ensures _ at) ∙ c.if-is_at.true))

pub loop-next-smaller : goal.loop-next-smaller
loop-next-smaller c =
    let self = c.args.self.now in
    let e = older_below self.list.written.items self.heads.items self.index (c.loop-next.next - 1) c.get-in-loop-next.result.now c.get-in-loop-next.ensures in
    omega (arith, e)

pub loop-next-preserved : goal.loop-next-preserved
loop-next-preserved c =
    let self = c.args.self.now in
    let written : List Written = self.list.written.items in
    let known : Known = listed self.list in
    let suffix : List ℕ = c.args.suffix.now in
    let index : ℕ = c.loop-next.next - 1 in
    let next : c.loop-next.next ≡ suc index = omega arith in
    let within : index < length known = omega (arith, hashes_long self.seed written known self.hashes, c.loop-next.invariant.within, next) in
    let standing = get_within known index within in
    down_next self.seed written known self.hashes suffix self.order index c.get-in-loop-next.result.now standing.0 c.get-in-loop-next.ensures standing.1
    (subst (λ n. IsDown written known (bucket_of (hash_of self.seed suffix)) n suffix) next c.loop-next.invariant)
    self.heads.items self.index (sym (c.is_at.ensures standing.0 standing.1) ∙ c.if-is_at.false)
