use Rattle.std.proofs.Common.{◌∷◌, ◌*◌, [], refl, arith}
use Rattle.dns_scan.proofs.Fours.{four_put}
use Rattle.dns_scan.proofs.HexWords.{octets_by_place}
use Rattle.dns_scan.proofs.encoding.fours.put_fours.Goals as goal

pub loop-index-preserved : goal.loop-index-preserved
loop-index-preserved c =
    let long = c.told-characters in
    let are = octets_by_place c.args.octets.now (λ i. let fits = c.type_inv.octets i in omega (arith, fits)) in
    let one = c.character_64.ensures.is in
    let two = c.character_64-in-loop-index.ensures.is in
    let three = c.character_64-in-loop-index-2.ensures.is in
    let four = c.character_64-in-loop-index-3.ensures.is in
    four_put c.loop-index.characters c.args.octets.now c.loop-index.index (4 * c.loop-index.index) _ _ _ _ refl (omega arith) (omega arith) are
    (λ i. one i ∷ two i ∷ three i ∷ four i ∷ []) c.loop-index.invariant
