use Rattle.std.proofs.Common.{◌-◌, ◌∷◌, [], length, take, drop, get_or, arith, length-take, length-drop}
use Rattle.dns_scan_data.proofs.HexDigits.{pairs_more, two_first}
use Rattle.dns_scan_data.proofs.hex.append_pairs.Goals as goal

pub loop-left-preserved : goal.loop-left-preserved
loop-left-preserved c =
    let left = c.loop-left.left.now in
    let pair = get_or left 0 0 ∷ get_or left 1 0 ∷ [] in
    let behind = take (length left - 2) (drop 2 left) in record {
      pairs =
          pairs_more pair behind (c.in-Some.octet ∷ []) c.loop-left.invariant.pairs (two_first left c.in-len2-up.len_at_least) c.in-Some.ensures.some
          c.push_reserved.ensures.items;
      room =
          omega (
            arith,
            c.loop-left.invariant.room,
            c.in-len2-up.len_at_least,
            length-take (length left - 2) (drop 2 left),
            length-drop 2 left,
            c.push_reserved.ensures.len,
            c.push_reserved.ensures.capacity,
          );
    }
