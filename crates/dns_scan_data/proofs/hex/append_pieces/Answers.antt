use Rattle.std.proofs.Common.{◌≡◌, ◌++◌, rules}
use Rattle.dns_scan_data.proofs.HexDigits.{front_and_back, pairs_more, pairs_none}
use Rattle.dns_scan_data.proofs.hex.append_pieces.Goals as goal

pub loop-digits-init : goal.loop-digits-init
loop-digits-init c = pairs_none c.args.text.now c.args.octets.now.items

pub loop-digits-preserved : goal.loop-digits-preserved
loop-digits-preserved c =
    let digits = c.in-Some.digits.now in
    let behind = c.in-Some.behind.now in
    let at : c.loop-digits.left.now ≡ digits ++ behind = front_and_back 16 c.loop-digits.left.now digits behind (search rules) (search rules) in
    pairs_more digits behind c.in-Some-decode_piece.piece c.loop-digits.invariant at c.in-Some-decode_piece.ensures c.in_ok-extend_from_slice.ensures.items
