use Rattle.std.proofs.Common.{◌+◌, get_or, refl, arith}
use Rattle.dns_label.specs.Name.{wire}
use Rattle.dns_compress.specs.declared.spot.Spot.{Spot}
use Rattle.dns_compress.specs.Spots.{read_at, read_all}
use Rattle.dns_compress.proofs.Spots.{same_there}
use Rattle.dns_compress.proofs.SpotsFound.{spot_known, found_here, passed, found_nowhere}
use Rattle.dns_compress.proofs.static_table.find_among.Goals as goal

pub returns-then-is_same_at : goal.returns-then-is_same_at
returns-then-is_same_at c =
    let other : Spot = record { place = 0; stop = 0 } in
    let spot : Spot = get_or c.args.written.now c.loop-spot.spot-index other in
    found_here c.args.octets.now c.args.written.now (wire c.args.suffix.now) c.loop-spot.spot-index c.loop-spot.invariant spot other
    c.loop-spot-test.true refl c.is_same_at.result
    (same_there (read_all c.args.octets.now c.args.written.now) c.args.octets.now (read_at c.args.octets.now spot) c.args.suffix.now
    c.is_same_at.result c.requires (spot_known c.args.octets.now c.args.written.now c.loop-spot.spot-index spot other c.loop-spot-test.true refl)
    c.len-len.ensures.name c.is_same_at.ensures)
    c.if-is_same_at.true

pub loop-spot-preserved : goal.loop-spot-preserved
loop-spot-preserved c =
    let other : Spot = record { place = 0; stop = 0 } in
    let spot : Spot = get_or c.args.written.now c.loop-spot.spot-index other in
    passed c.args.octets.now c.args.written.now (wire c.args.suffix.now) c.loop-spot.spot-index c.loop-spot.invariant spot other
    c.loop-spot-test.true refl c.is_same_at.result (c.loop-spot.spot-index + 1) refl
    (same_there (read_all c.args.octets.now c.args.written.now) c.args.octets.now (read_at c.args.octets.now spot) c.args.suffix.now
    c.is_same_at.result c.requires (spot_known c.args.octets.now c.args.written.now c.loop-spot.spot-index spot other c.loop-spot-test.true refl)
    c.len-len.ensures.name c.is_same_at.ensures)
    c.if-is_same_at.false

pub returns : goal.returns
returns c =
    found_nowhere c.args.octets.now c.args.written.now (wire c.args.suffix.now) c.loop-spot.spot-index c.loop-spot.invariant (omega arith)
