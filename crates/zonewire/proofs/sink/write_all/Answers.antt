use Rattle.std.proofs.Common.{rules, ◌++◌, take}
use Rattle.zonewire.proofs.Known.{appends_both, front_grows}
use Rattle.zonewire.proofs.sink.write_all.Goals as goal

pub loop-rest-preserved : goal.loop-rest-preserved
loop-rest-preserved g c =
    let (front, split, appended) = c.loop-rest.invariant.0 in
    let rest = c.loop-rest.rest.now in
    let n = c.in_ok-count.count in
    ((front ++ take n rest, front_grows _ front rest n split, appends_both _ _ _ _ _ appended c.in_ok-count.ensures.octets), search rules)
