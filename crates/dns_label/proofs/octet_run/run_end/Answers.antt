use Rattle.std.proofs.Common.{sym, ap, ◌∙◌, arith}
use lib.Count.{count_trailing_zeros}
use Rattle.dns_label.proofs.OctetRuns.{run_on, run_stops, end_within}
use Rattle.dns_label.proofs.octet_run.run_end.Goals as goal

pub returns-then-others-ne0-clause-end : goal.returns-then-others-ne0-clause-end
returns-then-others-ne0-clause-end g c =
    let has = g.K.OctetKind.has in
    let text = c.args.text.now in
    let mask = c.others-others.ensures in
    let stops = run_stops has text c.loop-end.end 16 (omega arith) (omega arith) (omega (arith, mask)) ∙ ap (count_trailing_zeros 64) (sym mask) in
    omega (arith, stops, c.loop-end.invariant.0)

pub returns-then-others-ne0-clause-within : goal.returns-then-others-ne0-clause-within
returns-then-others-ne0-clause-within g c =
    let has = g.K.OctetKind.has in
    let text = c.args.text.now in
    let mask = c.others-others.ensures in
    let stops = run_stops has text c.loop-end.end 16 (omega arith) (omega arith) (omega (arith, mask)) ∙ ap (count_trailing_zeros 64) (sym mask) in
    omega (arith, stops, end_within has text c.loop-end.end c.loop-end.invariant.1)

pub loop-end-preserved : goal.loop-end-preserved
loop-end-preserved g c =
    let has = g.K.OctetKind.has in
    let text = c.args.text.now in
    let on = run_on has text c.loop-end.end 16 (omega arith) (omega (arith, c.others-others.ensures)) in
    (omega (arith, on, c.loop-end.invariant.0), omega arith)

pub returns-then-text-ge-LANES-clause-within : goal.returns-then-text-ge-LANES-clause-within
returns-then-text-ge-LANES-clause-within g c =
    omega (arith, end_within g.K.OctetKind.has c.args.text.now c.args.place c.requires)

pub returns-else-text-ge-LANES-clause-within : goal.returns-else-text-ge-LANES-clause-within
returns-else-text-ge-LANES-clause-within g c =
    omega (arith, end_within g.K.OctetKind.has c.args.text.now c.args.place c.requires)
