use Rattle.std.proofs.Common.{◌+◌, ◌-◌, ◌/◌, ◌^◌, length, drop, sym, ap, ◌∙◌, arith}
use Rattle.std.proofs.lemmas.List.{length-drop}
use lib.Count.{count_trailing_zeros}
use Rattle.dns_label.proofs.OctetRuns.{last_mask, all_are, some_other}
use Rattle.dns_label.proofs.octet_run.last_run_end.Goals as goal

pub returns-then-others-eq0 : goal.returns-then-others-eq0
returns-then-others-eq0 g c =
    let has = g.K.OctetKind.has in
    let text = c.args.text.now in
    let first = length text - 16 in
    let mask = ap (λ n. n / 2 ^ (c.args.place - first)) c.others.ensures
    ∙ last_mask has text first c.args.place 16 (omega (arith, c.requires.long)) (omega (arith, c.requires.last)) in
    let all = all_are has (drop c.args.place text) (omega (arith, mask)) in
    omega (arith, all, length-drop c.args.place text, c.requires.within)

pub returns-else-others-eq0 : goal.returns-else-others-eq0
returns-else-others-eq0 g c =
    let has = g.K.OctetKind.has in
    let text = c.args.text.now in
    let first = length text - 16 in
    let mask = ap (λ n. n / 2 ^ (c.args.place - first)) c.others.ensures
    ∙ last_mask has text first c.args.place 16 (omega (arith, c.requires.long)) (omega (arith, c.requires.last)) in
    ap (λ n. c.args.place + n) (
    ap (count_trailing_zeros 64) mask
    ∙ sym (some_other has (drop c.args.place text) (omega (arith, length-drop c.args.place text, c.requires.last)) (omega (arith, mask)))
    )
