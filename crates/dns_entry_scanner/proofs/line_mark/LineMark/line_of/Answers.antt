use Rattle.std.proofs.Common.{◌≡◌, ◌≤◌, ◌<◌, ◌^◌, ◌+◌, ◌-◌, ℕ, length, take, drop, arith, rules, ◌∙◌, ap}
use Rattle.std.proofs.lemmas.Bool.Decides.{nat_tests}
use Rattle.std.proofs.lemmas.List.{length-take, take_min}
use Rattle.dns_entry_scanner.specs.Lines.{line_at, line_behind}
use Rattle.dns_entry_scanner.proofs.MarkedLines.{lines-few, lines-on, lines-some}
use Rattle.dns_entry_scanner.proofs.line_mark.LineMark.line_of.Goals as goal

pub returns : goal.returns
returns c = λ marks.
    let text = c.args.text.now in
    let place = c.args.self.now.place in
    let end = c.min-end.result in
    let same : line_at text end ≡ line_at text c.args.offset =
    ap (line_at text) c.min-end.ensures ∙ ap line_behind (take_min c.args.offset text) in
    let behind : place ≤ end = grind (arith, nat_tests) in
    let short : length text < 2 ^ 63 = search rules in
    let feeds : c.line_behind-2.result ≡ line_behind (take (end - place) (drop place text)) = c.line_behind-2.ensures in
    let added : c.saturating_add.result ≡ line_at text end =
    omega (arith, marks.1, feeds, lines-on text place end behind, lines-few (take end text), lines-some (take (end - place) (drop place text)), length-take end text, short) in
    added ∙ same
