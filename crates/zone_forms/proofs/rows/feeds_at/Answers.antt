use Rattle.std.proofs.Common.{◌≡◌, take, arith}
use Rattle.dns_entry_scanner.proofs.MarkedLines.{lines-some}
use Rattle.dns_entry_scanner.specs.Lines.{line_at}
use Rattle.zone_forms.proofs.rows.feeds_at.Goals as goal

pub returns : goal.returns
returns c = λ few.
    let text = c.args.text.now in
    let line : c.line_of-line.result ≡ line_at text c.args.place = c.line_of-line.ensures (c.start.ensures text) in
    omega (arith, few, line, lines-some (take c.args.place text))
