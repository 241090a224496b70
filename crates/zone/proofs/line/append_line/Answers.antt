use Rattle.std.proofs.Common.{rules}
use Rattle.std.specs.Prelude.{string_bytes}
use Rattle.zone.proofs.AppendedLines.{line_written, line_added}
use Rattle.zone.proofs.line.append_line.Goals as goal

pub returns-in-Ok : goal.returns-in-Ok
returns-in-Ok g c =
    line_added c.push_str.result (g.T.Display.output c.args.value.now) (string_bytes c.args.text.now) _ c.writeln.new.self.bytes (search rules)
    (line_written _ (λ text. text.bytes) (λ _ _ _ is. is) c.new-line.result c.writeln.new.self (g.T.Display.output c.args.value.now) c.new-line.ensures (search rules))
