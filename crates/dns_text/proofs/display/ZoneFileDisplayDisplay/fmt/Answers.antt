use Rattle.std.proofs.Common.{ap, rules}
use Rattle.dns_text.proofs.Displays.{displayed}
use Rattle.dns_text.proofs.Writings.{on_ok_at}
use Rattle.dns_text.proofs.display.ZoneFileDisplayDisplay.fmt.Goals as goal

pub returns-clause-writes : goal.returns-clause-writes
returns-clause-writes g c = λ plain ok.
    displayed g.W.Write.write_str_gives c.new-writer.result c.fmt-result.new.formatter c.args.f.now _ c.args.self.now.kind
    (g.T.ZonefileFmt.document c.args.self.now.value.now) (ap (λ b. b.now) c.new-writer.ensures.target) c.new-writer.ensures.kind
    c.new-writer.ensures.at (λ same. search rules) plain (on_ok_at c.fmt-result.result _ ok c.fmt-result.ensures)
