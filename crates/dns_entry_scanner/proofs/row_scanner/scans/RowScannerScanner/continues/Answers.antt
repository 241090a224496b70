use Rattle.dns_entry_scanner.proofs.TakenTokens.{fewer_taken, some_left}
use Rattle.dns_entry_scanner.proofs.row_scanner.scans.RowScannerScanner.continues.Goals as goal

pub returns-clause-some : goal.returns-clause-some
returns-clause-some g c =
    let self = c.args.self.now in
    (some_left self.text.now self.taken self.spans.now, fewer_taken self.text.now self.taken self.spans.now)
