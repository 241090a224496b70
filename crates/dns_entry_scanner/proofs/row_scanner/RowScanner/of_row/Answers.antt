use Rattle.dns_entry_scanner.proofs.PlainTokens.{row_plain}
use Rattle.dns_entry_scanner.proofs.row_scanner.RowScanner.of_row.Goals as goal

pub over-requires : goal.over-requires
over-requires g c = λ is. row_plain c.requires.2
