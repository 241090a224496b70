use Rattle.std.proofs.Common.{◌≡◌, drop}
use Rattle.dns_scan.specs.Token.{SameNames}
use Rattle.dns_entry_scanner.specs.RowScanner.{names_of, tokens_of}
use Rattle.zone_general.proofs.row_data.skip_tokens.Given as goal

abbrev pub invariant-loop : goal.invariant-loop
invariant-loop l = record {
  tokens : tokens_of l.scanner ≡ drop l.counter (tokens_of l.fn.scanner);
  names : SameNames (names_of l.fn.scanner) (names_of l.scanner);
}
