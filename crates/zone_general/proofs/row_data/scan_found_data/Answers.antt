use Rattle.std.proofs.Common.{◌≡◌, ◌+◌, ◌∙◌, ap, arith, drop}
use Rattle.dns_scan.specs.Token.{Token}
use Rattle.dns_scan.proofs.SymbolsRead.{same_names_join}
use Rattle.dns_entry_scanner.specs.RowScanner.{tokens_of}
use Rattle.zone_general.specs.Seen.{tokens_in}
use Rattle.zone_general.proofs.RowData.{fields_scanned, fields_there, general_scanned, if_err, no_fields, no_fields_there, no_general, on_ok, same_under}
use Rattle.zone_general.proofs.row_data.scan_found_data.Goals as goal

pub of_row-scanner-requires : goal.of_row-scanner-requires
of_row-scanner-requires c = (c.args.row.next, c.args.row.blank_led, c.requires.found)

pub returns-then-is_marked-clause-ok : goal.returns-then-is_marked-clause-ok
returns-then-is_marked-clause-ok c =
    on_ok
    (general_scanned (c.args.kind.index + 1) (c.args.kind.index + 2) (tokens_in c.args.row) (omega arith) (c.is_marked.ensures.0 c.if-is_marked.true)
    c.args.octets.now.items c.scan_general.new.octets.items)
    c.scan_general.result c.scan_general.ensures.ok

pub returns-then-is_marked-clause-err : goal.returns-then-is_marked-clause-err
returns-then-is_marked-clause-err c =
    if_err
    (λ error none real.
    no_general (c.args.kind.index + 1) (c.args.kind.index + 2) (tokens_in c.args.row) (omega arith) (c.is_marked.ensures.0 c.if-is_marked.true) (none real))
    c.scan_general.result c.scan_general.ensures.err

pub returns-clause-ok : goal.returns-clause-ok
returns-clause-ok c =
    let tokens : tokens_of c.skip_tokens.new.scanner ≡ drop (c.args.kind.index + 1) (tokens_in c.args.row) =
    c.skip_tokens.ensures.tokens ∙ ap (drop {A = Token} (c.args.kind.index + 1)) c.of_row-scanner.ensures.tokens in
    on_ok
    (λ has. fields_scanned c.args.octets.now.items c.scan_fields.new.octets.items (λ marked. let yes = c.is_marked.ensures.1 marked in cc)
    (fields_there (same_names_join _ _ _ (same_under c.of_row-scanner.ensures.origin) c.skip_tokens.ensures.names) tokens c.args.octets.now.items c.scan_fields.new.octets.items has))
    c.scan_fields.result c.scan_fields.ensures.ok

pub returns-clause-err : goal.returns-clause-err
returns-clause-err c =
    let tokens : tokens_of c.skip_tokens.new.scanner ≡ drop (c.args.kind.index + 1) (tokens_in c.args.row) =
    c.skip_tokens.ensures.tokens ∙ ap (drop {A = Token} (c.args.kind.index + 1)) c.of_row-scanner.ensures.tokens in
    if_err
    (λ error none real. no_fields (λ marked. let yes = c.is_marked.ensures.1 marked in cc)
    (no_fields_there (same_names_join _ _ _ (same_under c.of_row-scanner.ensures.origin) c.skip_tokens.ensures.names) tokens (none real)))
    c.scan_fields.result c.scan_fields.ensures.err
