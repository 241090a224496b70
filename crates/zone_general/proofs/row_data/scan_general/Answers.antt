use Rattle.std.proofs.Common.{◌≡◌, ◌+◌, List, drop, subst, sym}
use Rattle.dns_scan.specs.Token.{Token}
use Rattle.dns_scan.specs.UnknownData.{IsUnknownData}
use Rattle.dns_entry_scanner.specs.RowScanner.{tokens_of}
use Rattle.zone_general.specs.Seen.{tokens_in}
use Rattle.zone_general.proofs.RowData.{if_err, on_ok, tokens_from}
use Rattle.zone_general.proofs.row_data.scan_general.Goals as goal

pub returns-clause-ok : goal.returns-clause-ok
returns-clause-ok c =
    let tokens : tokens_of c.new-scanner.result ≡ drop (c.args.type_index + 2) (tokens_in c.args.row) =
    tokens_from c.args.row.text.now c.args.row.spans.now (c.args.type_index + 2) _ c.new-scanner.ensures.tokens in
    on_ok
    (λ has. (has.0, subst (λ (l : List Token). IsUnknownData l has.0) tokens has.1, has.3, has.4))
    c.scan_unknown_octets_into.result c.scan_unknown_octets_into.ensures.ok

pub returns-clause-err : goal.returns-clause-err
returns-clause-err c =
    let tokens : tokens_of c.new-scanner.result ≡ drop (c.args.type_index + 2) (tokens_in c.args.row) =
    tokens_from c.args.row.text.now c.args.row.spans.now (c.args.type_index + 2) _ c.new-scanner.ensures.tokens in
    if_err
    (λ error none real content is. none real content (subst (λ (l : List Token). IsUnknownData l content) (sym tokens) is))
    c.scan_unknown_octets_into.result c.scan_unknown_octets_into.ensures.err
