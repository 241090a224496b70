use Rattle.std.proofs.Common.{◌≤◌, List, length, sym, ◌∙◌, ap, subst}
use Rattle.std.specs.Prelude.{Some}
use Rattle.dns_fields.specs.Fields.{Kind, octets}
use Rattle.dns_fields.specs.Scanned.{ScansRow}
use Rattle.dns_fields.proofs.ScanParts.{left_of_fields}
use Rattle.dns_fields.proofs.scan.scan_row_of.Goals as goal

pub returns-in-None-clause-left : goal.returns-in-None-clause-left
returns-in-None-clause-left g c = left_of_fields _ _ _ _ c.in_ok-row.ensures.ok

pub returns-in-Some-clause-ok : goal.returns-in-Some-clause-ok
returns-in-Some-clause-ok g c =
    let same = sym c.in-Some.ensures.same in
    let Scans = λ (row : g.row.R.Denot).
    ScansRow (g.S.Scanner.names c.args.scanner.now) (g.R.HasFields.fields row) (g.S.Scanner.tokens c.args.scanner.now)
    (g.S.Scanner.tokens c.scan_fields.new.scanner) in
    record {
      kinds = c.requires ∙ ap (λ (kinds : List Kind). Some kinds) (sym (g.met.R.HasFields.of_kinds c.in-Some.row));
      scanned = subst Scans same c.in_ok-row.ensures.ok;
      short = subst (λ (row : g.row.R.Denot). length (octets (g.R.HasFields.fields row)) ≤ 65535) same c.in-Some.ensures.fits;
    }
