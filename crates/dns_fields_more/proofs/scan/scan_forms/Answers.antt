use Rattle.dns_fields_more.proofs.ScanRows.{scans_form, scans_none}
use Rattle.dns_fields_more.proofs.scan.scan_forms.Goals as goal

pub loop-form-init : goal.loop-form-init
loop-form-init g c = scans_none (g.S.Scanner.names c.args.scanner.now) c.args.forms.now (g.S.Scanner.tokens c.args.scanner.now) c.args.octets.now.items

pub loop-form-preserved : goal.loop-form-preserved
loop-form-preserved g c =
    scans_form c.loop-form.invariant (let cases = c.in-Some.ensures.cases in cc) c.scan_form.ensures.names c.in-Ok.ensures.ok c.scan_form.ensures.more
