use Rattle.std.proofs.Common.{◌∙◌, ap, arith, length}
use Rattle.std.proofs.lemmas.Bool.{leb-true}
use Rattle.std.specs.List.{list_all}
use Rattle.dns_entry_scanner.specs.AppendedName.{is_no_dot}
use Rattle.dns_entry_scanner.proofs.OneLabel.{near_run, no_longer}
use Rattle.dns_entry_scanner.proofs.appended_name.has_no_dot.Goals as goal

pub returns : goal.returns
returns c = λ is.
    let token = c.args.token in
    let short = no_longer token.text.now token.from.now token.begins in
    ap (list_all is_no_dot) token.begins
    ∙ near_run is_no_dot (length token.text.now) c.min.result token.from.now (omega (arith, short))
    (omega (arith, c.run_end.ensures.end, leb-true (length token.text.now) c.run_end.result is))
