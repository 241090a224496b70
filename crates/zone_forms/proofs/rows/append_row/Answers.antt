use Rattle.std.proofs.Common.{◌≢◌, [], arith}
use Rattle.std.proofs.lemmas.Grind.{common_steps}
use Rattle.dns_entry_scanner.proofs.Refused.{on_ok_weaker}
use Rattle.zone_forms.proofs.GoingOn.{if_err_weaker}
use Rattle.zone_forms.specs.Going.RowGoes.{entry}
use Rattle.zone_general.specs.Seen.{tokens_in}
use Rattle.zone_forms.proofs.rows.append_row.Goals as goal

pub returns-clause-ok : goal.returns-clause-ok
returns-clause-ok g c =
    let some : tokens_in c.args.row ≢ [] = grind (arith, common_steps) in
    on_ok_weaker c.append_row.result _ _ (λ told. (told.1, entry some told.2 told.3, told.4)) c.append_row.ensures.ok

pub returns-clause-err : goal.returns-clause-err
returns-clause-err g c =
    let some : tokens_in c.args.row ≢ [] = grind (arith, common_steps) in
    if_err_weaker c.append_row.result _ _ (λ error none memory. (some, none memory)) c.append_row.ensures.err
