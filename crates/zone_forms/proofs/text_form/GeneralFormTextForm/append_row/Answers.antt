use Rattle.std.proofs.lemmas.Result.{on_ok_weaker}
use Rattle.zone_forms.proofs.text_form.GeneralFormTextForm.append_row.Goals as goal

pub returns-clause-ok : goal.returns-clause-ok
returns-clause-ok c =
    on_ok_weaker c.read_entry.result
    (λ told. let goes = told.2 in (told.0, told.1, record { general = goes.general; is = goes.is; so = goes.so }, goes, told.3)) c.read_entry.ensures.ok
