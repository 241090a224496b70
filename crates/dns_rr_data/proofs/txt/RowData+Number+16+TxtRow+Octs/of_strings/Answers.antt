use Rattle.std.proofs.Common.{[], ◌∷◌, ◌∙◌, ap, sym}
use Rattle.dns_fields.specs.Fields.{strings}
use Rattle.dns_fields.proofs.StringsOf.{strings_one}
use Rattle.dns_rr_data.proofs.txt.RowData+Number+16+TxtRow+Octs.of_strings.Goals as goal

pub returns : goal.returns
returns g c each is =
    let found = c.in-Ok.ensures.ok in
    found.1 ∙ ap (λ e. strings e ∷ []) (strings_one found.0 each (sym found.2 ∙ is))
