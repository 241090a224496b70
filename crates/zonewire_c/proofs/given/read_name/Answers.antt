use Rattle.std.proofs.Common.{sym, subst}
use Rattle.dns_label.specs.NameText.{IsNameText}
use Rattle.dns_wire.specs.Text.{IsRefused}
use Rattle.dns_wire.specs.declared.text.FromStrError.TheVariants.{Presentation}
use Rattle.zonewire_c.proofs.given.read_name.Goals as goal

pub returns-in-Err-Presentation-clause-err : goal.returns-in-Err-Presentation-clause-err
returns-in-Err-Presentation-clause-err c utf8 name spelled =
    let why : IsRefused IsNameText c.in-Ok.text.now (Presentation c.in-Err-Presentation.field-0-0) =
    subst (IsRefused IsNameText c.in-Ok.text.now) c.in-Err-Presentation.field-0-is c.in-Err-Presentation.ensures.err in
    why name (subst (λ text. IsNameText text name) (sym c.in-Ok.ensures.cases.0) spelled)
