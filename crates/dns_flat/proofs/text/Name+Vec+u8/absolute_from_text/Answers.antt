use Rattle.std.proofs.Common.{List, ℕ, ◌++◌, ◌∙◌, ap, sym, subst}
use Rattle.dns_label.specs.Name.{wire}
use Rattle.dns_label.specs.NameText.{IsAbsoluteText}
use Rattle.dns_wire.proofs.Case.{wire_one}
use Rattle.dns_wire.proofs.Flat.{flat-written}
use Rattle.dns_wire.proofs.Texts.{absolute_name}
use Rattle.dns_flat.proofs.text.Name+Vec+u8.absolute_from_text.Goals as goal

pub from_octets_unchecked-requires : goal.from_octets_unchecked-requires
from_octets_unchecked-requires c =
    let made = c.in_ok-append_absolute_text.ensures.ok in
    flat-written _ made.0 (absolute_name _ _ made.1) (made.2 ∙ ap (λ l. l ++ wire made.0) c.new-octets.ensures.items)

pub returns-clause-ok : goal.returns-clause-ok
returns-clause-ok c =
    let made = c.in_ok-append_absolute_text.ensures.ok in
    let P : List (List ℕ) → Type 0 = λ name. IsAbsoluteText c.args.text.now name in
    subst P (wire_one _ _ (sym (made.2 ∙ ap (λ l. l ++ wire made.0) c.new-octets.ensures.items) ∙ c.from_octets_unchecked.ensures)) made.1
