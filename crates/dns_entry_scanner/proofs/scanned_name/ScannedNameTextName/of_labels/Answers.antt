use Rattle.std.proofs.Common.{ℕ, ◌<◌, List, [], length, sym, ◌∙◌, subst}
use Rattle.dns_label.specs.Name.{IsName}
use Rattle.dns_wire.specs.Draft.{Holds}
use Rattle.dns_wire.proofs.Case.{wire_one}
use Rattle.dns_wire.proofs.Flat.{flat-written}
use Rattle.dns_entry_scanner.proofs.Refused.{if_ok_weaker}
use Rattle.dns_entry_scanner.proofs.scanned_name.ScannedNameTextName.of_labels.Goals as goal

pub from_octets_unchecked-requires : goal.from_octets_unchecked-requires
from_octets_unchecked-requires c =
    let made = c.finished_octets.ensures in flat-written _ made.0 made.2 (c.in_ok-octets.ensures.items ∙ made.4)

pub returns : goal.returns
returns c =
    let made = c.finished_octets.ensures in
    let is = wire_one made.0 _ (sym (c.in_ok-octets.ensures.items ∙ made.4) ∙ c.from_octets_unchecked.ensures) in
    let P : List (List ℕ) → Type 0 = λ name. Holds c.args.draft.now name [] × IsName name × (0 < length name) in
    if_ok_weaker c.absolute.result _ _ (λ scanned same. subst P (is ∙ sym same) (made.1, made.2, made.3)) c.absolute.ensures
