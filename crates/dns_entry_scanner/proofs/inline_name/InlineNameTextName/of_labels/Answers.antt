use Rattle.std.proofs.Common.{ℕ, ◌<◌, List, [], ◌++◌, length, sym, ◌∙◌, ap, subst}
use Rattle.dns_label.specs.Name.{IsName}
use Rattle.dns_wire.specs.Draft.{Holds}
use Rattle.dns_wire.proofs.Case.{wire_one}
use Rattle.dns_wire.proofs.Flat.{flat-written}
use Rattle.dns_entry_scanner.proofs.inline_name.InlineNameTextName.of_labels.Goals as goal

pub from_octets_unchecked-requires : goal.from_octets_unchecked-requires
from_octets_unchecked-requires c =
    let made = c.finished_octets.ensures in
    flat-written _ made.0 made.2 (c.append.ensures ∙ ap (λ l. l ++ c.finished_octets.result.now) c.new-octets.ensures ∙ made.4)

pub returns-clause-made : goal.returns-clause-made
returns-clause-made c =
    let made = c.finished_octets.ensures in
    let is = wire_one made.0 _
    (sym (c.append.ensures ∙ ap (λ l. l ++ c.finished_octets.result.now) c.new-octets.ensures ∙ made.4) ∙ c.from_octets_unchecked.ensures) in
    let P : List (List ℕ) → Type 0 = λ name. Holds c.args.draft.now name [] × IsName name × (0 < length name) in
    subst P is (made.1, made.2, made.3)
