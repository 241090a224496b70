use Rattle.std.proofs.Common.{ℕ, ◌+◌, ◌<◌, List, ◌++◌, length, refl, ◌∙◌, ap, subst}
use Rattle.dns_label.specs.Name.{IsName, labels_wire, with_root}
use Rattle.dns_wire.specs.Chain.{before_root}
use Rattle.dns_entry_scanner.proofs.ChainedNames.{chain_fits, few_octets, held_one}
use Rattle.dns_entry_scanner.proofs.scanned_name.ScannedNameTextName.of_labels_under.Goals as goal

pub unreachable-requires : goal.unreachable-requires
unreachable-requires c =
    let front : List (List ℕ) = c.in_ok-finished_labels.field-0 in
    let P : List (List ℕ) → Type 0 = λ name. 254 < length (labels_wire front) + length (labels_wire (before_root (with_root name))) in
    chain_fits front c.args.origin.now c.as_slice-octets.ensures.name
    (few_octets c.args.draft.now front c.requires.0 c.args.origin.now c.in_ok-finished_labels.ensures c.requires.1 c.requires.2)
    (subst P c.in_ok-to_vec.ensures (c.in-Err.ensures.long.0 refl))

pub returns : goal.returns
returns c =
    let front : List (List ℕ) = c.in_ok-finished_labels.field-0 in
    let holds = c.in_ok-finished_labels.ensures in
    let P : List (List ℕ) → Type 0 = λ labels. IsName (labels ++ c.args.origin.now) in (
      front,
      holds,
      subst P (held_one c.args.draft.now c.requires.0 front c.requires.1 holds) c.requires.2,
      ap (λ l. l ++ c.in-Ok.scanned.right) c.in-Ok.ensures.ok.0 ∙ ap (λ r. front ++ r) (c.in-Ok.ensures.ok.1 ∙ c.in_ok-to_vec.ensures),
    )
