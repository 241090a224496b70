use Rattle.std.proofs.Common.{◌∷◌, refl, sym, ◌∙◌, ap}
use Rattle.dns_label.specs.Labels.{labels_at}
use Rattle.dns_wire.specs.Suffix.{suffixes}
use Rattle.dns_wire.proofs.Flat.{flat-labels}
use Rattle.dns_flat.proofs.NameParts.{name_labels, flat_rooted, never_none, first_of, first_parent, first_root, parent_name}
use Rattle.dns_flat.proofs.Suffixes.{suffixes-behind, suffixes-none}
use Rattle.dns_flat.proofs.name.suffixes.parent_octets.Goals as goal

pub split_first-requires : goal.split_first-requires
split_first-requires c = name_labels _ c.requires.is_name c.requires.whole

pub returns-in_err-label-clause-suffixes : goal.returns-in_err-label-clause-suffixes
returns-in_err-label-clause-suffixes c =
    absurd (never_none _ (sym (flat_rooted _ c.requires.whole) ∙ c.in_err-label.ensures.none))

pub returns-then-is_root-clause-suffixes : goal.returns-then-is_root-clause-suffixes
returns-then-is_root-clause-suffixes c =
    suffixes-none (first_root c.in_ok-label.behind.now _ c.requires.is_name c.requires.whole c.in_ok-label.ensures.some (c.if-is_root.ensures.0 refl))

pub returns-clause-left : goal.returns-clause-left
returns-clause-left c =
    first_parent c.requires.is_name
    (first_of {behind = c.in_ok-label.behind.now} _ c.requires.whole c.in_ok-label.ensures.some c.in_ok-label.ensures.left
    (λ none. let bad = c.if-is_root.ensures.1 none in cc))

pub returns-clause-suffixes : goal.returns-clause-suffixes
returns-clause-suffixes c =
    let first = first_of {behind = c.in_ok-label.behind.now} (labels_at c.args.octets.now 0) c.requires.whole c.in_ok-label.ensures.some c.in_ok-label.ensures.left
    (λ none. let bad = c.if-is_root.ensures.1 none in cc) in
    let parent = flat-labels c.in_ok-label.behind.now first.parent (parent_name c.requires.is_name first) first.behind_is in
    suffixes-behind first.name_is ∙ ap (λ l. labels_at c.args.octets.now 0 ∷ suffixes l) (sym parent)
