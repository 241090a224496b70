use Rattle.std.proofs.Common.{refl, sym, ◌∙◌}
use Rattle.dns_flat.proofs.NameParts.{name_labels, flat_rooted, never_none, first_of, first_parent, first_is, first_root}
use Rattle.dns_flat.proofs.name.Name.split_first.Goals as goal

pub split_first-requires : goal.split_first-requires
split_first-requires g c = name_labels c.args.self.now c.as_slice.ensures.name c.as_slice.ensures.octets

pub returns-in_err-label-clause-none : goal.returns-in_err-label-clause-none
returns-in_err-label-clause-none g c =
    absurd (never_none c.args.self.now (sym (flat_rooted c.args.self.now c.as_slice.ensures.octets) ∙ c.in_err-label.ensures.none))

pub returns-then-is_root-clause-none : goal.returns-then-is_root-clause-none
returns-then-is_root-clause-none g c =
    first_root c.in_ok-label.behind.now c.args.self.now c.as_slice.ensures.name c.as_slice.ensures.octets c.in_ok-label.ensures.some (c.if-is_root.ensures.0 refl)

pub from_octets_unchecked-requires : goal.from_octets_unchecked-requires
from_octets_unchecked-requires g c =
    first_parent c.as_slice.ensures.name
    (first_of {behind = c.in_ok-label.behind.now} c.args.self.now c.as_slice.ensures.octets c.in_ok-label.ensures.some c.in_ok-label.ensures.left
    (λ none. let bad = c.if-is_root.ensures.1 none in cc))

pub returns-clause-some : goal.returns-clause-some
returns-clause-some g c =
    first_is
    (first_of {behind = c.in_ok-label.behind.now} c.args.self.now c.as_slice.ensures.octets c.in_ok-label.ensures.some c.in_ok-label.ensures.left
    (λ none. let bad = c.if-is_root.ensures.1 none in cc)) c.from_octets_unchecked.ensures
