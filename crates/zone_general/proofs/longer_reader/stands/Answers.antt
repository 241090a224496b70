use Rattle.std.proofs.Common.{inl, inr}
use Rattle.zone_general.proofs.LongerRows.{data_if, forms_tested, known_if, stands_by}
use Rattle.zone_general.proofs.longer_reader.stands.Goals as goal

pub returns-then-is_marked : goal.returns-then-is_marked
returns-then-is_marked c =
    (λ yes. stands_by c.args.row c.requires c.if-kind.true (inl (c.is_marked.ensures.0 c.if-is_marked.true)), λ stands. c.if-is_marked.true)

pub returns-else-is_marked : goal.returns-else-is_marked
returns-else-is_marked c =
    let tested = forms_tested (λ forms. forms.now) c.forms_of.result c.is_none.result c.from_int.result c.args.kind.rtype c.from_int.ensures
    c.is_none.ensures c.forms_of.ensures.some c.forms_of.ensures.none in (
      λ yes. stands_by c.args.row c.requires c.if-kind.true (inr (tested.0 yes)),
      λ stands. elim (data_if c.args.row c.requires stands) [
        | inl marked ↦ (let yes = c.is_marked.ensures.1 marked in absurd cc)
        | inr none ↦ tested.1 none
      ],
    )

pub returns-else-kind : goal.returns-else-kind
returns-else-kind c = (λ yes. absurd cc, λ stands. known_if c.args.row c.requires stands)
