use Rattle.std.proofs.Common.{◌≡◌, ◌∙◌, rules}
use Rattle.std.specs.Ordering.{nat_cmp, ordering_then}
use Rattle.std.specs.declared.cmp.Ordering.TheVariants.{Equal}
use Rattle.dns_wire.specs.Order.{labels_order}
use Rattle.zone_canonical.proofs.Orders.{by_front, by_rest, types_level}
use Rattle.zone_canonical.proofs.RecordForms.{read_formed}
use Rattle.zone_canonical.proofs.form.cmp_forms.Goals as goal

pub returns-in-Equal : goal.returns-in-Equal
returns-in-Equal c =
    let tied : c.then.result ≡ Equal = search rules in
    let front : c.then.result ≡ ordering_then (labels_order c.args.record.now.owner c.args.other.now.owner) (nat_cmp c.args.record.now.rtype c.args.other.now.rtype) =
    c.then.ensures
    ∙ (λ i. ordering_then (c.cmp_owners-owners.ensures i) (c.cmp.ensures i))
    ∙ (λ i. ordering_then (labels_order (c.owner.ensures.owner i) (c.owner-2.ensures.owner i)) (nat_cmp (c.rtype.ensures i) (c.rtype-2.ensures i))) in
    let level = types_level c.args.record.now c.args.other.now c.then.result tied front in
    by_rest c.args.record.now c.args.other.now c.then.result c.canonical_data_cmp.result c.cmp-in-Equal.result c.cmp-in-Equal-2.result
    c.then-fixed.result c.then-in-Equal.result tied front
    (c.canonical_data_cmp.ensures _ _
    (read_formed c.args.record.now c.rtype-in-Equal.result c.data.result.now c.rtype-in-Equal.ensures c.data.ensures c.requires.one)
    (read_formed c.args.other.now c.rtype-in-Equal.result c.data-in-Equal.result.now (c.rtype-in-Equal.ensures ∙ level) c.data-in-Equal.ensures c.requires.other))
    (c.cmp-in-Equal.ensures ∙ (λ i. nat_cmp (c.ttl.ensures i) (c.ttl-in-Equal.ensures i)))
    (c.cmp-in-Equal-2.ensures ∙ (λ i. nat_cmp (c.class.ensures i) (c.class-in-Equal.ensures i)))
    c.then-fixed.ensures c.then-in-Equal.ensures

pub returns-in_default : goal.returns-in_default
returns-in_default c =
    by_front c.args.record.now c.args.other.now c.then.result c.in_default.not-Equal
    (c.then.ensures
    ∙ (λ i. ordering_then (c.cmp_owners-owners.ensures i) (c.cmp.ensures i))
    ∙ (λ i. ordering_then (labels_order (c.owner.ensures.owner i) (c.owner-2.ensures.owner i)) (nat_cmp (c.rtype.ensures i) (c.rtype-2.ensures i))))
