use Rattle.std.proofs.Common.{◌≡◌, ◌∙◌, rules}
use Rattle.std.specs.Ordering.{nat_cmp}
use Rattle.std.specs.declared.cmp.Ordering.TheVariants.{Equal}
use Rattle.zone_canonical.proofs.Orders.{by_form, by_key}
use Rattle.zone_canonical.proofs.entry.EntryOrd.cmp.Goals as goal

pub returns-in-Equal : goal.returns-in-Equal
returns-in-Equal c =
    let tied : c.cmp.result ≡ Equal = search rules in
    by_form c.args.self.now c.args.other.now c.cmp.result c.cmp_forms.result tied
    (c.cmp.ensures ∙ (λ i. nat_cmp (c.self.view_is i).key (c.other.view_is i).key))
    c.cmp_forms.ensures

pub returns-in_default : goal.returns-in_default
returns-in_default c =
    by_key c.args.self.now c.args.other.now c.cmp.result c.in_default.not-Equal
    (c.cmp.ensures ∙ (λ i. nat_cmp (c.self.view_is i).key (c.other.view_is i).key))
