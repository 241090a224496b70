use Rattle.std.proofs.Common.{◌≡◌, false, nat_eq, refl, sym, ap, ◌∙◌, arith}
use Rattle.std.specs.Cmp.{nat_cmp_is}
use Rattle.std.specs.Ordering.{is_eq}
use Rattle.std.specs.declared.cmp.Ordering.TheVariants.{Equal}
use Rattle.std.proofs.lemmas.Bool.Decides.{nat_tests}
use Rattle.zone_canonical.proofs.Orders.{by_form, unlike_keys}
use Rattle.zone_canonical.proofs.entry.EntryPartialEq.eq.Goals as goal

pub returns-then-self-other : goal.returns-then-self-other
returns-then-self-other c =
    let same : c.self.inside.key ≡ c.other.inside.key = grind (arith, nat_tests) in
    let key = sym (λ i. (c.self.view_is i).key) ∙ same ∙ (λ i. (c.other.view_is i).key) in
    c.is_eq.ensures
    ∙ ap is_eq
    (by_form c.args.self.now c.args.other.now Equal c.cmp_forms.result refl (nat_cmp_is c.args.self.now.key c.args.other.now.key Equal key) c.cmp_forms.ensures)

pub returns-else-self-other : goal.returns-else-self-other
returns-else-self-other c =
    let apart : nat_eq c.self.inside.key c.other.inside.key ≡ false = grind (arith, nat_tests) in
    unlike_keys c.args.self.now c.args.other.now (nat_eq c.self.inside.key c.other.inside.key) apart
    (λ i. nat_eq (c.self.view_is i).key (c.other.view_is i).key)
