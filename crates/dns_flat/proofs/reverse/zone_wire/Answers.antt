use Rattle.std.proofs.Common.{List, ℕ, ◌∙◌, sym, ap, subst, arith, rules}
use Rattle.std.specs.Prelude.{codes}
use Rattle.std.specs.List.{AllByRecursion}
use Rattle.dns_label.specs.Name.{IsLabel, labels_wire}
use Rattle.dns_flat.specs.Reverse.{zone_labels, decimal_labels, hex_labels}
use Rattle.dns_wire.proofs.Builds.{wire_more}
use Rattle.dns_flat.proofs.Reverses.{v4_each, v6_each}
use Rattle.dns_flat.proofs.reverse.zone_wire.Goals as goal

pub returns-in-V4-clause-labels : goal.returns-in-V4-clause-labels
returns-in-V4-clause-labels c =
    let front = c.decimal_wire-wire.ensures.labels ∙ ap (λ (o : List ℕ). labels_wire (decimal_labels o)) c.octets.ensures in
    c.put_label.ensures ∙ wire_more _ _ (codes "in-addr") front ∙ ap (λ a. labels_wire (zone_labels a)) (sym c.in-V4.is)

pub returns-in-V6-clause-labels : goal.returns-in-V6-clause-labels
returns-in-V6-clause-labels c =
    let front = c.hex_wire-wire.ensures.labels ∙ ap (λ (o : List ℕ). labels_wire (hex_labels o)) c.octets-in-V6.ensures in
    c.put_label-in-V6.ensures ∙ wire_more _ _ (codes "ip6") front ∙ ap (λ a. labels_wire (zone_labels a)) (sym c.in-V6.is)

pub returns-in-V4-clause-each : goal.returns-in-V4-clause-each
returns-in-V4-clause-each c =
    subst (λ a. AllByRecursion IsLabel (zone_labels a)) (sym c.in-V4.is) (v4_each c.in-V4.addr c.octets.result c.octets.ensures (search rules) (λ k. search rules))

pub returns-in-V6-clause-each : goal.returns-in-V6-clause-each
returns-in-V6-clause-each c =
    subst (λ a. AllByRecursion IsLabel (zone_labels a)) (sym c.in-V6.is) (v6_each c.in-V6.addr)
