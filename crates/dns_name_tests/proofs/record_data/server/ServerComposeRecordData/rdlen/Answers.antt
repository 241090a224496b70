use Rattle.std.proofs.Common.{◌≤◌, ◌∙◌, ℕ, List, ap, length, refl, inl, inr, arith, rules}
use Rattle.dns_label.specs.Name.{labels_wire}
use Rattle.dns_wire.proofs.Wire.{labels_wire-with_root}
use Rattle.dns_name.proofs.WrittenParts.{name_composed, composed_in_full}
use Rattle.dns_name_tests.proofs.record_data.server.ServerComposeRecordData.rdlen.Goals as goal

pub returns-then-compress-clause-none : goal.returns-then-compress-clause-none
returns-then-compress-clause-none g c = ((λ none. inl (c.if-compress.true, refl)), (λ untold. refl))

pub returns-clause-some : goal.returns-clause-some
returns-clause-some g c =
    let name = g.N.ToName.name c.args.self.now.name in
    name_composed c.args.compress name c.compose_len.result c.if-compress.false
    (c.compose_len.ensures ∙ ap (λ (l : List (List ℕ)). length (labels_wire l)) (g.met.N.ToName.is_absolute c.args.self.now.name)
    ∙ ap (length {A = ℕ}) (labels_wire-with_root name))

pub returns-clause-none : goal.returns-clause-none
returns-clause-none g c =
    let long = composed_in_full (returns-clause-some g c) in
    let few : c.compose_len.result ≤ 65535 = search rules in (
      (λ none. absurd (cc)),
      (λ untold. absurd (elim untold [
        | inl it ↦ let asks = it.0 in let not = c.if-compress.false in cc
        | inr past ↦ omega (arith, past, long, few)
      ])),
    )
