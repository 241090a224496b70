use Rattle.std.proofs.Common.{◌≡◌, ◌∙◌, ℕ, false, nat_eq, ap, sym, inl, inr, eq-eqb}
use Rattle.std.proofs.lemmas.Bool.{false≢true}
use Rattle.dns_header.specs.Question.{Question}
use Rattle.dns_sections.specs.Message.{octets_in}
use Rattle.dns_sections.proofs.First.{first-one}
use Rattle.dns_sections.proofs.message.Message.is_xfr.Goals as goal

differs : (rtype number : ℕ) → false ≡ nat_eq rtype number → rtype ≡ number → ⊥
differs rtype number test is = false≢true (test ∙ eq-eqb rtype number is)

pub returns-in-None-clause-no : goal.returns-in-None-clause-no
returns-in-None-clause-no g c = λ none question first xfr. c.in-None.ensures.none question first

pub returns-else-eq-clause-no : goal.returns-else-eq-clause-no
returns-else-eq-clause-no g c = λ none question first xfr.
    let some = c.in-Some.ensures.some in
    let one = first-one (octets_in g.Octs.Octets.list c.args.self.now) question some.0 first some.1 in
    let same : c.in-Some.rtype ≡ question.qtype = some.2 ∙ sym (ap (λ (q : Question). q.qtype) one) in
    elim xfr [
      | inl is ↦ differs c.in-Some.rtype 251 c.if-eq.ensures (same ∙ is)
      | inr is ↦ differs c.in-Some.rtype 252 (sym none ∙ c.eq-else-eq.ensures) (same ∙ is)
    ]
