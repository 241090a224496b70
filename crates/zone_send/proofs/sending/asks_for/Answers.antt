use Rattle.std.proofs.Common.{◌≡◌, ◌∙◌, ap, sym}
use Rattle.std.proofs.lemmas.Bool.Decides.{Decides-eqb}
use Rattle.dns_label.specs.Name.{low}
use Rattle.zone_send.proofs.sending.asks_for.Goals as goal

pub returns-then-eq : goal.returns-then-eq
returns-then-eq c =
    let same : c.class.result ≡ c.class-2.result = (Decides-eqb c.class.result c.class-2.result).0 (sym c.if-eq.ensures) in
    let name = ap low c.name.ensures in
    let apex = ap low c.apex.ensures in (
      λ yes. record {
        name = sym name ∙ c.name_eq.ensures.labels.0 yes ∙ apex;
        class_is = sym c.class.ensures ∙ same ∙ c.class-2.ensures.class;
      },
      λ asks. c.name_eq.ensures.labels.1 (name ∙ asks.name ∙ sym apex),
    )
