use Rattle.std.proofs.Common.{◌∙◌, ap, sym}
use Rattle.std.proofs.lemmas.Bool.Decides.{Decides-eqb}
use Rattle.dns_label.specs.Name.{low}
use Rattle.dns_name.specs.ParsedName.{labels_of}
use Rattle.zone_receive.proofs.question.is_question_of.Goals as goal
use Rattle.zone_receive.proofs.question.is_question_of.Goals.{then-eq, else-eq}

pub returns-then-same_numbers : goal.returns-then-same_numbers
returns-then-same_numbers c =
    let told = c.name_eq.ensures.labels in
    let named = ap (λ n. low (labels_of n)) c.qname.ensures in
    elim c.if-eq.branch [
      | then-eq w ↦ (
        λ yes. record {
          name = sym named ∙ told.0 yes;
          qtype = sym c.qtype.ensures ∙ (Decides-eqb c.qtype.result 252).0 (sym w.if-eq.ensures);
          qclass = sym w.qclass.ensures
              ∙ (Decides-eqb w.qclass.result c.args.query.now.class).0 (sym w.eq-same_numbers.ensures ∙ sym w.same_numbers-is ∙ c.if-same_numbers.true);
        },
        λ is. told.1 (named ∙ is.name),
      )
      | else-eq w ↦ let no = sym w.same_numbers-is ∙ c.if-same_numbers.true in let no' = w.if-eq.false in absurd cc
    ]
