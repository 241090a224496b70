use Rattle.std.proofs.Common.{◌∙◌, ◌-◌, ℕ, List, true, ap, refl}
use Rattle.dns_header.specs.HeaderFields.{fields_of}
use Rattle.dns_builder.specs.Steps.{going_to, with_header}
use Rattle.dns_builder.proofs.builder.SectionBuilder.tc_rewind_into.Goals as goal

pub returns-clause-built : goal.returns-clause-built
returns-clause-built g c built is =
    let emptied = c.rewind.ensures.built built is in (
      with_header (going_to g.S.BuilderSection.number (going_to (g.S.BuilderSection.number - 1) built)) c.set_tc.new.self,
      record {
        header = c.set_tc.ensures ∙ ap (λ (h : List ℕ). record (fields_of h) { tc = true }) (c.header-header.ensures.built _ emptied);
        sections = refl;
      },
      c.set_header.ensures.built _ emptied,
    )
