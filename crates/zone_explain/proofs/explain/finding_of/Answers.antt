use Rattle.std.proofs.Common.{◌∙◌, sym}
use Rattle.zone_explain.proofs.Walks.{if_ok}
use Rattle.zone_explain.proofs.explain.finding_of.Goals as goal

pub returns-clause-entry : goal.returns-clause-entry
returns-clause-entry c =
    if_ok c.finding_in.result c.finding_in.ensures.entry (λ finding place is.
    place (record {
      origin = _;
      n = _;
      breaks = is;
      numbered = sym c.entry_of.ensures.number ∙ c.in-Some.is;
      row = c.in_ok-row.ensures.row;
    }))
