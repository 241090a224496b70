use Rattle.dns_name.specs.Spelling.{tree_spelling}
use Rattle.zone_send.specs.Spelled.{spelled_size}
use Rattle.zone_core.proofs.Cuttings.{full_cut_is_fewest, blocked_fits_no_cutting}
use Rattle.zone_send.proofs.SpelledCuts.{tree_parts_fit}
use Rattle.zone_send.proofs.laws.spelled.tree_full_cut_is_fewest.Goals as goal

pub returns-clause-parts : goal.returns-clause-parts
returns-clause-parts c = tree_parts_fit

pub returns-clause-fewest : goal.returns-clause-fewest
returns-clause-fewest c = λ query item max records full others few.
    full_cut_is_fewest (spelled_size tree_spelling query item) max records full others (tree_parts_fit query item max few)

pub returns-clause-none_fits : goal.returns-clause-none_fits
returns-clause-none_fits c = λ query item max records n groups few.
    blocked_fits_no_cutting (spelled_size tree_spelling query item) max records n groups (tree_parts_fit query item max few)
