use Rattle.zone_core.proofs.Cuttings.{grows_fits, full_cut_is_fewest, blocked_fits_no_cutting}
use Rattle.zone_send.proofs.Plain.{size_grows}
use Rattle.zone_send.specs.Sent.{size}
use Rattle.zone_send.proofs.laws.sent.plain_full_cut_is_fewest.Goals as goal

pub returns-clause-grows : goal.returns-clause-grows
returns-clause-grows c = size_grows

pub returns-clause-fewest : goal.returns-clause-fewest
returns-clause-fewest c query max records full others =
    full_cut_is_fewest (size query) max records full others (grows_fits (size query) max (size_grows query))

pub returns-clause-none_fits : goal.returns-clause-none_fits
returns-clause-none_fits c query max records n groups =
    blocked_fits_no_cutting (size query) max records n groups (grows_fits (size query) max (size_grows query))
