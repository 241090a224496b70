use Rattle.dns_name.specs.Spelling.{hash_spelling}
use Rattle.dns_compression_laws.specs.Alike.{HaveNames}
use Rattle.zone_send.specs.Spelled.{spelled_size}
use Rattle.zone_core.proofs.CuttingsWhere.{full_cut_is_fewest_where, blocked_fits_no_cutting_where}
use Rattle.zone_send.proofs.SpelledCuts.{hash_parts_fit}
use Rattle.zone_send.proofs.laws.spelled.hash_full_cut_is_fewest.Goals as goal

pub returns-clause-fewest : goal.returns-clause-fewest
returns-clause-fewest c = λ query item max records full others few is_name all cut fits.
    full_cut_is_fewest_where (λ r. HaveNames (item r)) (spelled_size hash_spelling query item) max (hash_parts_fit query item max few is_name)
    records full others all cut fits

pub returns-clause-none_fits : goal.returns-clause-none_fits
returns-clause-none_fits c = λ query item max records n groups few is_name all blocked fits.
    blocked_fits_no_cutting_where (λ r. HaveNames (item r)) (spelled_size hash_spelling query item) max (hash_parts_fit query item max few is_name)
    records n groups all blocked fits
