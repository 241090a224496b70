use Rattle.std.proofs.Common.{refl}
use Rattle.dns_name.specs.Spelling.{tree_spelling, hash_spelling}
use Rattle.dns_compression_laws.specs.Cost.{names_in}
use Rattle.dns_compression_laws.specs.Groups.{group_parts}
use Rattle.dns_compression_laws.proofs.Sizes.{any_proper}
use Rattle.zone_send.specs.Spelled.{answer_head, record_items}
use Rattle.zone_send.proofs.SpelledCuts.{hash_proper}
use Rattle.zone_send.proofs.SpelledSums.{message_octets}
use Rattle.zone_send.proofs.laws.spelled.message_octets_are_a_sum.Goals as goal

pub returns-clause-tree : goal.returns-clause-tree
returns-clause-tree c = λ query data_parts group suffixes are fits.
    message_octets query data_parts tree_spelling group suffixes refl
    (any_proper (names_in (group_parts (answer_head query) (record_items data_parts) group))) are fits

pub returns-clause-hash : goal.returns-clause-hash
returns-clause-hash c = λ query data_parts group suffixes is_name names are fits.
    message_octets query data_parts hash_spelling group suffixes refl (hash_proper query (record_items data_parts) is_name group names) are fits
