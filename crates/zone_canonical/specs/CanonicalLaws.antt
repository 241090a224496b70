-- The canonical order of records is a total one.
use Rattle.std.specs.Cmp.{IsTotalOrder, on_total, nat_cmp_total}
use Rattle.std.specs.Cmp.Lexicographic.{nat_list_cmp_total}
use Rattle.std.proofs.lemmas.Cmp.{then_total}
use Rattle.dns_flat.specs.OrderLaws.{labels_total}
use Rattle.zone_records.specs.Record.{Record}
use Rattle.zone_canonical.specs.Canonical.{canonical_cmp}

pub canonical_total : IsTotalOrder canonical_cmp
unfolding canonical_cmp
canonical_total =
    then_total (on_total (λ (r : Record). r.owner) labels_total)
    (then_total (on_total (λ (r : Record). r.rtype) nat_cmp_total)
    (then_total (on_total (λ (r : Record). r.rdata) nat_list_cmp_total)
    (then_total (on_total (λ (r : Record). r.ttl) nat_cmp_total) (on_total (λ (r : Record). r.class) nat_cmp_total))))
