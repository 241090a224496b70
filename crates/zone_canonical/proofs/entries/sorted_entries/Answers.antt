use Rattle.std.specs.Ordering.{eq_by_cmp}
use Rattle.std.proofs.lemmas.List.Filters.{dedup_is}
use Rattle.zone_canonical.specs.Keyed.{keyed_cmp}
use Rattle.zone_canonical.proofs.SortedKeys.{sorted_keyed}
use Rattle.zone_canonical.proofs.entries.sorted_entries.Goals as goal

pub returns : goal.returns
returns c =
    sorted_keyed c.args.apex.now c.args.records.now c.in_ok-entries.entries.items c.sort.new.entries.items c.dedup.new.self.items
    c.requires c.in_ok-entries.ensures c.sort.ensures.permutation c.sort.ensures.sorted
    (dedup_is (eq_by_cmp keyed_cmp) c.sort.new.entries.items c.dedup.new.self.items c.dedup.ensures.filtered)
