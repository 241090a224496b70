use Rattle.std.proofs.Common.{length}
use Rattle.dns_compress.proofs.static_table.StaticTable.+push_all.Given as goal

abbrev pub decreases-push_all : goal.decreases-push_all
decreases-push_all l = length l.name.now
