use Rattle.std.proofs.Common.{arith}
use Rattle.dns_entry_scanner.proofs.RoomBehind.{has_root}
use Rattle.dns_entry_scanner.proofs.appended_name.append_root.Goals as goal

pub returns-clause-ok : goal.returns-clause-ok
returns-clause-ok c = has_root c.args.octets.now.items _ _ _ c.args.room (omega arith) (omega arith) c.in_ok-resize.ensures.items
