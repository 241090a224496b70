use Rattle.std.proofs.Common.{◌+◌, arith, length}
use Rattle.dns_entry_scanner.proofs.RoomBehind.{has_longer, has_zeros}
use Rattle.dns_entry_scanner.proofs.WrittenEnds.{has_cut}
use Rattle.dns_entry_scanner.proofs.short_copy.append_longer.Goals as goal

pub returns-then-from-ge-CHUNK_LEN-clause-ok : goal.returns-then-from-ge-CHUNK_LEN-clause-ok
returns-then-from-ge-CHUNK_LEN-clause-ok c =
    has_cut c.args.octets.now.items c.args.text.now c.args.from.now _ _ 64 _ (length c.args.text.now + c.args.room) c.args.room c.requires.begins
    c.in_ok-extend_from_slice.ensures.items c.truncate.ensures.items (omega arith) (omega arith) (omega arith) (omega arith)

pub returns-then-whole-from-clause-ok : goal.returns-then-whole-from-clause-ok
returns-then-whole-from-clause-ok c =
    has_longer c.args.octets.now.items c.args.text.now c.args.from.now _ _ c.args.room c.requires.begins (omega arith) (omega arith)
    c.in_ok-extend_from_slice-2.ensures.items

pub returns-clause-ok : goal.returns-clause-ok
returns-clause-ok c =
    has_zeros _ _ _ _ _ c.args.room c.in_ok-extend_from_slice-3.ensures.items (omega arith) (omega arith) c.in_ok-resize.ensures.items
