use Rattle.std.proofs.Common.{◌++◌, List, ℕ, ap, arith, length, length-append, append_assoc, subst}
use Rattle.dns_entry_scanner.specs.AppendedName.{HasBehind}
use Rattle.dns_entry_scanner.proofs.RoomBehind.{has_over}
use Rattle.dns_entry_scanner.proofs.appended_name.append_parts.Goals as goal

pub returns-clause-ok : goal.returns-clause-ok
returns-clause-ok c =
    let old : List ℕ = c.args.octets.now.items in
    let front : List ℕ = old ++ c.args.front.now in
    let has = c.in_ok-append_longer.ensures.ok in
    let long = has.long in
    let size = ap (length {A = ℕ}) has.is in
    subst (λ (l : List ℕ). HasBehind c.args.room l c.write_over.new.octets.items) (append_assoc old c.args.front.now c.args.behind.now)
    (has_over front c.args.behind.now _ _ _ c.args.room _ has (omega arith)
    (omega (arith, size, long, length-append front has.others)) c.write_over.ensures)
