use Rattle.std.proofs.Common.{◌-◌, ◌∙◌, ap, arith, length, take, drop}
use Rattle.std.proofs.lemmas.List.{length-drop, take_all}
use Rattle.dns_entry_scanner.proofs.WrittenEnds.{over_ends}
use Rattle.dns_entry_scanner.proofs.short_copy.write_ends.Goals as goal

pub returns : goal.returns
returns g c =
    let over = c.args.over.now in
    over_ends c.args.octets.now.items over _ _ _ c.args.place g.row.N (length over - g.row.N) c.patch.ensures.octets c.patch-2.ensures.octets
    (take_all _ _ (omega (arith, length-drop (length over - g.row.N) over))) (omega arith) (omega arith) (omega arith)
