use Rattle.std.proofs.Common.{◌-◌, ◌∙◌, ℕ, List, length, take, drop, ap, arith, length-append}
use Rattle.std.proofs.lemmas.List.{length-take-le}
use Rattle.dns_name.specs.Remembered.{patched}
use Rattle.dns_entry_scanner.proofs.RoomBehind.{longer_text}
use Rattle.dns_entry_scanner.proofs.relative_name.write_run.Goals as goal

pub returns-then-from-ge-LANES : goal.returns-then-from-ge-LANES
returns-then-from-ge-LANES c =
    let run = c.args.run.now in
    let from = c.args.from.now in
    let parts = longer_text run from 16 c.requires.begins (omega arith) in
    let more : List ℕ = take (16 - length run) (drop (length run) from) in (
      more,
      omega (arith, c.requires.lanes, ap (length {A = ℕ}) parts, length-append run more, length-take-le 16 from (omega arith)),
      c.patch.ensures.octets ∙ ap (patched c.args.octets.now.items c.args.place) parts,
    )
