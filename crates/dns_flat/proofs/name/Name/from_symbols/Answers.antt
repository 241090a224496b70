use Rattle.std.specs.List.{flat_map}
use Rattle.dns_label.specs.Symbol.{spelled}
use Rattle.dns_wire.specs.Text.{SpellName}
use Rattle.dns_wire.specs.Draft.{IsReadBy}
use Rattle.dns_flat.proofs.Refusals.{drained_refused, read_refused, symbols_refused}
use Rattle.dns_flat.proofs.name.Name.from_symbols.Goals as goal

pub returns-clause-err : goal.returns-clause-err
returns-clause-err g c =
    let read = c.in_ok-read.ensures.ok in
    drained_refused g.S.Iterator.next_gives SpellName c.args.symbols read.0 c.of_read.result (_, read.1)
    (symbols_refused read.0 c.of_read.result read.2
    (read_refused (λ text. IsReadBy text c.in_ok-read.field-0) (flat_map spelled read.0) c.of_read.result read.3 c.of_read.ensures.err))
