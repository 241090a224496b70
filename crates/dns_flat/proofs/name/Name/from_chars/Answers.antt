use Rattle.dns_label.specs.NameText.{IsNameText}
use Rattle.dns_wire.specs.Draft.{IsReadBy}
use Rattle.dns_flat.proofs.Refusals.{drained_refused, read_refused}
use Rattle.dns_flat.proofs.name.Name.from_chars.Goals as goal

pub returns-clause-err : goal.returns-clause-err
returns-clause-err g c =
    let read = c.in_ok-read_chars.ensures.ok in
    drained_refused g.C.Iterator.next_gives IsNameText c.args.chars read.0 c.of_read.result read.1
    (read_refused (λ text. IsReadBy text c.in_ok-read_chars.field-0) read.0 c.of_read.result read.2 c.of_read.ensures.err)
