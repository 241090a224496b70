use Rattle.std.proofs.lemmas.Result.{err_from_is_err_and}
use Rattle.dns_label.proofs.Taken.{rules_weaker}
use Rattle.dns_wire.specs.Draft.{IsReadBy}
use Rattle.dns_flat.proofs.RelativeRefusals.{either_readable, drained_relative}
use Rattle.dns_flat.proofs.relative.RelativeName.from_chars.Goals as goal

pub returns-in_err-read_chars-clause-err : goal.returns-in_err-read_chars-clause-err
returns-in_err-read_chars-clause-err g c =
    let p = err_from_is_err_and c.from_residual.result c.from_residual.ensures.1 in
    rw (p.1, p.2) (rules_weaker c.args.chars either_readable c.in_err-read_chars.ensures.err)

pub returns-clause-err : goal.returns-clause-err
returns-clause-err g c =
    let read = c.in_ok-read_chars.ensures.ok in
    drained_relative g.C.Iterator.next_gives (λ text. IsReadBy text c.in_ok-read_chars.field-0) c.args.chars read.0 c.of_read.result read.1
    read.2 c.of_read.ensures.err
