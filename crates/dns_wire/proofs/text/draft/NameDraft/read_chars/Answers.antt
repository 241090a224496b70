use Rattle.std.specs.List.{flat_map}
use Rattle.dns_label.specs.Symbol.{spelled}
use Rattle.dns_label.proofs.SymbolRuns.{symbols_drain, symbols_stop}
use Rattle.dns_wire.proofs.Flat.{always_on_err}
use Rattle.dns_wire.proofs.CharTexts.{chars_none, chars_stop, ended_well, ended_badly}
use Rattle.dns_wire.proofs.text.draft.NameDraft.read_chars.Goals as goal

pub returns-in_err-read-clause-err : goal.returns-in_err-read-clause-err
returns-in_err-read-clause-err g c =
    always_on_err c.from_residual.result
    (chars_none g.C.Iterator.next_gives c.new-symbols.result c.args.chars c.new-symbols.ensures c.in_err-read.ensures.err)

pub returns-in_err-ok-clause-err : goal.returns-in_err-ok-clause-err
returns-in_err-ok-clause-err g c =
    let read = c.in_ok-read.ensures.ok in
    let stopped = ended_badly g.C.Iterator.next_gives _ c.ok.result c.in_err-ok.field-0.0 c.ok.ensures c.in_err-ok.was in
    always_on_err c.from_residual-in_err-ok.result
    (chars_stop g.C.Iterator.next_gives c.args.chars read.0
    (symbols_stop g.C.Iterator.next_gives read.0 c.new-symbols.result c.read.new.symbols c.args.chars c.in_err-ok.field-0.0 c.new-symbols.ensures stopped read.1))

pub returns-clause-ok : goal.returns-clause-ok
returns-clause-ok g c =
    let read = c.in_ok-read.ensures.ok in
    let ended = ended_well g.C.Iterator.next_gives _ c.ok.result c.ok.ensures c.in_ok-ok.was in (
      flat_map spelled read.0,
      symbols_drain g.C.Iterator.next_gives read.0 c.new-symbols.result c.read.new.symbols c.args.chars ended.0 c.new-symbols.ensures ended.1 read.1,
      read.3,
    )
