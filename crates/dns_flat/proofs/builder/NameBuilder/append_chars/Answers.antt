use Rattle.std.proofs.Common.{◌∷◌, [], ◌++◌}
use Rattle.std.proofs.lemmas.Result.{err_from_is_err_and}
use Rattle.dns_flat.specs.BuiltText.StopsPutting.{at_symbol, at_characters}
use Rattle.dns_label.proofs.SymbolRuns.{symbols_yield, symbols_drain, symbols_stop}
use Rattle.dns_wire.proofs.CharTexts.{ended_well, ended_badly}
use Rattle.dns_flat.proofs.builder.NameBuilder.append_chars.Goals as goal

pub returns-in_err-append_all-clause-err : goal.returns-in_err-append_all-clause-err
returns-in_err-append_all-clause-err g c =
    let stopped = c.in_err-append_all.ensures.err in
    let p = err_from_is_err_and c.from_residual.result c.from_residual.ensures.1 in
    let behind = symbols_yield g.C.Iterator.next_gives (stopped.0 ++ stopped.1 ∷ []) c.new-symbols.result c.append_all.new.symbols c.args.chars c.new-symbols.ensures stopped.2 in
    rw (p.1, p.2) (at_symbol stopped.0 stopped.1 behind.here behind.gave stopped.3 stopped.4)

pub returns-in-Ok-clause-ok : goal.returns-in-Ok-clause-ok
returns-in-Ok-clause-ok g c =
    let put = c.in_ok-append_all.ensures.ok in
    let ended = ended_well g.C.Iterator.next_gives _ c.ok.result c.ok.ensures c.in-Ok.is in (
      put.0,
      symbols_drain g.C.Iterator.next_gives put.0 c.new-symbols.result c.append_all.new.symbols c.args.chars ended.0 c.new-symbols.ensures ended.1 put.1,
      put.2,
    )

pub returns-in-Err-clause-err : goal.returns-in-Err-clause-err
returns-in-Err-clause-err g c =
    let put = c.in_ok-append_all.ensures.ok in
    let stopped = ended_badly g.C.Iterator.next_gives _ c.ok.result c.in-Err.field-0 c.ok.ensures c.in-Err.is in
    let stops = symbols_stop g.C.Iterator.next_gives put.0 c.new-symbols.result c.append_all.new.symbols c.args.chars c.in-Err.field-0 c.new-symbols.ensures stopped put.1 in
    at_characters put.0 stops.here stops.gave stops.out put.2
