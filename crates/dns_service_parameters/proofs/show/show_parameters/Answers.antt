use Rattle.dns_service_parameters.proofs.ServicePrinted.{shown_all, shown_more, shown_none}
use Rattle.dns_service_parameters.proofs.show.show_parameters.Goals as goal

pub loop-key-init : goal.loop-key-init
loop-key-init g c = λ parameters are written. shown_none g.F.Formatter.writes c.args.formatter.now parameters are.each written

pub loop-key-preserved : goal.loop-key-preserved
loop-key-preserved g c = λ parameters are written.
    shown_more g.F.Formatter.writes c.args.formatter.now (c.loop-key.invariant parameters are written) c.in-Some.ensures.some c.in_ok-write_token.ensures

pub returns : goal.returns
returns g c = λ parameters are written.
    shown_all g.F.Formatter.writes c.args.formatter.now (c.loop-key.invariant parameters are written) c.in_default.ensures.none
