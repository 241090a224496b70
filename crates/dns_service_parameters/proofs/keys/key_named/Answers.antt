use Rattle.std.proofs.Common.{arith}
use Rattle.dns_service_parameters.proofs.ServiceShown.{name_low}
use Rattle.dns_service_parameters.proofs.keys.key_named.Goals as goal

pub returns-clause-none : goal.returns-clause-none
returns-clause-none c = λ key is.
    let low = name_low key c.args.word.now is in c.loop-key.invariant key (omega arith) is
