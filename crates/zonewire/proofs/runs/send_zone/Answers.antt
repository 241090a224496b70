use Rattle.std.proofs.Common.{◌∙◌}
use Rattle.zonewire.proofs.Outputs.{send-fault}
use Rattle.zonewire.proofs.runs.send_zone.Goals as goal

pub returns-clause-err : goal.returns-clause-err
returns-clause-err c origin class input text same =
    rw c.from.ensures (send-fault _ origin _ _ _ _ _ _ _ _ _ (c.as_slice.ensures.value ∙ c.in_ok-query.ensures) text same c.in-Err.ensures.err)
