use Rattle.zonewire.proofs.programs.program.Goals as goal

pub returns-in-Ok-run-clause-done : goal.returns-in-Ok-run-clause-done
returns-in-Ok-run-clause-done g c = (c.in-Ok.job, c.in-Ok.ensures, c.in-Ok-run.ensures.written)

pub returns-in-Err-run-clause-faults : goal.returns-in-Err-run-clause-faults
returns-in-Err-run-clause-faults g c = (c.in-Ok.job, c.in-Ok.ensures, c.in-Err-run.ensures.faults)

pub returns-in-Err-run-clause-part : goal.returns-in-Err-run-clause-part
returns-in-Err-run-clause-part g c = (c.in-Ok.job, c.in-Ok.ensures, c.in-Err-run.ensures.part)
