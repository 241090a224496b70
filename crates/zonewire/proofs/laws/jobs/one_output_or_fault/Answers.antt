use Rattle.zonewire.proofs.OneOutput.{one_job_fault, one_output, output_no_fault}
use Rattle.zonewire.proofs.laws.jobs.one_output_or_fault.Goals as goal

pub returns-clause-one_output : goal.returns-clause-one_output
returns-clause-one_output c = one_output

pub returns-clause-not_both : goal.returns-clause-not_both
returns-clause-not_both c = output_no_fault

pub returns-clause-one_fault : goal.returns-clause-one_fault
returns-clause-one_fault c = one_job_fault
