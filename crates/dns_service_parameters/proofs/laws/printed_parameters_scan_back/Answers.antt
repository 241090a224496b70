use Rattle.dns_service_parameters.proofs.ServicePrintedBack.{parameters_written, parameters_back}
use Rattle.dns_service_parameters.proofs.laws.printed_parameters_scan_back.Goals as goal

pub returns : goal.returns
returns c = record { written = parameters_written; scans = parameters_back c.texts_read_back.ensures.unquoted }
