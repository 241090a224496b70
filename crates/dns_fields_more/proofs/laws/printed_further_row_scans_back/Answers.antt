use Rattle.std.proofs.Common.{map}
use Rattle.dns_scan.specs.Token.{unquoted}
use Rattle.dns_service_parameters.specs.ServiceText.{parameter_text}
use Rattle.dns_fields_more.proofs.PrintedFurther.{row_alone, row_back, row_has_texts}
use Rattle.dns_fields_more.proofs.laws.printed_further_row_scans_back.Goals as goal

pub returns-clause-written : goal.returns-clause-written
returns-clause-written g c = λ rtype row is are.
    row_has_texts
    (λ parameters those small. (map unquoted (map parameter_text parameters), c.printed_parameters_scan_back.ensures.written parameters those small))
    rtype row is are

pub returns-clause-scans : goal.returns-clause-scans
returns-clause-scans g c = λ rtype row tokens is some are printed shows.
    row_back _ c.texts_read_back.ensures.quoted c.texts_read_back.ensures.unquoted c.printed_parameters_scan_back.ensures.scans printed rtype row tokens
    is some are shows

pub returns-clause-alone : goal.returns-clause-alone
returns-clause-alone g c = λ rtype row other tokens left is some are printed once shows scans are_other.
    row_alone scans
    (row_back _ c.texts_read_back.ensures.quoted c.texts_read_back.ensures.unquoted c.printed_parameters_scan_back.ensures.scans printed rtype row tokens
    is some are shows)
    once are are_other
