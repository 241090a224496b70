use Rattle.std.proofs.Common.{[]}
use Rattle.dns_fields.proofs.PrintedRows.{data_back}
use Rattle.dns_fields.proofs.PrintedTokens.{row_has_tokens}
use Rattle.dns_fields.proofs.ScannedOnce.{data_scanned_once}
use Rattle.dns_fields.proofs.laws.printed_data_scans_back.Goals as goal

pub returns-clause-written : goal.returns-clause-written
returns-clause-written g c = λ rtype row is small some. row_has_tokens row is.each some small

pub returns-clause-scans : goal.returns-clause-scans
returns-clause-scans g c = data_back c.texts_read_back.ensures.quoted c.texts_read_back.ensures.unquoted _

pub returns-clause-alone : goal.returns-clause-alone
returns-clause-alone g c = λ rtype row other tokens left is small printed one writes scans.
    data_scanned_once _ rtype other row tokens left [] one scans
    (data_back c.texts_read_back.ensures.quoted c.texts_read_back.ensures.unquoted _ rtype row tokens is small printed writes)
