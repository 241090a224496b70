use Rattle.std.proofs.Common.{[], ◌∷◌, ◌++◌}
use Rattle.dns_text.specs.Document.Piece.{Newline}
use Rattle.dns_rdata.specs.Data.{document_of, number_of}
use Rattle.dns_rdata.proofs.PrintedData.{data_written, data_row, any_back, any_one}
use Rattle.dns_rdata.proofs.laws.printed_data_of_any_type_scans_back.Goals as goal

pub returns-clause-written : goal.returns-clause-written
returns-clause-written g c = data_written c.printed_data_scans_back.ensures.written

pub returns-clause-splits : goal.returns-clause-splits
returns-clause-splits g c = λ layout rdata tokens writes.
    c.printed_documents_split.ensures layout (document_of rdata ++ Newline ∷ []) (tokens ∷ []) (data_row rdata tokens writes)

pub returns-clause-scans : goal.returns-clause-scans
returns-clause-scans g c = λ rdata tokens is printed writes. any_back _ c.printed_data_scans_back.ensures.scans printed rdata tokens is writes

pub returns-clause-alone : goal.returns-clause-alone
returns-clause-alone g c = λ rdata other tokens left is printed one writes scans.
    any_one _ c.tokens_scan_as_one_row.ensures (number_of rdata) other rdata tokens left [] one scans
    (any_back _ c.printed_data_scans_back.ensures.scans printed rdata tokens is writes)
