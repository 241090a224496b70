use Rattle.std.proofs.Common.{[], ◌∷◌, ◌++◌}
use Rattle.dns_text.specs.Document.Piece.{Newline}
use Rattle.dns_rdata_more.specs.Shown.{further_document}
use Rattle.dns_rdata_more.proofs.ShownBack.{data_alone, data_back, data_written, document_row}
use Rattle.dns_rdata_more.proofs.laws.printed_further_data_scans_back.Goals as goal

pub returns-clause-written : goal.returns-clause-written
returns-clause-written g c = λ rtype given are small. data_written are (c.printed_further_row_scans_back.ensures.written rtype) small

pub returns-clause-splits : goal.returns-clause-splits
returns-clause-splits g c = λ layout rtype given tokens writes.
    c.printed_documents_split.ensures layout (further_document rtype given ++ Newline ∷ []) (tokens ∷ []) (document_row rtype given tokens writes)

pub returns-clause-scans : goal.returns-clause-scans
returns-clause-scans g c = λ rtype given tokens are some small printed writes.
    data_back are (c.printed_further_row_scans_back.ensures.written rtype) small _
    (λ row others is rests each shows. c.printed_further_row_scans_back.ensures.scans rtype row others is rests each printed shows) some tokens writes

pub returns-clause-alone : goal.returns-clause-alone
returns-clause-alone g c = λ rtype given other tokens left are some small printed one writes scans are_other.
    data_alone are (c.printed_further_row_scans_back.ensures.written rtype) small _
    (λ row others first behind is rests each shows scans' small'.
    c.printed_further_row_scans_back.ensures.alone rtype row others first behind is rests each printed one shows scans' small') some other tokens left writes scans are_other
