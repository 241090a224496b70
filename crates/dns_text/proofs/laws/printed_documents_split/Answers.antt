use Rattle.dns_text.proofs.DocumentSplits.{document_splits}
use Rattle.dns_text.proofs.OneRow.{one_text}
use Rattle.dns_text.proofs.laws.printed_documents_split.Goals as goal

pub returns : goal.returns
returns c = λ layout document rows has.
    let splits = document_splits layout document rows has in record { is = splits; only = one_text splits }
