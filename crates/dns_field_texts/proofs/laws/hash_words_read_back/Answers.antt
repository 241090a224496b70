use Rattle.dns_field_texts.proofs.HashWords.{salt_reads_back, hash_reads_back}
use Rattle.dns_field_texts.proofs.laws.hash_words_read_back.Goals as goal

pub returns : goal.returns
returns c = record { salt = salt_reads_back; hash = hash_reads_back }
