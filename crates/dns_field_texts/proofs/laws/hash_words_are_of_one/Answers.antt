use Rattle.dns_field_texts.proofs.HashWords.{salt_one, hash_one}
use Rattle.dns_field_texts.proofs.laws.hash_words_are_of_one.Goals as goal

pub returns : goal.returns
returns c = record { salt = salt_one; hash = hash_one }
