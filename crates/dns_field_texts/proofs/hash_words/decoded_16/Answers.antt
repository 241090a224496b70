use Rattle.dns_scan.specs.declared.encoding.base.Base.TheVariants.{Sixteen}
use Rattle.dns_field_texts.proofs.HashWords.{none_decodes}
use Rattle.dns_field_texts.proofs.hash_words.decoded_16.Goals as goal

pub returns-in-Err-clause-err : goal.returns-in-Err-clause-err
returns-in-Err-clause-err c = λ invalid.
    none_decodes Sixteen c.args.text.now c.in-Some.text.now c.in-Err.error c.in-Some.ensures.some.1 c.in-Err.ensures.err (c.word_error.ensures invalid)
