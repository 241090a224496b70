use Rattle.std.proofs.Common.{sym, subst}
use Rattle.dns_field_texts.specs.HashWords.{IsCountable}
use Rattle.dns_field_texts.proofs.HashWords.{no_counted_hash, false_true}
use Rattle.dns_field_texts.proofs.hash_words.append_hash.Goals as goal

pub returns-in-Err-clause-err : goal.returns-in-Err-clause-err
returns-in-Err-clause-err c = λ invalid hash word. c.in-Err.ensures.err invalid hash word.decodes

pub returns-then-not-is_countable-clause-err : goal.returns-then-not-is_countable-clause-err
returns-then-not-is_countable-clause-err c = λ invalid hash word.
    no_counted_hash c.args.text.now c.in-Ok.hash.items hash c.in-Ok.ensures.ok
    (λ countable. c.if-not-is_countable.ensures.none false_true (subst IsCountable (sym c.as_slice.ensures.value) countable)) word
