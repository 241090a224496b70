use Rattle.std.proofs.Common.{sym, subst}
use Rattle.dns_field_texts.specs.HashWords.{IsCountable}
use Rattle.dns_field_texts.proofs.HashWords.{no_salt, no_counted_salt, false_true}
use Rattle.dns_field_texts.proofs.hash_words.append_salt.Goals as goal

pub returns-in-Err-clause-err : goal.returns-in-Err-clause-err
returns-in-Err-clause-err c = λ invalid salt word.
    no_salt c.args.text.now salt (λ minus. false_true (c.if-is_minus.ensures.1 minus)) (c.in-Err.ensures.err invalid) word

pub returns-then-not-is_countable-clause-err : goal.returns-then-not-is_countable-clause-err
returns-then-not-is_countable-clause-err c = λ invalid salt word.
    no_counted_salt c.args.text.now c.in-Ok.salt.items salt (λ minus. false_true (c.if-is_minus.ensures.1 minus)) c.in-Ok.ensures.ok
    (λ countable. c.if-not-is_countable.ensures.none false_true (subst IsCountable (sym c.as_slice.ensures.value) countable)) word
