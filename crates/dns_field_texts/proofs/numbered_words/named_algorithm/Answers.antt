use Rattle.std.proofs.Common.{sym, ap, ◌∙◌}
use Rattle.dns_values.specs.Mnemonic.{number_named}
use Rattle.dns_field_texts.proofs.NumberedWords.{algorithm_narrowed}
use Rattle.dns_field_texts.proofs.numbered_words.named_algorithm.Goals as goal

pub returns : goal.returns
returns c =
    let named = sym (c.number_named.ensures ∙ ap (λ table. number_named table c.args.word.now) c.algorithms.ensures) ∙ c.in_ok-number.was in
    c.ok.ensures.value ∙ algorithm_narrowed c.args.word.now c.in_ok-number.number c.try_from.result named c.try_from.ensures
