use Rattle.std.proofs.Common.{◌∙◌, ap, sym}
use Rattle.std.specs.List.{list_all}
use Rattle.dns_label.specs.Symbol.{is_plain}
use Rattle.dns_entry_scanner.proofs.Words.{word_by, quoted_apart, other_apart}
use Rattle.dns_entry_scanner.proofs.row_token.RowToken.word.Goals as goal
use Rattle.dns_entry_scanner.proofs.row_token.RowToken.word.Goals.{then-self-via-then-self, then-self-via-else-self+then-not-is_plain}

pub returns-then-self-clause-none : goal.returns-then-self-clause-none
returns-then-self-clause-none c = λ text is.
    elim c.then-self.branch [
      | then-self-via-then-self w ↦ quoted_apart c.args.self.quoted c.args.self.text.now text w.if-self.true is
      | then-self-via-else-self+then-not-is_plain w ↦
          other_apart c.args.self.quoted c.args.self.text.now text (sym w.is_plain.ensures ∙ w.if-not-is_plain.true) is
    ]

pub returns-clause-some : goal.returns-clause-some
returns-clause-some c =
    word_by c.args.self.quoted c.args.self.text.now c.plain_word.result.now c.if-self.false c.plain_word.ensures
    (ap (list_all is_plain) c.plain_word.ensures ∙ sym c.is_plain.ensures ∙ c.if-not-is_plain.false)
