use Rattle.std.proofs.Common.{◌≡◌, ◌∙◌, ◌++◌, ◌+◌, ℕ, List, true, arith, subst, sym}
use Rattle.std.proofs.lemmas.Grind.{common_steps}
use Rattle.dns_entry_scanner.specs.RowFound.{IsFoundAt}
use Rattle.dns_text.specs.Tokens.{is_end}
use Rattle.zone_forms.proofs.PiecesTaken.{rewritten_end, rewritten_fails}
use Rattle.zone_forms.specs.declared.error.FormError.TheVariants.{Line}
use Rattle.zone_forms.proofs.rewriter.Rewriter.finish.Goals as goal

pub returns-in-End-clause-ok : goal.returns-in-End-clause-ok
returns-in-End-clause-ok c =
    let there : is_end c.deref.result.now ≡ true = rw c.in-End.is at c.in_ok-read_row.ensures in
    let ends = subst (λ (l : List ℕ). is_end l ≡ true) c.deref.ensures.value there in
    let all : c.extend_from_slice.new.self.items ≡ c.args.out.now.items ++ c.args.self.pending.items = grind (arith, common_steps) in
    (c.args.self.pending.items, all, rewritten_end ends)

pub returns-clause-err : goal.returns-clause-err
returns-clause-err c = λ line same.
    let number : c.saturating_add.result ≡ line = (let both : Line c.saturating_add.result ≡ Line line = same in cc) in
    let found = subst (λ (l : List ℕ). IsFoundAt l 0 c.read_row.new.tokens.items c.in_ok-read_row.field-0) c.deref.ensures.value c.in_ok-read_row.ensures in
    rewritten_fails c.read_row.new.tokens.items c.in_ok-read_row.field-0 found c.in_default-2.not-End
    (λ small.
    let counted : c.saturating_add.result ≡ c.args.self.feeds + 1 = omega (arith, small) in sym number ∙ counted)
