use Rattle.std.proofs.Common.{◌∙◌, refl, sym, ap, subst, codes}
use Rattle.std.specs.Prelude.{Err, MatchResult}
use Rattle.std.proofs.lemmas.Result.{err_from_is_err_and}
use Rattle.clap.specs.Words.{found_of, rows_of}
use Rattle.zonewire_words.specs.Words.{IsJobOf, IsValueFault}
use Rattle.zonewire_words.proofs.command_line.canon_job.Goals as goal

pub returns-in_err-origin : goal.returns-in_err-origin
returns-in_err-origin c =
    let rows = rows_of (found_of c.args.options.now) in
    let (fault, is, of) = err_from_is_err_and c.from_residual.result c.from_residual.ensures.1 in
    subst (λ r. MatchResult r (IsJobOf (codes "canon", rows)) (IsValueFault (codes "canon", rows))) (sym (is ∙ ap Err of))
    c.in_err-origin.ensures.err

pub returns : goal.returns
returns c = (refl, c.in_ok-origin.ensures.ok.0, c.in_ok-origin.ensures.ok.1)
