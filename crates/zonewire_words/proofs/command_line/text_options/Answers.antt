use Rattle.std.proofs.Common.{◌∙◌, sym, ap, subst, [], ◌∷◌, codes}
use Rattle.std.specs.Prelude.{Err, IfErr}
use Rattle.std.proofs.lemmas.Result.{err_from_is_err_and}
use Rattle.clap.specs.Words.{found_of, rows_of}
use Rattle.zonewire_words.specs.Words.{IsFaultOf}
use Rattle.zonewire_words.proofs.Texts.{first_fault}
use Rattle.zonewire_words.proofs.command_line.text_options.Goals as goal

pub returns-in_err-origin-clause-err : goal.returns-in_err-origin-clause-err
returns-in_err-origin-clause-err c =
    let rows = rows_of (found_of c.args.options.now) in
    let (fault, is, of) = err_from_is_err_and c.from_residual.result c.from_residual.ensures.1 in
    subst (λ r. IfErr r (IsFaultOf (codes "origin" ∷ []) rows)) (sym (is ∙ ap Err of))
    (first_fault (codes "origin") [] rows c.in_err-origin.field-0.0 c.in_err-origin.ensures.err)

pub returns-in_default-clause-err : goal.returns-in_default-clause-err
returns-in_default-clause-err c = (((_, c.in_ok-origin.ensures.ok), tt), sym c.class.ensures ∙ c.in_default.is)

pub returns-clause-ok : goal.returns-clause-ok
returns-clause-ok c = (c.in_ok-origin.ensures.ok, sym c.class.ensures ∙ c.in-Some.is)
