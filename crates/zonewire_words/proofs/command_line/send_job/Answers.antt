use Rattle.std.proofs.Common.{◌∙◌, refl, sym, ap, subst, [], ◌∷◌, codes}
use Rattle.std.specs.Prelude.{Err, MatchResult}
use Rattle.std.proofs.lemmas.Result.{err_from_is_err_and}
use Rattle.clap.specs.Words.{found_of, rows_of}
use Rattle.zonewire_words.specs.Words.{IsJobOf, IsValueFault}
use Rattle.zonewire_words.proofs.Texts.{first_fault, second_fault}
use Rattle.zonewire_words.proofs.command_line.send_job.Goals as goal

pub returns-in_err-origin : goal.returns-in_err-origin
returns-in_err-origin c =
    let rows = rows_of (found_of c.args.options.now) in
    let (fault, is, of) = err_from_is_err_and c.from_residual.result c.from_residual.ensures.1 in
    subst (λ r. MatchResult r (IsJobOf (codes "send", rows)) (IsValueFault (codes "send", rows))) (sym (is ∙ ap Err of))
    (first_fault (codes "origin") (codes "apex" ∷ []) rows c.in_err-origin.field-0.0 c.in_err-origin.ensures.err)

pub returns-in_err-apex : goal.returns-in_err-apex
returns-in_err-apex c =
    let rows = rows_of (found_of c.args.options.now) in
    let (fault, is, of) = err_from_is_err_and c.from_residual-in_err-apex.result c.from_residual-in_err-apex.ensures.1 in
    subst (λ r. MatchResult r (IsJobOf (codes "send", rows)) (IsValueFault (codes "send", rows))) (sym (is ∙ ap Err of))
    (second_fault (codes "origin") (codes "apex") [] rows c.in_err-apex.field-0.0 c.in_err-apex.ensures.err)

pub returns-in_default : goal.returns-in_default
returns-in_default c =
    (((_, c.in_ok-origin.ensures.ok), ((_, c.in_ok-apex.ensures.ok), tt)), sym c.class.ensures ∙ c.in_default.is)

pub returns : goal.returns
returns c = (
  refl,
  c.in_ok-origin.ensures.ok,
  sym c.class.ensures ∙ c.in-Some.is,
  c.number_or.ensures,
  c.in_ok-apex.ensures.ok,
  c.number_or-2.ensures,
  c.spelling.ensures,
)
