use Rattle.std.proofs.Common.{◌∙◌, refl, sym, ap, subst, [], Some, codes}
use Rattle.std.specs.Prelude.{Err, MatchResult}
use Rattle.std.proofs.lemmas.Result.{err_from_is_err_and}
use Rattle.clap.specs.Words.{found_of, rows_of}
use Rattle.zonewire_words.specs.Words.{IsJobOf, IsValueFault}
use Rattle.zonewire_words.proofs.Texts.{first_fault, name_fault, text_read, text_there}
use Rattle.zonewire_words.proofs.command_line.receive_job.Goals as goal

pub unreachable-requires : goal.unreachable-requires
unreachable-requires c =
    let f = found_of c.args.options.now in
    text_there (codes "apex") (rows_of f) (text_read f (codes "apex") c.get_str.result _ c.get_str.ensures c.in_default.is) c.requires.apex

pub returns-in_err-apex : goal.returns-in_err-apex
returns-in_err-apex c =
    let f = found_of c.args.options.now in
    let (fault, is, of) = err_from_is_err_and c.from_residual.result c.from_residual.ensures.1 in
    let has = text_read f (codes "apex") c.get_str.result _ c.get_str.ensures c.in-Some.is in
    subst (λ r. MatchResult r (IsJobOf (codes "receive", rows_of f)) (IsValueFault (codes "receive", rows_of f))) (sym (is ∙ ap Err of))
    (first_fault (codes "apex") [] (rows_of f) _
    (name_fault (codes "apex") (rows_of f) c.in-Some.apex.now c.in_err-apex.field-0.0 has c.in_err-apex.ensures.err))

pub returns-in_default-class : goal.returns-in_default-class
returns-in_default-class c =
    let f = found_of c.args.options.now in
    let has = text_read f (codes "apex") c.get_str.result _ c.get_str.ensures c.in-Some.is in
    (((Some c.in_ok-apex.apex, (_, has, c.in_ok-apex.ensures.ok)), tt), sym c.class.ensures ∙ c.in_default-class.is)

pub returns : goal.returns
returns c =
    let f = found_of c.args.options.now in
    let has = text_read f (codes "apex") c.get_str.result _ c.get_str.ensures c.in-Some.is in
    (refl, sym c.class.ensures ∙ c.in-Some-class.is, c.number_or-id.ensures, (_, has, c.in_ok-apex.ensures.ok), c.layout-layout.ensures)
