use Rattle.std.proofs.Common.{◌∙◌, sym, ap, subst}
use Rattle.std.specs.Prelude.{Err, IfErr}
use Rattle.std.proofs.lemmas.Result.{err_from_is_err_and}
use Rattle.clap.specs.Words.{found_of, rows_of}
use Rattle.zonewire_words.specs.Words.{IsNameFault}
use Rattle.zonewire_words.proofs.Texts.{name_fault, text_read}
use Rattle.zonewire_words.proofs.command_line.name_or_none.Goals as goal

pub returns-in_err-name-clause-err : goal.returns-in_err-name-clause-err
returns-in_err-name-clause-err c =
    let f = found_of c.args.options.now in
    let option = c.args.option.now in
    let (fault, is, of) = err_from_is_err_and c.from_residual.result c.from_residual.ensures.1 in
    let has = text_read f option c.get_str.result _ c.get_str.ensures c.in-Some.is in
    subst (λ r. IfErr r (IsNameFault option (rows_of f))) (sym (is ∙ ap Err of))
    (name_fault option (rows_of f) c.in-Some.text.now c.in_err-name.field-0.0 has c.in_err-name.ensures.err)

pub returns-clause-ok : goal.returns-clause-ok
returns-clause-ok c =
    let has = text_read (found_of c.args.options.now) c.args.option.now c.get_str.result _ c.get_str.ensures c.in-Some.is in
    (_, has, c.in_ok-name.ensures.ok)

pub returns-in_default-clause-ok : goal.returns-in_default-clause-ok
returns-in_default-clause-ok c = text_read (found_of c.args.options.now) c.args.option.now c.get_str.result _ c.get_str.ensures c.in_default.is
