use Rattle.std.proofs.Common.{◌≡◌, List, ℕ, [], refl, ◌∙◌, ap, subst, inr}
use Rattle.std.specs.Prelude.{Option, Err}
use Rattle.std.proofs.lemmas.Result.{err_from_is_err_and}
use Rattle.dns_label.specs.NameText.IsAbsoluteText.{root}
use Rattle.dns_label.specs.NameText.IsNameText.{absolute, relative}
use Rattle.dns_wire.specs.declared.text.draft.NameDraft.{NameDraft}
use Rattle.dns_wire.specs.Draft.{IsReadBy}
use Rattle.dns_wire.proofs.LastDots.{open_lacks, dotted_lacks, root_lacks, told_other, told_short, told_read}
use Rattle.dns_wire.proofs.Texts.{whole-absolute, open_label, whole-appended, whole-err, begun_some, begun_none}
use Rattle.dns_wire.proofs.text.append_spelled.Goals as goal

read_by : (text : List ℕ) (read of : Option NameDraft) → read ≡ of → IsReadBy text read → IsReadBy text of
read_by text read of is given = let P : Option NameDraft → Type 0 = λ r. IsReadBy text r in subst P is given

pub returns-in_err-draft-clause-err : goal.returns-in_err-draft-clause-err
returns-in_err-draft-clause-err c =
    let p = err_from_is_err_and c.from_residual.result c.from_residual.ensures.1 in
    rw (p.1, p.2) (λ name is. c.in_err-draft.ensures.err (inr (name, absolute is)))

pub returns-in_err-extend_from_slice-clause-err : goal.returns-in_err-extend_from_slice-clause-err
returns-in_err-extend_from_slice-clause-err c =
    let p = err_from_is_err_and c.from_residual-in_err-extend_from_slice.result c.from_residual-in_err-extend_from_slice.ensures.1 in
    rw (p.1, p.2) ([], root (read_by c.args.text.now _ _ c.in_default.is c.in_ok-draft.ensures.ok))

pub returns-in_default-clause-ok : goal.returns-in_default-clause-ok
returns-in_default-clause-ok c = (
  [],
  root (read_by c.args.text.now _ _ c.in_default.is c.in_ok-draft.ensures.ok),
  c.in_ok-extend_from_slice.ensures.items,
)

pub returns-then-has_open_label-clause-err : goal.returns-then-has_open_label-clause-err
returns-then-has_open_label-clause-err c =
    let given = read_by c.args.text.now _ _ c.in-Some.is c.in_ok-draft.ensures.ok in
    open_label c.args.text.now c.in-Some.draft given.0 given.1 (begun_some _ _ given.1 (c.if-has_open_label.ensures.0 refl))

pub append_to-requires : goal.append_to-requires
append_to-requires c =
    let given = read_by c.args.text.now _ _ c.in-Some.is c.in_ok-draft.ensures.ok in
    let whole = whole-absolute c.args.text.now c.in-Some.draft given.0 given.1
    (begun_none _ _ given.1 (λ more. let bad = c.if-has_open_label.ensures.1 more in cc)) in
    (whole.done, whole.holds)

pub returns-clause-ok : goal.returns-clause-ok
returns-clause-ok c =
    let given = read_by c.args.text.now _ _ c.in-Some.is c.in_ok-draft.ensures.ok in
    let whole = whole-absolute c.args.text.now c.in-Some.draft given.0 given.1
    (begun_none _ _ given.1 (λ more. let bad = c.if-has_open_label.ensures.1 more in cc)) in
    whole-appended _ _ c.append_to.result _ _ _ refl whole c.append_to.ensures.ok

pub returns-clause-err : goal.returns-clause-err
returns-clause-err c =
    let given = read_by c.args.text.now _ _ c.in-Some.is c.in_ok-draft.ensures.ok in
    let whole = whole-absolute c.args.text.now c.in-Some.draft given.0 given.1
    (begun_none _ _ given.1 (λ more. let bad = c.if-has_open_label.ensures.1 more in cc)) in
    whole-err _ _ _ c.append_to.result whole c.append_to.ensures.err

pub returns-in_err-draft-clause-relative : goal.returns-in_err-draft-clause-relative
returns-in_err-draft-clause-relative c =
    let p = err_from_is_err_and c.from_residual.result c.from_residual.ensures.1 in
    told_read c.args.text.now c.from_residual.result
    (λ lacks. c.in_err-draft.ensures.err (inr (lacks.0, relative lacks.1 lacks.2)))
    c.read_text.result c.in_err-draft.field-0.0 c.in_err-draft.was (p.1 ∙ ap (λ e. Err e) p.2) c.read_text.ensures.other

pub returns-in_err-extend_from_slice-clause-relative : goal.returns-in_err-extend_from_slice-clause-relative
returns-in_err-extend_from_slice-clause-relative c =
    let p = err_from_is_err_and c.from_residual-in_err-extend_from_slice.result c.from_residual-in_err-extend_from_slice.ensures.1 in
    told_short c.args.text.now c.from_residual-in_err-extend_from_slice.result
    (root_lacks c.args.text.now (read_by c.args.text.now _ _ c.in_default.is c.in_ok-draft.ensures.ok)) (p.1 ∙ ap (λ e. Err e) p.2)

pub returns-then-has_open_label-clause-relative : goal.returns-then-has_open_label-clause-relative
returns-then-has_open_label-clause-relative c =
    let given = read_by c.args.text.now _ _ c.in-Some.is c.in_ok-draft.ensures.ok in (
      λ same. open_lacks c.args.text.now c.in-Some.draft given.1 (begun_some _ _ given.1 (c.if-has_open_label.ensures.0 refl)),
      λ lacks. refl,
    )

pub returns-clause-relative : goal.returns-clause-relative
returns-clause-relative c =
    let given = read_by c.args.text.now _ _ c.in-Some.is c.in_ok-draft.ensures.ok in
    let none = begun_none _ _ given.1 (λ more. let bad = c.if-has_open_label.ensures.1 more in cc) in
    told_other c.args.text.now c.append_to.result (dotted_lacks c.args.text.now c.in-Some.draft given.1 none) c.append_to.ensures.other
