use Rattle.std.proofs.Common.{[], refl, subst}
use Rattle.std.specs.Prelude.{Option}
use Rattle.std.proofs.lemmas.Result.{err_from_is_err_and}
use Rattle.dns_label.specs.NameText.IsAbsoluteText.{root}
use Rattle.dns_wire.specs.declared.text.draft.NameDraft.{NameDraft}
use Rattle.dns_wire.specs.Draft.{IsReadBy}
use Rattle.dns_flat.proofs.RelativeTexts.{relative-open, relative-none, relative-name, relative-spells, last_dot}
use Rattle.dns_wire.proofs.Texts.{begun_none}
use Rattle.dns_flat.proofs.relative.RelativeName.of_read.Goals as goal

pub returns-in_default-clause-err : goal.returns-in_default-clause-err
returns-in_default-clause-err g c =
    λ text read.
    let P : Option NameDraft → Type 0 = λ r. IsReadBy text r in
    ([], root (subst P c.in_default.is read))

pub returns-then-has_open_label-clause-ok : goal.returns-then-has_open_label-clause-ok
returns-then-has_open_label-clause-ok g c =
    λ text given.
    let P : Option NameDraft → Type 0 = λ r. IsReadBy text r in
    let read = (subst P c.in-Some.is given).1 in
    relative-name text _ _
    (relative-open text _ _ read (c.in_ok-end_label.ensures.ok read.done read.begun read.holds)) c.in_ok-finish_relative.ensures.ok

pub returns-in_err-finish_relative-clause-err : goal.returns-in_err-finish_relative-clause-err
returns-in_err-finish_relative-clause-err g c =
    let p = err_from_is_err_and c.from_residual-in_err-finish_relative.result c.from_residual-in_err-finish_relative.ensures.1 in
    rw (p.1, p.2, c.in_err-finish_relative.ensures.err)
    (λ text given.
    let P : Option NameDraft → Type 0 = λ r. IsReadBy text r in
    let read = (subst P c.in-Some.is given).1 in
    relative-spells text _ (relative-open text _ _ read (c.in_ok-end_label.ensures.ok read.done read.begun read.holds)))

pub returns-then-not-is_new-clause-err : goal.returns-then-not-is_new-clause-err
returns-then-not-is_new-clause-err g c =
    λ text given.
    let P : Option NameDraft → Type 0 = λ r. IsReadBy text r in
    let read = subst P c.in-Some.is given in
    last_dot text c.in-Some.draft read.0 read.1
    (begun_none _ _ read.1 (λ more. let bad = c.if-has_open_label.ensures.1 more in cc))
    (λ one. let bad = c.if-not-is_new.ensures.1 one in cc)

pub returns-clause-ok : goal.returns-clause-ok
returns-clause-ok g c =
    λ text given.
    let P : Option NameDraft → Type 0 = λ r. IsReadBy text r in
    let read = (subst P c.in-Some.is given).1 in
    let none = begun_none _ _ read (λ more. let bad = c.if-has_open_label.ensures.1 more in cc) in
    relative-name text _ _ (relative-none text _ read none (c.if-not-is_new.ensures.0 refl)) c.in_ok-finish_relative-2.ensures.ok

pub returns-in_err-finish_relative-2-clause-err : goal.returns-in_err-finish_relative-2-clause-err
returns-in_err-finish_relative-2-clause-err g c =
    let p = err_from_is_err_and c.from_residual-in_err-finish_relative-2.result c.from_residual-in_err-finish_relative-2.ensures.1 in
    rw (p.1, p.2, c.in_err-finish_relative-2.ensures.err)
    (λ text given.
    let P : Option NameDraft → Type 0 = λ r. IsReadBy text r in
    let read = (subst P c.in-Some.is given).1 in
    let none = begun_none _ _ read (λ more. let bad = c.if-has_open_label.ensures.1 more in cc) in
    relative-spells text _ (relative-none text _ read none (c.if-not-is_new.ensures.0 refl)))
