use Rattle.std.proofs.Common.{[], inl, inr, refl, subst}
use Rattle.std.specs.Prelude.{Option}
use Rattle.std.proofs.lemmas.Result.{err_from_is_err_and}
use Rattle.dns_label.specs.NameText.{IsAbsoluteText}
use Rattle.dns_label.specs.NameText.IsAbsoluteText.{root}
use Rattle.dns_wire.specs.declared.text.draft.NameDraft.{NameDraft}
use Rattle.dns_wire.specs.Draft.{IsReadBy}
use Rattle.dns_flat.proofs.RelativeTexts.{relative-open, relative-none, relative-name, relative-spells, last_dot}
use Rattle.dns_flat.proofs.SpelledTexts.{spelled_short}
use Rattle.dns_wire.proofs.Texts.{begun_none, whole-absolute, whole-ok}
use Rattle.dns_flat.proofs.text.spelled.SpelledName.of_read.Goals as goal

pub returns-in_err-root-clause-err : goal.returns-in_err-root-clause-err
returns-in_err-root-clause-err g c =
    let p = err_from_is_err_and c.from_residual.result c.from_residual.ensures.1 in
    rw (p.1, p.2)
    (λ text read.
    let P : Option NameDraft → Type 0 = λ r. IsReadBy text r in
    inr ([], root (subst P c.in_default.is read)))

pub returns-in_default-clause-ok : goal.returns-in_default-clause-ok
returns-in_default-clause-ok g c =
    λ text read.
    let P : Option NameDraft → Type 0 = λ r. IsReadBy text r in
    rw c.in_ok-root.ensures.root (root (subst P c.in_default.is read))

pub returns-then-has_open_label-clause-ok : goal.returns-then-has_open_label-clause-ok
returns-then-has_open_label-clause-ok g c =
    λ text given.
    let P : Option NameDraft → Type 0 = λ r. IsReadBy text r in
    let read = (subst P c.in-Some.is given).1 in
    relative-name text _ _
    (relative-open text _ _ read (c.in_ok-end_label.ensures.ok read.done read.begun read.holds)) c.in_ok-finish_relative.ensures.ok

pub returns-in_err-finish_relative-clause-err : goal.returns-in_err-finish_relative-clause-err
returns-in_err-finish_relative-clause-err g c =
    let p = err_from_is_err_and c.from_residual-in_err-finish_relative.result c.from_residual-in_err-finish_relative.ensures.1 in
    rw (p.1, p.2, c.in_err-finish_relative.ensures.err)
    (λ text given.
    let P : Option NameDraft → Type 0 = λ r. IsReadBy text r in
    let read = (subst P c.in-Some.is given).1 in
    inl (relative-spells text _ (relative-open text _ _ read (c.in_ok-end_label.ensures.ok read.done read.begun read.holds))))

pub finish-requires : goal.finish-requires
finish-requires g c =
    let P : Option NameDraft → Type 0 = λ r. IsReadBy c.requires.0 r in
    let read = subst P c.in-Some.is c.requires.1 in
    let none = begun_none _ _ read.1 (λ more. let bad = c.if-has_open_label.ensures.1 more in cc) in
    let whole = whole-absolute c.requires.0 _ read.0 read.1 none in (whole.done, whole.holds)

pub returns-then-not-is_new-clause-ok : goal.returns-then-not-is_new-clause-ok
returns-then-not-is_new-clause-ok g c =
    λ text given.
    let P : Option NameDraft → Type 0 = λ r. IsReadBy text r in
    let read = subst P c.in-Some.is given in
    let none = begun_none _ _ read.1 (λ more. let bad = c.if-has_open_label.ensures.1 more in cc) in
    let made = c.in_ok-finish.ensures.ok in
    whole-ok IsAbsoluteText text _ _ (whole-absolute text _ read.0 read.1 none) made.0 made.1 made.2

pub returns-in_err-finish-clause-err : goal.returns-in_err-finish-clause-err
returns-in_err-finish-clause-err g c =
    let p = err_from_is_err_and c.from_residual-in_err-finish.result c.from_residual-in_err-finish.ensures.1 in
    rw (p.1, p.2)
    (λ text given.
    let P : Option NameDraft → Type 0 = λ r. IsReadBy text r in
    let read = subst P c.in-Some.is given in
    let none = begun_none _ _ read.1 (λ more. let bad = c.if-has_open_label.ensures.1 more in cc) in
    spelled_short text _ (λ fault. let bad = c.if-not-is_new.ensures.1 (c.in_err-finish.ensures.err.0 fault) in cc)
    (inr (last_dot text _ read.0 read.1 none (λ one. let bad = c.if-not-is_new.ensures.1 one in cc))))

pub returns-clause-ok : goal.returns-clause-ok
returns-clause-ok g c =
    λ text given.
    let P : Option NameDraft → Type 0 = λ r. IsReadBy text r in
    let read = (subst P c.in-Some.is given).1 in
    let none = begun_none _ _ read (λ more. let bad = c.if-has_open_label.ensures.1 more in cc) in
    relative-name text _ _ (relative-none text _ read none (c.if-not-is_new.ensures.0 refl)) c.in_ok-finish_relative-2.ensures.ok

pub returns-in_err-finish_relative-2-clause-err : goal.returns-in_err-finish_relative-2-clause-err
returns-in_err-finish_relative-2-clause-err g c =
    let p = err_from_is_err_and c.from_residual-in_err-finish_relative-2.result c.from_residual-in_err-finish_relative-2.ensures.1 in
    rw (p.1, p.2, c.in_err-finish_relative-2.ensures.err)
    (λ text given.
    let P : Option NameDraft → Type 0 = λ r. IsReadBy text r in
    let read = (subst P c.in-Some.is given).1 in
    let none = begun_none _ _ read (λ more. let bad = c.if-has_open_label.ensures.1 more in cc) in
    inl (relative-spells text _ (relative-none text _ read none (c.if-not-is_new.ensures.0 refl))))
