use Rattle.std.proofs.Common.{List, ℕ, [], refl, subst}
use Rattle.std.specs.Prelude.{Option}
use Rattle.std.proofs.lemmas.Result.{err_from_is_err_and}
use Rattle.dns_label.specs.NameText.{IsNameText}
use Rattle.dns_label.specs.NameText.IsAbsoluteText.{root}
use Rattle.dns_label.specs.NameText.IsNameText.{absolute}
use Rattle.dns_wire.specs.declared.text.draft.NameDraft.{NameDraft}
use Rattle.dns_wire.specs.Draft.{IsReadBy}
use Rattle.dns_wire.specs.Text.{IsRefused}
use Rattle.dns_flat.proofs.Refusals.{each_ok, each_err}
use Rattle.dns_wire.proofs.Texts.{Whole, whole-dotted, whole-open, whole-result, whole-err, begun_some, begun_none}
use Rattle.dns_flat.proofs.name.Name.of_read.Goals as goal
use Rattle.dns_flat.proofs.name.Name.of_read.Goals.{then-has_open_label+in_ok-end_label, else-has_open_label, Joined-has_open_label, After-finish}

pub returns-in_err-root-clause-err : goal.returns-in_err-root-clause-err
returns-in_err-root-clause-err g c =
    let p = err_from_is_err_and c.from_residual.result c.from_residual.ensures.1 in
    rw (p.1, p.2)
    (λ text read.
    let P : Option NameDraft → Type 0 = λ r. IsReadBy text r in
    ([], absolute (root (subst P c.in_default.is read))))

pub returns-in_default-clause-ok : goal.returns-in_default-clause-ok
returns-in_default-clause-ok g c =
    λ text read.
    let P : Option NameDraft → Type 0 = λ r. IsReadBy text r in
    rw c.in_ok-root.ensures.root (absolute (root (subst P c.in_default.is read)))

joined : (g : _) (c : Joined-has_open_label g) (text : List ℕ) → IsReadBy text c.args.read → Whole IsNameText text c.if-has_open_label.draft
joined g c text given =
    let P : Option NameDraft → Type 0 = λ r. IsReadBy text r in
    let read = subst P c.in-Some.is given in
    elim c.if-has_open_label.branch [
      | then-has_open_label+in_ok-end_label w ↦
          rw w.draft-is
          (whole-open text c.in-Some.draft _ read.0 read.1
          (begun_some _ _ read.1 (w.if-has_open_label.ensures.0 refl)) (w.in_ok-end_label.ensures.ok read.1.done read.1.begun read.1.holds))
      | else-has_open_label w ↦
          rw w.draft-is
          (whole-dotted text c.in-Some.draft read.0 read.1
          (begun_none _ _ read.1 (λ more. let bad = w.if-has_open_label.ensures.1 more in cc)))
    ]

finished : (g : _) (c : After-finish g) (text : List ℕ) → IsReadBy text c.args.read → Whole IsNameText text c.if-has_open_label.draft
finished g c text given =
    let P : Option NameDraft → Type 0 = λ r. IsReadBy text r in
    let read = subst P c.in-Some.is given in
    elim c.if-has_open_label.branch [
      | then-has_open_label+in_ok-end_label w ↦
          rw w.draft-is
          (whole-open text c.in-Some.draft _ read.0 read.1
          (begun_some _ _ read.1 (w.if-has_open_label.ensures.0 refl)) (w.in_ok-end_label.ensures.ok read.1.done read.1.begun read.1.holds))
      | else-has_open_label w ↦
          rw w.draft-is
          (whole-dotted text c.in-Some.draft read.0 read.1
          (begun_none _ _ read.1 (λ more. let bad = w.if-has_open_label.ensures.1 more in cc)))
    ]

pub finish-requires : goal.finish-requires
finish-requires g c = let whole = joined g c c.requires.0 c.requires.1 in (whole.done, whole.holds)

pub returns-clause-ok : goal.returns-clause-ok
returns-clause-ok g c =
    each_ok (λ text. IsReadBy text c.args.read) IsNameText c.finish.result
    (λ text read. whole-result _ _ _ c.finish.result (finished g c text read) c.finish.ensures.ok)

pub returns-clause-err : goal.returns-clause-err
returns-clause-err g c =
    each_err (λ text. IsReadBy text c.args.read) (IsRefused IsNameText) c.finish.result
    (λ text read. whole-err _ _ _ c.finish.result (finished g c text read) c.finish.ensures.err)
