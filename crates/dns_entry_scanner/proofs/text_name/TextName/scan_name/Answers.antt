use Rattle.std.proofs.Common.{◌≡◌, ℕ, List, ◌++◌, ◌∷◌, [], refl, sym, ◌∙◌, ap, subst}
use Rattle.std.specs.Prelude.{Option, option_copied}
use Rattle.dns_wire.specs.Draft.{IsReadBy}
use Rattle.dns_wire.specs.declared.text.draft.NameDraft.{NameDraft}
use Rattle.dns_entry_scanner.specs.EndedName.{IsEndedBy}
use Rattle.dns_entry_scanner.specs.NameInText.{SpellsUnder}
use Rattle.dns_entry_scanner.proofs.Refused.{if_err_each}
use Rattle.dns_entry_scanner.proofs.OneNameInText.{at_apart}
use Rattle.dns_entry_scanner.proofs.SpelledUnder.{at_none, at_some, origin_behind, readable, root_behind, root_spelled}
use Rattle.dns_entry_scanner.proofs.text_name.TextName.scan_name.Goals as goal

pub returns-in_err-known_origin-clause-err : goal.returns-in_err-known_origin-clause-err
returns-in_err-known_origin-clause-err g c =
    let is = c.if-is_at_sign.ensures.0 refl in
    if_err_each c.from_residual.result _
    (λ error short name spells. at_none c.in_err-known_origin.ensures.err is (λ other spelled. at_apart is spelled) spells)

pub returns-in_err-of_name-clause-memory : goal.returns-in_err-of_name-clause-memory
returns-in_err-of_name-clause-memory g c =
    if_err_each c.from_residual-in_err-of_name.result _ (λ error short.
    (c.in_ok-known_origin.field-0.now, at_some c.in_ok-known_origin.field-0.now c.in_ok-known_origin.ensures.ok (c.if-is_at_sign.ensures.0 refl)))

pub returns-then-is_at_sign-clause-ok : goal.returns-then-is_at_sign-clause-ok
returns-then-is_at_sign-clause-ok g c =
    let Q : List (List ℕ) → Type 0 = λ name. SpellsUnder (option_copied c.args.origin) c.args.text.now name in
    subst Q (sym c.in_ok-of_name.ensures)
    (at_some c.in_ok-known_origin.field-0.now c.in_ok-known_origin.ensures.ok (c.if-is_at_sign.ensures.0 refl))

pub returns-in_default-clause-err : goal.returns-in_default-clause-err
returns-in_default-clause-err g c =
    let differs : c.args.text.now ≡ 64 ∷ [] → ⊥ = λ same. let bad = c.if-is_at_sign.ensures.1 same in cc in
    λ short name spells. c.in_default.ensures.err (readable differs spells)

pub returns-in_err-of_name-2-clause-memory : goal.returns-in_err-of_name-2-clause-memory
returns-in_err-of_name-2-clause-memory g c =
    let P : Option NameDraft → Type 0 = λ r. IsReadBy c.args.text.now r in
    if_err_each c.from_residual-in_err-of_name-2.result _ (λ error short. ([], root_spelled (subst P c.in_default-read.is c.in-Ok.ensures.ok)))

pub returns-in_default-read-clause-ok : goal.returns-in_default-read-clause-ok
returns-in_default-read-clause-ok g c =
    let P : Option NameDraft → Type 0 = λ r. IsReadBy c.args.text.now r in
    let Q : List (List ℕ) → Type 0 = λ name. SpellsUnder (option_copied c.args.origin) c.args.text.now name in
    subst Q (sym (c.in_ok-of_name-2.ensures ∙ c.root_ref.ensures)) (root_spelled (subst P c.in_default-read.is c.in-Ok.ensures.ok))

pub returns-in_err-end_labels-clause-err : goal.returns-in_err-end_labels-clause-err
returns-in_err-end_labels-clause-err g c =
    let differs : c.args.text.now ≡ 64 ∷ [] → ⊥ = λ same. let bad = c.if-is_at_sign.ensures.1 same in cc in
    let P : Option NameDraft → Type 0 = λ r. IsReadBy c.args.text.now r in
    let read = subst P c.in-Some.is c.in-Ok.ensures.ok in
    if_err_each c.from_residual-in_err-end_labels.result _
    (λ error short name spells. c.in_err-end_labels.ensures.err c.args.text.now name differs read spells)

pub of_labels-requires-clause-labels : goal.of_labels-requires-clause-labels
of_labels-requires-clause-labels g c =
    let differs : c.args.text.now ≡ 64 ∷ [] → ⊥ = λ same. let bad = c.if-is_at_sign.ensures.1 same in cc in
    let P : Option NameDraft → Type 0 = λ r. IsReadBy c.args.text.now r in
    let read = subst P c.in-Some.is c.in-Ok.ensures.ok in
    let Q : Option (List (List ℕ)) → Type 0 = λ o. IsEndedBy (option_copied c.args.origin) c.args.text.now c.end_labels.new.draft o in
    let ended = subst Q (ap option_copied c.in-None.is) (c.in_ok-end_labels.ensures.ok c.args.text.now differs read) in (ended.1, ended.2)

pub of_labels-requires-clause-some : goal.of_labels-requires-clause-some
of_labels-requires-clause-some g c =
    let differs : c.args.text.now ≡ 64 ∷ [] → ⊥ = λ same. let bad = c.if-is_at_sign.ensures.1 same in cc in
    let P : Option NameDraft → Type 0 = λ r. IsReadBy c.args.text.now r in
    let read = subst P c.in-Some.is c.in-Ok.ensures.ok in
    let Q : Option (List (List ℕ)) → Type 0 = λ o. IsEndedBy (option_copied c.args.origin) c.args.text.now c.end_labels.new.draft o in
    let ended = subst Q (ap option_copied c.in-None.is) (c.in_ok-end_labels.ensures.ok c.args.text.now differs read) in ended.0

pub returns-in_err-of_labels-in-None-clause-memory : goal.returns-in_err-of_labels-in-None-clause-memory
returns-in_err-of_labels-in-None-clause-memory g c =
    let differs : c.args.text.now ≡ 64 ∷ [] → ⊥ = λ same. let bad = c.if-is_at_sign.ensures.1 same in cc in
    let P : Option NameDraft → Type 0 = λ r. IsReadBy c.args.text.now r in
    let read = subst P c.in-Some.is c.in-Ok.ensures.ok in
    let Q : Option (List (List ℕ)) → Type 0 = λ o. IsEndedBy (option_copied c.args.origin) c.args.text.now c.end_labels.new.draft o in
    let ended = subst Q (ap option_copied c.in-None.is) (c.in_ok-end_labels.ensures.ok c.args.text.now differs read) in
    if_err_each c.from_residual-in_err-of_labels-in-None.result _ (λ error short. (ended.1, ended.3))

pub returns-in_ok-of_labels-in-None-clause-ok : goal.returns-in_ok-of_labels-in-None-clause-ok
returns-in_ok-of_labels-in-None-clause-ok g c =
    let differs : c.args.text.now ≡ 64 ∷ [] → ⊥ = λ same. let bad = c.if-is_at_sign.ensures.1 same in cc in
    let P : Option NameDraft → Type 0 = λ r. IsReadBy c.args.text.now r in
    let read = subst P c.in-Some.is c.in-Ok.ensures.ok in
    let Q : Option (List (List ℕ)) → Type 0 = λ o. IsEndedBy (option_copied c.args.origin) c.args.text.now c.end_labels.new.draft o in
    let ended = subst Q (ap option_copied c.in-None.is) (c.in_ok-end_labels.ensures.ok c.args.text.now differs read) in
    root_behind c.end_labels.new.draft _ ended c.in_ok-of_labels-in-None.ensures.0

pub of_labels_under-requires : goal.of_labels_under-requires
of_labels_under-requires g c =
    let differs : c.args.text.now ≡ 64 ∷ [] → ⊥ = λ same. let bad = c.if-is_at_sign.ensures.1 same in cc in
    let P : Option NameDraft → Type 0 = λ r. IsReadBy c.args.text.now r in
    let read = subst P c.in-Some.is c.in-Ok.ensures.ok in
    let Q : Option (List (List ℕ)) → Type 0 = λ o. IsEndedBy (option_copied c.args.origin) c.args.text.now c.end_labels.new.draft o in
    let ended = subst Q (ap option_copied c.in-Some-2.is) (c.in_ok-end_labels.ensures.ok c.args.text.now differs read) in
    (ended.0, ended.1, ended.2)

pub returns-in_err-of_labels_under-in-Some-2-clause-memory : goal.returns-in_err-of_labels_under-in-Some-2-clause-memory
returns-in_err-of_labels_under-in-Some-2-clause-memory g c =
    let differs : c.args.text.now ≡ 64 ∷ [] → ⊥ = λ same. let bad = c.if-is_at_sign.ensures.1 same in cc in
    let P : Option NameDraft → Type 0 = λ r. IsReadBy c.args.text.now r in
    let read = subst P c.in-Some.is c.in-Ok.ensures.ok in
    let Q : Option (List (List ℕ)) → Type 0 = λ o. IsEndedBy (option_copied c.args.origin) c.args.text.now c.end_labels.new.draft o in
    let ended = subst Q (ap option_copied c.in-Some-2.is) (c.in_ok-end_labels.ensures.ok c.args.text.now differs read) in
    if_err_each c.from_residual-in_err-of_labels_under-in-Some-2.result _ (λ error short. (ended.0 ++ c.in-Some-2.origin.now, ended.3))

pub returns-in_ok-of_labels_under-in-Some-2-clause-ok : goal.returns-in_ok-of_labels_under-in-Some-2-clause-ok
returns-in_ok-of_labels_under-in-Some-2-clause-ok g c =
    let differs : c.args.text.now ≡ 64 ∷ [] → ⊥ = λ same. let bad = c.if-is_at_sign.ensures.1 same in cc in
    let P : Option NameDraft → Type 0 = λ r. IsReadBy c.args.text.now r in
    let read = subst P c.in-Some.is c.in-Ok.ensures.ok in
    let Q : Option (List (List ℕ)) → Type 0 = λ o. IsEndedBy (option_copied c.args.origin) c.args.text.now c.end_labels.new.draft o in
    let ended = subst Q (ap option_copied c.in-Some-2.is) (c.in_ok-end_labels.ensures.ok c.args.text.now differs read) in
    let made = c.in_ok-of_labels_under-in-Some-2.ensures in
    let S : List (List ℕ) → Type 0 = λ name. SpellsUnder (option_copied c.args.origin) c.args.text.now name in
    subst S (sym made.3) (origin_behind c.end_labels.new.draft made.0 c.in-Some-2.origin.now ended made.1)
