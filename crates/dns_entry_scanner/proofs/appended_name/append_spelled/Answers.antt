use Rattle.std.proofs.Common.{◌≡◌, ◌++◌, ◌∷◌, List, ℕ, [], refl, ◌∙◌, ap, arith, append-nil, subst}
use Rattle.std.specs.Prelude.{Option}
use Rattle.std.proofs.lemmas.Result.{IfErr-at_err, IfOk-at_ok}
use Rattle.dns_wire.specs.Draft.{IsReadBy, IsReadable}
use Rattle.dns_wire.specs.declared.text.draft.NameDraft.{NameDraft}
use Rattle.dns_scan.proofs.Tokens.{if_err_weaker}
use Rattle.dns_entry_scanner.specs.AppendedName.{HasBehind}
use Rattle.dns_entry_scanner.proofs.OneNameInText.{at_apart}
use Rattle.dns_entry_scanner.proofs.Refused.{if_err_each, on_ok_weaker}
use Rattle.dns_entry_scanner.proofs.SpelledUnder.{at_none, at_some, readable, root_spelled}
use Rattle.dns_entry_scanner.proofs.appended_name.append_spelled.Goals as goal

pub returns-in_err-origin-clause-err : goal.returns-in_err-origin-clause-err
returns-in_err-origin-clause-err c =
    let is = c.if-is_at_sign.ensures.0 refl in
    if_err_each c.from_residual.result _
    (λ error short name spells. at_none c.in_err-origin.ensures.err is (λ other spelled. at_apart is spelled) spells)

pub append_both-requires-clause-short : goal.append_both-requires-clause-short
append_both-requires-clause-short c = omega arith

pub append_both-requires-in-Ok-None-clause-short : goal.append_both-requires-in-Ok-None-clause-short
append_both-requires-in-Ok-None-clause-short c = omega arith

pub returns-then-is_at_sign-clause-ok : goal.returns-then-is_at_sign-clause-ok
returns-then-is_at_sign-clause-ok c =
    let Q : List ℕ → Type 0 = λ l. HasBehind c.args.room (c.args.octets.now.items ++ l) c.append_both.new.octets.items in (
      c.in_ok-origin.origin.now,
      at_some c.in_ok-origin.origin.now c.in_ok-origin.ensures.ok (c.if-is_at_sign.ensures.0 refl),
      c.as_slice.ensures.name,
      subst Q (append-nil c.as_slice.result.now ∙ c.as_slice.ensures.octets) c.in_ok-append_both.ensures.ok,
    )

pub append_read-requires-clause-read : goal.append_read-requires-clause-read
append_read-requires-clause-read c =
    let differs : c.args.text.now ≡ 64 ∷ [] → ⊥ = λ same. let bad = c.if-is_at_sign.ensures.1 same in cc in
    let P : Option NameDraft → Type 0 = λ r. IsReadBy c.args.text.now r in
    (c.args.text.now, differs, subst P c.in-Ok-Some.field-0-is (IfOk-at_ok P c.in-Ok-Some.is c.read_text.ensures.ok))

pub returns-in-Ok-Some-clause-ok : goal.returns-in-Ok-Some-clause-ok
returns-in-Ok-Some-clause-ok c =
    let differs : c.args.text.now ≡ 64 ∷ [] → ⊥ = λ same. let bad = c.if-is_at_sign.ensures.1 same in cc in
    let P : Option NameDraft → Type 0 = λ r. IsReadBy c.args.text.now r in
    let read = subst P c.in-Ok-Some.field-0-is (IfOk-at_ok P c.in-Ok-Some.is c.read_text.ensures.ok) in
    on_ok_weaker c.append_read.result _ _ (λ is. is c.args.text.now differs read) c.append_read.ensures.ok

pub returns-in-Ok-Some-clause-err : goal.returns-in-Ok-Some-clause-err
returns-in-Ok-Some-clause-err c =
    let differs : c.args.text.now ≡ 64 ∷ [] → ⊥ = λ same. let bad = c.if-is_at_sign.ensures.1 same in cc in
    let P : Option NameDraft → Type 0 = λ r. IsReadBy c.args.text.now r in
    let read = subst P c.in-Ok-Some.field-0-is (IfOk-at_ok P c.in-Ok-Some.is c.read_text.ensures.ok) in
    if_err_weaker c.append_read.result _ _ (λ error is short name spells. is short c.args.text.now name differs read spells) c.append_read.ensures.err

pub returns-in_ok-append_both-in-Ok-None-clause-ok : goal.returns-in_ok-append_both-in-Ok-None-clause-ok
returns-in_ok-append_both-in-Ok-None-clause-ok c =
    let P : Option NameDraft → Type 0 = λ r. IsReadBy c.args.text.now r in (
      [],
      root_spelled (subst P c.in-Ok-None.field-0-is (IfOk-at_ok P c.in-Ok-None.is c.read_text.ensures.ok)),
      record { labels = tt; short = omega arith },
      c.in_ok-append_both-in-Ok-None.ensures.ok,
    )

pub returns-in-Err-clause-err : goal.returns-in-Err-clause-err
returns-in-Err-clause-err c =
    let differs : c.args.text.now ≡ 64 ∷ [] → ⊥ = λ same. let bad = c.if-is_at_sign.ensures.1 same in cc in
    λ short name spells. IfErr-at_err (λ _. IsReadable c.args.text.now → ⊥) c.in-Err.is c.read_text.ensures.err (readable differs spells)
