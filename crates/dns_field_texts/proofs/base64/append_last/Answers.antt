use Rattle.std.proofs.Common.{◌≡◌, ◌+◌, ◌∷◌, ◌++◌, ◌∙◌, [], List, ℕ, take, drop, get_or, add-one, ap, sym, subst, drop-cons, arith, rules}
use Rattle.std.proofs.Math.Seq.{take-suc}
use Rattle.std.proofs.lemmas.List.{take-append-drop, take_all}
use Rattle.std.proofs.lemmas.Result.{err_from_is_err_and}
use Rattle.dns_scan.specs.Decoding.{HasRead}
use Rattle.dns_scan.specs.declared.encoding.base.Base.TheVariants.{SixtyFour}
use Rattle.dns_scan.proofs.Decoded.{refused_for_itself, refused_text}
use Rattle.dns_field_texts.proofs.base64.append_last.Goals as goal

pub returns-in_err-push-clause-err : goal.returns-in_err-push-clause-err
returns-in_err-push-clause-err c =
    let text = c.args.text.now in
    let index = c.loop-octet.octet-index in
    let character : get_or text index 0 ≡ c.from.result = search rules in
    let whole : take index text ++ c.from.result ∷ drop (index + 1) text ≡ text =
    rw (add-one, sym character) (ap (λ (l : List ℕ). take index text ++ l) (sym (drop-cons text index 0 c.loop-octet-test.true)) ∙ take-append-drop index text) in
    let p = err_from_is_err_and c.from_residual.result c.from_residual.ensures.1 in
    rw (p.1, p.2)
    (refused_for_itself SixtyFour text _
    (refused_text SixtyFour c.loop-octet.decoder (take index text) (drop (index + 1) text) text c.from.result _ c.loop-octet.invariant whole
    (c.in_err-push.ensures.why c.loop-octet.invariant.sound)))

pub loop-octet-preserved : goal.loop-octet-preserved
loop-octet-preserved c =
    let text = c.args.text.now in
    let index = c.loop-octet.octet-index in
    let character : get_or text index 0 ≡ c.from.result = search rules in
    let taken : take (index + 1) text ≡ take index text ++ c.from.result ∷ [] =
    rw add-one (take-suc text index 0 c.loop-octet-test.true ∙ ap (λ (n : ℕ). take index text ++ n ∷ []) character) in
    subst (HasRead SixtyFour c.push.new.self) (sym taken) (c.in_ok-push.ensures.ok (take index text) c.loop-octet.invariant)

pub returns-in_err-new-clause-err : goal.returns-in_err-new-clause-err
returns-in_err-new-clause-err c =
    let text = c.args.text.now in
    let all : take c.loop-octet.octet-index text ≡ text = take_all c.loop-octet.octet-index text (omega arith) in
    let p = err_from_is_err_and c.from_residual-in_err-new.result c.from_residual-in_err-new.ensures.1 in
    rw (p.1, p.2)
    (λ itself. (c.in_err-new.ensures.short c.loop-octet.invariant.sound).1 text (subst (HasRead SixtyFour c.loop-octet.decoder) all c.loop-octet.invariant))
