use Rattle.std.proofs.Common.{[], ◌∷◌, ◌++◌, refl, ◌∙◌, ap, append-nil}
use Rattle.std.proofs.lemmas.Result.{err_from_is_err_and}
use Rattle.std.specs.List.{flat_map}
use Rattle.dns_label.specs.OwnedLabel.{octets_owned}
use Rattle.dns_label.specs.Symbol.{spelled}
use Rattle.dns_label.proofs.SymbolFronts.{fact_on_err}
use Rattle.dns_label.proofs.LabelTexts.{Octets, octets_taken, why_no_symbol, why_over, why_empty, taking_none, taking_more, no_text_left, split_on, split_over, over_of, read_ok, read_err, no_octets, some_octets, spelled-shorter}
use Rattle.dns_label.proofs.label.owned.OwnedLabel.from_text.Goals as goal

pub loop-rest-init : goal.loop-rest-init
loop-rest-init c = ([], taking_none _ refl, refl)

pub returns-in_default-clause-err : goal.returns-in_default-clause-err
returns-in_default-clause-err c =
    let at = c.loop-rest.invariant in
    no_text_left at.0 (octets_owned c.loop-rest.read) c.args.text.now c.loop-rest.rest.now at.1 at.2
    (some_octets c.loop-rest.rest.now c.loop-rest-test.ensures) c.in_default.ensures.none

pub returns-in_err-push-clause-err : goal.returns-in_err-push-clause-err
returns-in_err-push-clause-err c =
    let at = c.loop-rest.invariant in
    fact_on_err c.from_residual.result
    (split_over at.0 (octets_owned c.loop-rest.read) c.args.text.now c.loop-rest.rest.now c.in-Some.behind.now c.in-Some.symbol at.1 at.2
    c.in-Some.ensures.found.1 c.in-Some.ensures.found.0
    (over_of c.in-Some.symbol (octets_owned c.loop-rest.read) c.in_err-push.field-0.0 c.in_err-push.ensures.err))

pub loop-rest-smaller : goal.loop-rest-smaller
loop-rest-smaller c = spelled-shorter c.in-Some.symbol c.loop-rest.rest.now c.in-Some.behind.now c.in-Some.ensures.found.1

pub loop-rest-preserved : goal.loop-rest-preserved
loop-rest-preserved c =
    let at = c.loop-rest.invariant in (
      at.0 ++ c.in-Some.symbol ∷ [],
      taking_more at.0 _ _ c.in-Some.symbol at.1 c.in-Some.ensures.found.0 c.in_ok-push.ensures.plain c.in_ok-push.ensures.ok,
      split_on at.0 c.in-Some.symbol c.args.text.now c.loop-rest.rest.now c.in-Some.behind.now at.2 c.in-Some.ensures.found.1,
    )

pub returns-clause-ok : goal.returns-clause-ok
returns-clause-ok c =
    let at = c.loop-rest.invariant in
    let none = no_octets c.loop-rest.rest.now c.loop-rest-test.ensures in
    read_ok c.args.text.now at.0 c.loop-rest.read c.filled.result at.1
    (at.2 ∙ ap (λ r. flat_map spelled at.0 ++ r) none ∙ append-nil (flat_map spelled at.0)) c.filled.ensures.ok

pub returns-clause-err : goal.returns-clause-err
returns-clause-err c =
    let at = c.loop-rest.invariant in
    let none = no_octets c.loop-rest.rest.now c.loop-rest-test.ensures in
    read_err c.args.text.now at.0 c.loop-rest.read c.filled.result at.1
    (at.2 ∙ ap (λ r. flat_map spelled at.0 ++ r) none ∙ append-nil (flat_map spelled at.0)) c.filled.ensures.err

pub returns-in_default-clause-why : goal.returns-in_default-clause-why
returns-in_default-clause-why c =
    let at = c.loop-rest.invariant in
    why_no_symbol c.args.text.now c.loop-rest.rest.now at.0 (octets_owned c.loop-rest.read) at.1 at.2
    (some_octets c.loop-rest.rest.now c.loop-rest-test.ensures) c.in_default.ensures.none

pub returns-in_err-push-clause-why : goal.returns-in_err-push-clause-why
returns-in_err-push-clause-why c =
    let at = c.loop-rest.invariant in
    let p = err_from_is_err_and c.from_residual.result c.from_residual.ensures.1 in
    rw (p.1, p.2)
    (why_over Octets c.args.text.now c.loop-rest.rest.now c.in-Some.behind.now at.0 (octets_owned c.loop-rest.read) at.1
    (octets_taken c.args.text.now (flat_map spelled at.0) c.loop-rest.rest.now at.2) c.in-Some.symbol c.in_err-push.field-0.0
    c.in-Some.ensures.found.0 c.in_err-push.ensures.err
    (octets_taken c.loop-rest.rest.now (spelled c.in-Some.symbol) c.in-Some.behind.now c.in-Some.ensures.found.1))

pub returns-clause-why : goal.returns-clause-why
returns-clause-why c =
    let at = c.loop-rest.invariant in
    let none = no_octets c.loop-rest.rest.now c.loop-rest-test.ensures in
    why_empty Octets c.args.text.now c.loop-rest.rest.now c.loop-rest.rest.now at.0 (octets_owned c.loop-rest.read) c.filled.result at.1
    (octets_taken c.args.text.now (flat_map spelled at.0) c.loop-rest.rest.now at.2) (none, none)
    c.filled.ensures.err c.filled.ensures.why
