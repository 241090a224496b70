use Rattle.std.proofs.Common.{ℕ, ◌∷◌, length, refl, sym, ◌∙◌, ap, arith}
use Rattle.dns_label.specs.declared.symbol.Symbol.TheVariants.{Char}
use Rattle.dns_wire.proofs.Flat.{always_on_err}
use Rattle.dns_wire.proofs.OctetTexts.{taken_none, plain_char, plain_begins, taken-octet, over_unreadable, taken-dot, empty_unreadable, root_alone, root_unreadable, bad_unreadable, taken_all}
use Rattle.dns_wire.proofs.Pushes.{none_of, some_of, no_octets}
use Rattle.dns_wire.proofs.text.draft.NameDraft.read_text.Goals as goal

pub loop-octet-init : goal.loop-octet-init
loop-octet-init c = taken_none c.args.text.now c.new-draft.result c.new-draft.ensures

pub returns-in_err-push-clause-err : goal.returns-in_err-push-clause-err
returns-in_err-push-clause-err c =
    let plain = c.if-is_unescaped.ensures.0 refl in
    always_on_err c.from_residual.result
    (over_unreadable _ _ _ _ (Char c.in-Some.field-0-0.now) c.loop-octet.invariant plain.0 c.in-Some.ensures.cases.0
    (plain_char c.in-Some.field-0-0.now plain.1) c.in_err-push.ensures.err)

pub loop-octet-preserved-then-is_unescaped : goal.loop-octet-preserved-then-is_unescaped
loop-octet-preserved-then-is_unescaped c =
    let plain = c.if-is_unescaped.ensures.0 refl in
    taken-octet _ _ _ _ (Char c.in-Some.field-0-0.now) c.loop-octet.invariant plain.0 c.in-Some.ensures.cases.0 _ c.in-Some.field-0-0.now
    (plain_char c.in-Some.field-0-0.now plain.1) refl c.in_ok-push.ensures.ok

pub returns-in_default-split_from-clause-err : goal.returns-in_default-split_from-clause-err
returns-in_default-split_from-clause-err c =
    let first = c.in-Some.ensures.cases.0 in
    bad_unreadable _ _ _ c.loop-octet.invariant (λ none. cc) c.in_default-split_from.ensures.none

pub returns-in_err-push-2-clause-err : goal.returns-in_err-push-2-clause-err
returns-in_err-push-2-clause-err c =
    let found = c.in-Some-split_from.ensures.found in
    always_on_err c.from_residual-in_err-push-2.result
    (over_unreadable _ _ _ _ c.in-Some-split_from.symbol c.loop-octet.invariant found.0 found.1
    (plain_begins c.in-Some.field-0-0.now _ _ c.in-Some-split_from.symbol c.if-octet-ne46.true c.in-Some.ensures.cases.0 _ found.1)
    c.in_err-push-2.ensures.err)

pub loop-octet-preserved-then-octet-ne46 : goal.loop-octet-preserved-then-octet-ne46
loop-octet-preserved-then-octet-ne46 c =
    let found = c.in-Some-split_from.ensures.found in
    taken-octet _ _ _ _ c.in-Some-split_from.symbol c.loop-octet.invariant found.0 found.1 _ c.in_ok-into_octet.field-0
    (plain_begins c.in-Some.field-0-0.now _ _ c.in-Some-split_from.symbol c.if-octet-ne46.true c.in-Some.ensures.cases.0 _ found.1)
    c.in_ok-into_octet.ensures.octet c.in_ok-push-2.ensures.ok

pub returns-in_err-end_label-clause-err : goal.returns-in_err-end_label-clause-err
returns-in_err-end_label-clause-err c =
    let dot = c.in-Some.ensures.cases.0 ∙ ap (λ (o : ℕ). o ∷ c.in-Some.behind.now) c.if-octet-ne46.false in
    always_on_err c.from_residual-in_err-end_label.result
    (empty_unreadable _ _ _ _ c.loop-octet.invariant dot (λ one. omega arith) c.in_err-end_label.ensures.err)

pub loop-octet-preserved : goal.loop-octet-preserved
loop-octet-preserved c =
    let dot = c.in-Some.ensures.cases.0 ∙ ap (λ (o : ℕ). o ∷ c.in-Some.behind.now) c.if-octet-ne46.false in
    taken-dot _ _ _ _ c.loop-octet.invariant dot _ (λ one. omega arith) c.in_ok-end_label.ensures.ok

pub returns-then-is_empty-clause-ok : goal.returns-then-is_empty-clause-ok
returns-then-is_empty-clause-ok c =
    let dot = c.in-Some.ensures.cases.0 ∙ ap (λ (o : ℕ). o ∷ c.in-Some.behind.now) c.if-octet-ne46.false in
    root_alone _ _ _ _ c.loop-octet.invariant dot (omega arith) (no_octets c.in-Some.behind.now (none_of (length c.in-Some.behind.now) (sym c.if-is_empty.ensures)))

pub returns-else-is_empty-clause-err : goal.returns-else-is_empty-clause-err
returns-else-is_empty-clause-err c =
    let dot = c.in-Some.ensures.cases.0 ∙ ap (λ (o : ℕ). o ∷ c.in-Some.behind.now) c.if-octet-ne46.false in
    root_unreadable _ _ _ _ c.loop-octet.invariant dot (omega arith)
    (λ none. omega (arith, some_of (length c.in-Some.behind.now) (sym c.if-is_empty.ensures), ap (length {A = ℕ}) none))

pub returns-clause-ok : goal.returns-clause-ok
returns-clause-ok c = taken_all _ _ _ c.loop-octet.invariant (no_octets c.loop-octet.rest.now c.in_default.ensures.cases)
