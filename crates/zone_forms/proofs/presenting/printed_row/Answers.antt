use Rattle.std.proofs.Common.{◌≡◌, ◌+◌, ◌++◌, ◌∙◌, List, ℕ, ap, arith, drop, option_copied, refl, subst, sym}
use Rattle.std.proofs.lemmas.Grind.{common_steps}
use Rattle.dns_entry_scanner.specs.NameInText.{SpellsUnder}
use Rattle.zone_general.specs.LongerRow.{ScansLonger}
use Rattle.zone_general.specs.Seen.{tokens_in}
use Rattle.zone_forms.proofs.PresentedRows.{none_weaker, presents_marked, presents_scans, presents_text}
use Rattle.zone_forms.proofs.presenting.printed_row.Goals as goal

pub returns-in_default-clause-none : goal.returns-in_default-clause-none
returns-in_default-clause-none c = λ presents. c.in_default.ensures.none _ _ _ _ presents.has

pub returns-then-not-is_marked-clause-none : goal.returns-then-not-is_marked-clause-none
returns-then-not-is_marked-clause-none c = λ presents.
    let marks = c.is_marked.ensures.1 (presents_marked c.args.row c.in-Some.ensures.some presents) in
    let told = c.if-not-is_marked.true in
    grind (arith, common_steps)

pub returns-in-Err-clause-none : goal.returns-in-Err-clause-none
returns-in-Err-clause-none c = λ presents.
    c.in-Err.ensures.err (sym c.is_want_of_memory.ensures ∙ c.if-is_want_of_memory.false) presents.content
    (presents_scans c.args.row c.in-Some.ensures.some presents)

pub returns-clause-none : goal.returns-clause-none
returns-clause-none c =
    let told = c.in-Ok.ensures.ok in
    let same : c.deref-in-None.result.now ≡ told.0 =
    c.deref-in-None.ensures.value ∙ told.3 ∙ ap (λ (l : List ℕ). l ++ told.0) c.new-data.ensures.items in
    let scans : ScansLonger (SpellsUnder (option_copied c.args.origin)) c.in-Some.kind.rtype (drop (c.in-Some.kind.index + 1) (tokens_in c.args.row))
    c.deref-in-None.result.now =
    subst (λ (l : List ℕ). ScansLonger (SpellsUnder (option_copied c.args.origin)) c.in-Some.kind.rtype (drop (c.in-Some.kind.index + 1) (tokens_in c.args.row)) l)
    (sym same) told.1 in
    none_weaker c.printed_as-in-None.result
    (λ none presents. none refl (presents_text c.args.row c.in-Some.ensures.some presents scans))
    c.printed_as-in-None.ensures.none
