use Rattle.std.proofs.Common.{◌≡◌, ℕ, List, [], ◌∷◌, ◌++◌, ◌+◌, take, slice_set, sym, ◌∙◌, ap, subst, arith}
use Rattle.std.proofs.lemmas.Grind.{common_steps}
use Rattle.std.proofs.lemmas.List.{length-set, length-take-le, take_more_set}
use Rattle.dns_label.specs.Symbol.{octet}
use Rattle.dns_scan.specs.Refused.{BeginsWith}
use Rattle.dns_scan.proofs.Texts.{Reading, reading_more, reading_end, reading_none, reading_full, begins_more, begins_badly, begins_long}
use Rattle.dns_scan.proofs.char_str.text.Taken.read.Goals as goal

pub returns-in_default-clause-err : goal.returns-in_default-clause-err
returns-in_default-clause-err c =
    let at = c.loop-rest.invariant in
    let all = at.whole in
    let few = at.few in
    let size = length-take-le c.loop-rest.len c.loop-rest.octets (omega arith) in
    let some : c.loop-rest.rest.now ≡ [] → ⊥ = λ none. grind (arith, common_steps) in (
      begins_badly _ _ _ at.begins (omega (arith, size)) some c.in_default.ensures.none,
      λ string is_text. reading_none _ _ _ at.reading some c.in_default.ensures.none string is_text.spells,
    )

pub returns-then-len-eq255-clause-err : goal.returns-then-len-eq255-clause-err
returns-then-len-eq255-clause-err c =
    let at = c.loop-rest.invariant in
    let all = at.whole in
    let size = length-take-le c.loop-rest.len c.loop-rest.octets (omega arith) in
    let found = c.in-Some.ensures.found in (
      begins_long _ _ _ _ c.in-Some.symbol at.begins found.0 found.1 (omega (arith, size)),
      λ string is_text. reading_full _ _ _ _ c.in-Some.symbol at.reading found.0 found.1 (omega (arith, size)) string is_text,
    )

pub loop-rest-preserved : goal.loop-rest-preserved
loop-rest-preserved c =
    let at = c.loop-rest.invariant in
    let all = at.whole in
    let few = at.few in
    let found = c.in-Some.ensures.found in
    let P : List ℕ → Type 0 = λ l. Reading c.args.text.now c.in-Some.behind.now l in
    let Q : List ℕ → Type 0 = λ l. BeginsWith c.args.text.now l c.in-Some.behind.now in
    let taken : take c.loop-rest.len c.loop-rest.octets ++ octet c.in-Some.symbol ∷ []
    ≡ take (c.loop-rest.len + 1) (slice_set c.loop-rest.octets c.loop-rest.len c.octet_of.result) =
    ap (λ (n : ℕ). take c.loop-rest.len c.loop-rest.octets ++ n ∷ []) (sym c.octet_of.ensures)
    ∙ sym (take_more_set c.loop-rest.octets c.loop-rest.len c.octet_of.result (omega arith)) in
    record {
      few = omega arith;
      whole = length-set c.loop-rest.octets c.loop-rest.len c.octet_of.result ∙ all;
      reading = subst P taken (reading_more _ _ _ _ c.in-Some.symbol at.reading found.0 found.1);
      begins = subst Q taken (begins_more _ _ _ _ c.in-Some.symbol at.begins found.0 found.1);
    }

pub returns-clause-ok : goal.returns-clause-ok
returns-clause-ok c =
    let none : c.loop-rest.rest.now ≡ [] = grind (arith, common_steps) in
    reading_end _ _ _ c.loop-rest.invariant.reading none
