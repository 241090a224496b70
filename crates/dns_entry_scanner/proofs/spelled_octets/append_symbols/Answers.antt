use Rattle.std.proofs.Common.{◌≡◌, ◌-◌, ℕ, List, [], ◌∷◌, ◌++◌, drop, length, take, sym, subst, ◌∙◌, ap, arith, append_assoc, append-nil}
use Rattle.std.proofs.lemmas.List.{length-drop, take_all}
use Rattle.std.proofs.lemmas.Grind.{common_steps}
use Rattle.dns_label.specs.Symbol.{octet}
use Rattle.dns_scan.proofs.Texts.{Reading, reading_here, reading_more, reading_end, reading_none}
use Rattle.dns_entry_scanner.proofs.SpelledRuns.{reading_front}
use Rattle.dns_entry_scanner.proofs.spelled_octets.append_symbols.Goals as goal

pub loop-rest-init : goal.loop-rest-init
loop-rest-init c = ([], reading_here _, sym (append-nil c.args.octets.now.items))

pub returns-in_default-clause-err : goal.returns-in_default-clause-err
returns-in_default-clause-err c = λ short octets spells.
    let some : c.loop-rest.rest.now ≡ [] → ⊥ = λ none. grind (arith, common_steps) in
    reading_none _ _ _ c.loop-rest.invariant.1 some c.in_default.ensures.none octets spells

pub returns-clause-ok : goal.returns-clause-ok
returns-clause-ok c =
    let none : c.loop-rest.rest.now ≡ [] = grind (arith, common_steps) in
    (c.loop-rest.invariant.0, reading_end _ _ _ c.loop-rest.invariant.1 none, c.loop-rest.invariant.2)

pub loop-rest-preserved : goal.loop-rest-preserved
loop-rest-preserved c =
    let found = c.in-Some.ensures.found in
    let so_far = c.loop-rest.invariant in (
      so_far.0 ++ octet c.in-Some.symbol ∷ [],
      reading_more _ _ _ _ c.in-Some.symbol so_far.1 found.0 found.1,
      c.in-Ok.ensures.items ∙ ap (λ (n : ℕ). c.loop-rest.octets.items ++ n ∷ []) c.octet_of.ensures
          ∙ ap (λ l. l ++ octet c.in-Some.symbol ∷ []) so_far.2
          ∙ append_assoc c.args.octets.now.items so_far.0 (octet c.in-Some.symbol ∷ []),
    )

pub loop-rest-preserved-then-len-gt0 : goal.loop-rest-preserved-then-len-gt0
loop-rest-preserved-then-len-gt0 c =
    let so_far = c.loop-rest.invariant in
    let rest = c.loop-rest.rest.now in
    let len = c.plain_end-len.result in
    let all = take_all (length rest - len) (drop len rest) (omega (arith, length-drop len rest)) in (
      so_far.0 ++ take len rest,
      subst (λ (l : List ℕ). Reading c.args.text.now l (so_far.0 ++ take len rest)) (sym all)
          (reading_front c.args.text.now rest so_far.0 len so_far.1 c.plain_end-len.ensures.end),
      c.in_ok-extend_from_slice.ensures.items ∙ ap (λ l. l ++ take len rest) so_far.2 ∙ append_assoc c.args.octets.now.items so_far.0 (take len rest),
    )
