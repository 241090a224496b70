use Rattle.std.proofs.Common.{◌≡◌, ◌++◌, ◌∷◌, [], ℕ, List, ◌∙◌, ap, append_assoc, arith, rules}
use Rattle.std.proofs.lemmas.Grind.{common_steps}
use Rattle.dns_label.specs.Symbol.{octet}
use Rattle.dns_scan.proofs.Texts.{reading_end, reading_more, reading_none}
use Rattle.dns_service_parameters.proofs.scan.read_text.Goals as goal

pub returns-in_default-clause-err : goal.returns-in_default-clause-err
returns-in_default-clause-err g c = λ short new spells.
    let so_far = c.loop-rest.invariant in
    let some : c.loop-rest.rest.now ≡ [] → ⊥ = λ none. grind (arith, common_steps) in
    reading_none _ _ _ so_far.1 some c.in_default.ensures.none new spells

pushed : (old done items : List ℕ) (one same : ℕ) → items ≡ old ++ done → one ≡ same → items ++ one ∷ [] ≡ old ++ (done ++ same ∷ [])
pushed old done items one same is value =
    ap (λ (l : List ℕ). l ++ one ∷ []) is ∙ append_assoc old done (one ∷ []) ∙ ap (λ (n : ℕ). old ++ (done ++ n ∷ [])) value

pub loop-rest-preserved : goal.loop-rest-preserved
loop-rest-preserved g c =
    let so_far = c.loop-rest.invariant in
    let found = c.in-Some.ensures.found in
    let old : List ℕ = c.args.octets.now.items in
    let value : c.in-Ok.octet ≡ octet c.in-Some.symbol = search rules in
    let items : c.push.new.self.items ≡ c.loop-rest.octets.items ++ c.in-Ok.octet ∷ [] = search rules in (
      so_far.0 ++ octet c.in-Some.symbol ∷ [],
      reading_more _ _ _ _ c.in-Some.symbol so_far.1 found.0 found.1,
      items ∙ pushed old so_far.0 c.loop-rest.octets.items c.in-Ok.octet (octet c.in-Some.symbol) so_far.2 value,
    )

pub returns-clause-ok : goal.returns-clause-ok
returns-clause-ok g c =
    let so_far = c.loop-rest.invariant in
    let none : c.loop-rest.rest.now ≡ [] = grind (arith, common_steps) in
    (so_far.0, reading_end _ _ _ so_far.1 none, so_far.2)
