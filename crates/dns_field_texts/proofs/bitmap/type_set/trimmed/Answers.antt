use Rattle.std.proofs.Common.{◌≡◌, ◌∙◌, ◌∷◌, ◌++◌, [], List, ℕ, suc, replicate, ap, append_assoc, rules}
use Rattle.dns_field_texts.proofs.bitmap.type_set.trimmed.Goals as goal

pub loop-front-preserved : goal.loop-front-preserved
loop-front-preserved c =
    let front = c.in-Some-eq0-default.front.now in
    let at = c.loop-front.invariant in
    let last : c.loop-front.left.now ≡ front ++ 0 ∷ [] = search rules in
    (suc at.0, at.1 ∙ ap (λ (l : List ℕ). l ++ replicate at.0 0) last ∙ append_assoc front (0 ∷ []) (replicate at.0 0))
