use Rattle.std.proofs.Common.{◌≡◌, ◌<◌, ◌∙◌, arith, length, sym}
use Rattle.std.proofs.lemmas.Grind.{common_steps}
use Rattle.zone_forms.proofs.ReadBack.{differ, no_other, no_truth, quotes_alike, same_more, texts_alike}
use Rattle.zone_forms.proofs.presenting.have_same_tokens.Goals as goal
use Rattle.zone_forms.proofs.presenting.have_same_tokens.Goals.{then-is_quoted-via-then-is_quoted, then-is_quoted-via-else-is_quoted+then-ne}

pub loop-index-preserved : goal.loop-index-preserved
loop-index-preserved c =
    let same : c.is_quoted.result ≡ c.is_quoted-in-loop-index.result = grind (arith, common_steps) in
    let texts : c.token.result.now ≡ c.token-else-is_quoted.result.now = no_other _ _ c.ne.result c.ne.ensures c.if-ne.false in
    same_more c.args.row c.args.other c.loop-index.index _ _ (omega (arith, c.requires.row, c.loop-index-test.true))
    (omega (arith, c.requires.other, c.loop-index-test.true)) (sym c.is_quoted.ensures ∙ same ∙ c.is_quoted-in-loop-index.ensures) c.token.ensures c.token-else-is_quoted.ensures texts
    c.loop-index.invariant

pub returns-then-is_quoted : goal.returns-then-is_quoted
returns-then-is_quoted c = (
  λ yes. absurd (no_truth yes),
  λ same.
      let less = c.loop-index-test.true in
      let within : c.loop-index.index < length c.args.row.spans.now = omega (arith, c.requires.row, less) in
      let within' : c.loop-index.index < length c.args.other.spans.now = omega (arith, c.requires.other, less) in
      let quotes : c.is_quoted.result ≡ c.is_quoted-in-loop-index.result =
      quotes_alike c.args.row c.args.other less within same _ _ within' c.is_quoted.ensures c.is_quoted-in-loop-index.ensures in
      elim c.then-is_quoted.branch [
        | then-is_quoted-via-then-is_quoted w ↦ (let told = w.if-is_quoted.true in grind (arith, common_steps))
        | then-is_quoted-via-else-is_quoted+then-ne w ↦ absurd
            (differ _ _ w.ne.result w.ne.ensures w.if-ne.true (texts_alike c.args.row c.args.other less within same w.token.ensures w.token-else-is_quoted.ensures))
      ],
)
