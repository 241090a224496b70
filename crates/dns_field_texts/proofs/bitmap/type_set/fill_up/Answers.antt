use Rattle.std.proofs.Common.{◌∙◌, ◌∷◌, ◌++◌, [], List, ℕ, suc, length, replicate, arith, ap, append_assoc, length-append}
use Rattle.dns_field_texts.proofs.TypeBits.{zeros_more}
use Rattle.dns_field_texts.proofs.bitmap.type_set.fill_up.Goals as goal

pub loop-bits-preserved : goal.loop-bits-preserved
loop-bits-preserved c =
    let old = c.args.bits.now.items in
    let at = c.loop-bits.invariant.zeros in
    let items = c.in_ok-push.ensures.items in
    let one = length-append c.loop-bits.bits.items (0 ∷ []) in
    let long = ap length items in
    record {
      zeros = (
        suc at.0,
        items ∙ ap (λ (l : List ℕ). l ++ 0 ∷ []) at.1 ∙ append_assoc old (replicate at.0 0) (0 ∷ []) ∙ ap (λ (l : List ℕ). old ++ l) (zeros_more at.0),
      );
      few = λ small less. omega (arith, long, one);
    }
