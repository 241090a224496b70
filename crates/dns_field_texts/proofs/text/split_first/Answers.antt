use Rattle.std.proofs.Common.{◌≢◌, ◌∷◌, [], ℕ, take, get_or, refl, sym, subst, arith}
use Rattle.std.proofs.lemmas.List.{take_all, take_more}
use Rattle.dns_scan.proofs.Decoded.{each_append}
use Rattle.dns_field_texts.specs.Cut.{IsWithout}
use Rattle.dns_field_texts.proofs.text.split_first.Goals as goal

pub loop-at-preserved : goal.loop-at-preserved
loop-at-preserved c =
    let text = c.args.text.now in
    let at = c.loop-at.at in
    let more = take_more text at 0 (omega arith) in
    let other = λ (octet : ℕ). octet ≢ c.args.wanted in
    (subst (IsWithout c.args.wanted) (sym more) (each_append other (take at text) (get_or text at 0 ∷ []) c.loop-at.invariant.0 (c.if-text-at.false, tt)), omega arith)

pub returns : goal.returns
returns c =
    let whole = take_all c.loop-at.at c.args.text.now (omega arith) in
    record { front = subst (IsWithout c.args.wanted) whole c.loop-at.invariant.0; some = tt; none = refl }
