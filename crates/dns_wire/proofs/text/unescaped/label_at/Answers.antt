use Rattle.std.proofs.Common.{◌∷◌, ◌∙◌, ap, arith, refl, sym}
use Rattle.std.proofs.lemmas.List.{take_rest}
use Rattle.dns_wire.proofs.Pushes.{some_of}
use Rattle.dns_wire.proofs.UnescapedTexts.{label_found}
use Rattle.dns_wire.proofs.text.unescaped.label_at.Goals as goal

pub returns-in-Some-eq46-default : goal.returns-in-Some-eq46-default
returns-in-Some-eq46-default c =
    label_found c.args.text.now _ _ c.args.start c.run_end-end.result c.run_end-end.ensures.end c.requires refl
    (sym (take_rest c.args.text.now c.run_end-end.result) ∙ c.in-Some-eq46-default.ensures.cases.0 ∙ ap (λ octet. octet ∷ c.in-Some-eq46-default.field-0-1.now) c.in-Some-eq46-default.field-0-0-test)
    (some_of _ (sym c.if-not-is_empty.ensures)) (omega (arith, c.if-label-le-LABEL_MOST.true))
