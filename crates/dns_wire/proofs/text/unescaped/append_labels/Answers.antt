use Rattle.std.proofs.Common.{◌+◌, ◌++◌, ◌∷◌, [], ℕ, length, drop, set, sym, ap, ◌∙◌, arith, subst, append-nil, append_assoc, length-append, refl, ◌≡◌}
use Rattle.std.proofs.lemmas.List.{length-drop, drop_all}
use Rattle.dns_wire.proofs.Pushes.{some_of}
use Rattle.dns_wire.proofs.UnescapedTexts.{LabelsTaken, labels_none, labels_next, labels_whole, length_written}
use Rattle.dns_wire.proofs.text.unescaped.append_labels.Goals as goal

pub loop-start-init : goal.loop-start-init
loop-start-init c =
    let text = c.args.text.now in
    let old = c.args.octets.now.items in (
      omega arith,
      [],
      0,
      refl,
      c.in_ok-extend_from_slice.ensures.items
          ∙ ap (λ l. l ++ text) (c.in_ok-push.ensures.items ∙ ap (λ l. l ++ 0 ∷ []) c.in_ok-reserve.ensures.items)
          ∙ append_assoc old (0 ∷ []) text ∙ ap (λ l. l ++ 0 ∷ text) (sym (append-nil old)),
      labels_none text [] refl,
    )

pub loop-start-preserved : goal.loop-start-preserved
loop-start-preserved c =
    let text = c.args.text.now in
    let old = c.args.octets.now.items in
    let label = c.in-Some.label.now in
    let inv = c.loop-start.invariant in
    let taken = inv.1 in
    let found = c.in-Some.ensures in
    let rest = drop c.loop-start.start text in
    let behind = drop (c.loop-start.start + length label + 1) text in
    let next : c.loop-start.start + length label + 1 ≡ c.loop-start.start + (length label + 1) = omega arith in
    let P : ℕ → Type 0 = λ n. LabelsTaken text (drop n text) (taken ++ length label ∷ label) in (
      omega (arith, ap (length {A = ℕ}) found.whole, length-append label (46 ∷ behind), length-drop c.loop-start.start text, length-drop (c.loop-start.start + length label + 1) text, c.loop-start-test.true),
      taken ++ length label ∷ label,
      46,
      omega (arith, inv.3, length-append taken (length label ∷ label)),
      ap (λ l. set l (c.len-front.result + c.loop-start.start) (length label)) inv.4
          ∙ length_written old taken rest inv.2 (length label) _ (omega (arith, inv.3, c.len-front.ensures))
          ∙ ap (λ l. (old ++ taken) ++ length label ∷ l) found.whole
          ∙ sym (append_assoc (old ++ taken) (length label ∷ label) (46 ∷ behind))
          ∙ ap (λ l. l ++ 46 ∷ behind) (append_assoc old taken (length label ∷ label))
          ∙ ap (λ n. (old ++ (taken ++ length label ∷ label)) ++ 46 ∷ drop n text) next,
      subst P next (labels_next text rest taken label _ _ inv.5 found refl),
    )

pub returns-clause-name : goal.returns-clause-name
returns-clause-name c = λ is.
    let text = c.args.text.now in
    let old = c.args.octets.now.items in
    let inv = c.loop-start.invariant in
    let none = drop_all c.loop-start.start text (omega arith) in
    let whole = labels_whole text (drop c.loop-start.start text) inv.1 _ inv.5
    none (some_of (length text) (sym c.if-is_empty.ensures)) (omega (arith, c.if-text-gt-TEXT_MOST.false)) refl in (
      whole.name,
      whole.spells,
      ap (λ l. set l (c.len-front.result + c.loop-start.start) 0) inv.4
          ∙ length_written old inv.1 (drop c.loop-start.start text) inv.2 0 _ (omega (arith, inv.3, c.len-front.ensures))
          ∙ ap (λ l. (old ++ inv.1) ++ 0 ∷ l) none
          ∙ append_assoc old inv.1 (0 ∷ []) ∙ ap (λ l. old ++ l) whole.written,
    )
