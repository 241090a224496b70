use Rattle.std.proofs.Common.{◌+◌, ◌++◌, ◌∷◌, [], ℕ, List, length, drop, set, sym, ap, ◌∙◌, arith, subst, append-nil, append_assoc, length-append, refl, ◌≡◌}
use Rattle.std.proofs.lemmas.List.{length-drop, drop_all}
use Rattle.dns_wire.proofs.Pushes.{some_of}
use Rattle.dns_wire.proofs.UnescapedTexts.{LabelsTaken, labels_none, labels_next, labels_whole, length_written}
use Rattle.dns_entry_scanner.proofs.dotted_name.append_labels.Goals as goal

pub loop-start-init : goal.loop-start-init
loop-start-init c =
    let text = c.args.token.text.now in
    let old = c.args.octets.now.items in
    let has = c.in_ok-append_longer.ensures.ok in (
      omega arith,
      [],
      0,
      has.others,
      refl,
      has.long,
      has.is ∙ append_assoc c.push.new.self.items text has.others
          ∙ ap (λ l. l ++ (text ++ has.others)) c.in_ok-push.ensures.items
          ∙ append_assoc old (0 ∷ []) (text ++ has.others) ∙ ap (λ l. l ++ 0 ∷ (text ++ has.others)) (sym (append-nil old)),
      labels_none text [] refl,
    )

pub loop-start-preserved : goal.loop-start-preserved
loop-start-preserved c =
    let text = c.args.token.text.now in
    let old = c.args.octets.now.items in
    let label = c.in-Some.label.now in
    let inv = c.loop-start.invariant in
    let taken = inv.1 in
    let others = inv.3 in
    let found = c.in-Some.ensures in
    let rest = drop c.loop-start.start text in
    let behind = drop (c.loop-start.start + length label + 1) text in
    let next : c.loop-start.start + length label + 1 ≡ c.loop-start.start + (length label + 1) = omega arith in
    let P : ℕ → Type 0 = λ n. LabelsTaken text (drop n text) (taken ++ length label ∷ label) in (
      omega (arith, ap (length {A = ℕ}) found.whole, length-append label (46 ∷ behind), length-drop c.loop-start.start text, length-drop (c.loop-start.start + length label + 1) text, c.loop-start-test.true),
      taken ++ length label ∷ label,
      46,
      others,
      omega (arith, inv.4, length-append taken (length label ∷ label)),
      inv.5,
      ap (λ l. set l (c.len-front.result + c.loop-start.start) (length label)) inv.6
          ∙ length_written old taken (rest ++ others) inv.2 (length label) _ (omega (arith, inv.4, c.len-front.ensures))
          ∙ ap (λ l. (old ++ taken) ++ length label ∷ l) (ap (λ l. l ++ others) found.whole ∙ append_assoc label (46 ∷ behind) others)
          ∙ sym (append_assoc (old ++ taken) (length label ∷ label) (46 ∷ (behind ++ others)))
          ∙ ap (λ l. l ++ 46 ∷ (behind ++ others)) (append_assoc old taken (length label ∷ label))
          ∙ ap (λ n. (old ++ (taken ++ length label ∷ label)) ++ 46 ∷ (drop n text ++ others)) next,
      subst P next (labels_next text rest taken label _ _ inv.7 found refl),
    )

pub returns-clause-name : goal.returns-clause-name
returns-clause-name c = λ is.
    let text = c.args.token.text.now in
    let old = c.args.octets.now.items in
    let inv = c.loop-start.invariant in
    let none = drop_all c.loop-start.start text (omega arith) in
    let whole = labels_whole text (drop c.loop-start.start text) inv.1 _ inv.7
    none (some_of (length text) (sym c.if-is_empty.ensures)) (omega (arith, c.if-text-gt-TEXT_MOST.false)) refl in (
      whole.name,
      whole.spells,
      record {
        others = inv.3;
        long = inv.5;
        is = ap (λ l. set l (c.len-front.result + c.loop-start.start) 0) inv.6
            ∙ length_written old inv.1 (drop c.loop-start.start text ++ inv.3) inv.2 0 _ (omega (arith, inv.4, c.len-front.ensures))
            ∙ ap (λ l. (old ++ inv.1) ++ 0 ∷ (l ++ inv.3)) none
            ∙ sym (append_assoc (old ++ inv.1) (0 ∷ []) inv.3)
            ∙ ap (λ l. l ++ inv.3) (append_assoc old inv.1 (0 ∷ []) ∙ ap (λ l. old ++ l) whole.written);
      },
    )
