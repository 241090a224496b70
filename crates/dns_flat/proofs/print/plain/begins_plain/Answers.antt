use Rattle.std.proofs.Common.{◌≡◌, ◌≤◌, ◌+◌, ◌-◌, ◌∙◌, ℕ, List, map, take, drop, not, sym, ap, arith}
use Rattle.std.specs.Simd.Lanes.{mask_l}
use Rattle.std.proofs.lemmas.List.{take-take}
use Rattle.dns_label.specs.Printed.{is_printed_as_itself}
use Rattle.dns_label.proofs.OctetRuns.{run_on}
use Rattle.dns_flat.proofs.print.plain.begins_plain.Goals as goal

abbrev others : List ℕ → ℕ
others octets = mask_l (map (λ octet. not (is_printed_as_itself octet)) octets)

pub loop-place-init : goal.loop-place-init
loop-place-init c = record { run = omega arith; loads = 0; whole = omega arith }

pub loop-place-preserved : goal.loop-place-preserved
loop-place-preserved c =
    let text = c.args.text.now in
    let place = c.loop-place.place in
    let at = c.loop-place.invariant in
    let room : place + 16 ≤ 256 = omega (arith, at.whole) in
    let loaded : take 16 (take (256 - place) (drop place text)) ≡ take 16 (drop place text) =
    take-take 16 (256 - place) (drop place text) (omega arith) in
    let none : others (take 16 (drop place text)) ≡ 0 = ap others (sym loaded) ∙ sym c.others.ensures ∙ c.if-others-ne0.false in
    let on = run_on is_printed_as_itself text place 16 (omega arith) none in
    record { run = omega (arith, on, at.run); loads = at.loads + 1; whole = omega (arith, at.whole) }
