use Rattle.std.proofs.Common.{◌≡◌, ◌≤◌, ◌-◌, ◌++◌, ◌∷◌, List, ℕ, length, drop}
use Rattle.dns_wire.proofs.UnescapedTexts.{LabelsTaken}
use Rattle.dns_entry_scanner.proofs.dotted_name.append_labels.Given as goal

abbrev pub invariant-loop-start : goal.invariant-loop-start
invariant-loop-start l =
    (l.start ≤ length l.text) × (taken : List ℕ) × (before : ℕ) × (others : List ℕ) × (length taken ≡ l.start) × (length others ≡ l.room)
    × (l.octets.items ≡ (l.fn.octets.items ++ taken) ++ before ∷ (drop l.start l.text ++ others))
    × LabelsTaken l.text (drop l.start l.text) taken

abbrev pub decreases-loop-start : goal.decreases-loop-start
decreases-loop-start l = length l.text - l.start
