use Rattle.std.proofs.Common.{◌≡◌, List, ℕ, ◌++◌}
use Rattle.std.specs.Fmt.{HasWritten, IsPlainFormatter}
use Rattle.dns_flat.specs.PrintedLabels.{printed_behind}
use Rattle.dns_flat.proofs.print.write_behind.Given as goal

abbrev pub invariant-loop-label : goal.invariant-loop-label
invariant-loop-label g l =
    IsPlainFormatter l.initial.f
    → (text : List ℕ) × (printed_behind l.fn.labels ≡ text ++ printed_behind l.label-iterator) × HasWritten g.W.Write.write_str_gives l.initial.f text l.f
