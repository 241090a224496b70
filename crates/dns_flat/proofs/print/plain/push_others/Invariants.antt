use Rattle.std.proofs.Common.{◌≡◌, ◌++◌}
use Rattle.dns_flat.specs.PrintedLabels.{printed_behind}
use Rattle.dns_flat.proofs.print.plain.push_others.Given as goal

abbrev pub invariant-loop-label : goal.invariant-loop-label
invariant-loop-label g l = l.text.bytes ++ printed_behind l.label-iterator ≡ l.initial.text.bytes ++ printed_behind l.fn.labels
