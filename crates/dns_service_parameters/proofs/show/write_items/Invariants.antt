use Rattle.std.proofs.Common.{◌≡◌, ℕ, List, ◌++◌, length}
use Rattle.std.specs.Fmt.{HasWritten, IsPlainFormatter}
use Rattle.dns_scan.specs.StringText.{unquoted_text}
use Rattle.dns_service_parameters.specs.ServiceShown.{items, shown_items}
use Rattle.dns_service_parameters.proofs.ServiceShown.{behind_text}
use Rattle.dns_service_parameters.proofs.show.write_items.Given as goal

abbrev pub invariant-loop-item : goal.invariant-loop-item
invariant-loop-item g l =
    IsPlainFormatter l.fn.f
    → (done : List ℕ) × HasWritten g.W.Write.write_str_gives l.fn.f done l.f
    × (done ++ behind_text l.form (items l.form l.rest) ≡ unquoted_text (shown_items l.form l.octets))

abbrev pub decreases-loop-item : goal.decreases-loop-item
decreases-loop-item g l = length l.rest
