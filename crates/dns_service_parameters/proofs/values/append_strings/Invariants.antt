use Rattle.std.proofs.Common.{◌≡◌, ◌+◌, ◌++◌, ℕ, List, length}
use Rattle.std.specs.Prelude.{option_map, unwrap_or}
use Rattle.std.specs.List.{flat_map}
use Rattle.dns_scan.specs.CharStr.{string_wire}
use Rattle.dns_service_parameters.proofs.ServiceStrings.{ListingStrings}
use Rattle.dns_service_parameters.proofs.values.append_strings.Given as goal

abbrev pub invariant-loop-left : goal.invariant-loop-left
invariant-loop-left g l =
    (done : List (List ℕ)) × ListingStrings l.fn.text (option_map (λ text. text.now) l.left) done
    × (l.value.items ≡ l.fn.value.items ++ flat_map string_wire done)

abbrev pub decreases-loop-left : goal.decreases-loop-left
decreases-loop-left g l = unwrap_or (option_map (λ text. length text.now + 1) l.left) 0
