use Rattle.std.proofs.Common.{◌≡◌, ◌+◌, ◌++◌, ℕ, List, length}
use Rattle.std.specs.Prelude.{option_map, unwrap_or}
use Rattle.std.specs.List.{AllByRecursion, concat}
use Rattle.dns_service_parameters.specs.ServiceText.{IsIpv6}
use Rattle.dns_service_parameters.proofs.ServiceAddresses.{ipv6_bare}
use Rattle.dns_service_parameters.proofs.ServiceLists.{Listing}
use Rattle.dns_service_parameters.proofs.values.append_ipv6s.Given as goal

abbrev pub invariant-loop-left : goal.invariant-loop-left
invariant-loop-left g l =
    (done : List (List ℕ)) × Listing IsIpv6 ipv6_bare l.fn.text (option_map (λ text. text.now) l.left) done
    × AllByRecursion (λ octets. length octets ≡ 16) done × (l.value.items ≡ l.fn.value.items ++ concat done)

abbrev pub decreases-loop-left : goal.decreases-loop-left
decreases-loop-left g l = unwrap_or (option_map (λ text. length text.now + 1) l.left) 0
