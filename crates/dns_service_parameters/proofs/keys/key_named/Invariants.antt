use Rattle.std.proofs.Common.{◌≡◌, ◌<◌, ℕ, Some}
use Rattle.dns_service_parameters.specs.Service.{name_of}
use Rattle.dns_service_parameters.proofs.keys.key_named.Given as goal

abbrev pub invariant-loop-key : goal.invariant-loop-key
invariant-loop-key l = (k : ℕ) → k < l.key → name_of k ≡ Some l.word → ⊥
