use Rattle.std.proofs.Common.{ℕ, List, subst}
use Rattle.std.specs.Prelude.{IfNone}
use Rattle.std.specs.Net.Grammar.{IsDotted}
use Rattle.dns_fields.proofs.scan.leaves.read_ipv4.Goals as goal

pub returns-clause-none : goal.returns-clause-none
returns-clause-none c =
    subst (λ (text : List ℕ). IfNone c.ipv4_in.result ((octets : List ℕ) → IsDotted text octets → ⊥)) c.as_bytes.ensures.value c.ipv4_in.ensures.none
