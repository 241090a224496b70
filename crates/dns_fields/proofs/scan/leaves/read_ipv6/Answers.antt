use Rattle.std.proofs.Common.{ℕ, List, subst}
use Rattle.std.specs.Net.Grammar.{IsIpv6Text, Parses}
use Rattle.dns_fields.proofs.ScanLeaves.{no_colon_hex}
use Rattle.dns_fields.proofs.scan.leaves.read_ipv6.Goals as goal

pub returns-clause-none : goal.returns-clause-none
returns-clause-none c = rw c.ok.ensures.value (no_colon_hex _ c.parse_ascii.result (subst (λ (text : List ℕ). Parses IsIpv6Text text c.parse_ascii.result) c.as_bytes.ensures.value c.parse_ascii.ensures))
