use Rattle.std.proofs.Common.{ℕ, List, subst}
use Rattle.std.specs.Prelude.{IfNone}
use Rattle.std.specs.Net.Grammar.{IsColonHex}
use Rattle.dns_scan_data.proofs.field.read_ipv6.Goals as goal

pub returns-clause-none : goal.returns-clause-none
returns-clause-none c =
    subst (λ (text : List ℕ). IfNone c.colon_hex_in.result ((segments : List ℕ) → IsColonHex text segments → ⊥)) c.as_bytes.ensures.value c.colon_hex_in.ensures.none
