-- A builder of one section is made from that of another.
use Rattle.std.specs.Prelude.{ℕ}
use Rattle.dns_name.specs.Spelling.{Spelling}
use Rattle.dns_builder.specs.Built.{Built, Draft, IsDraftOf}
use Rattle.dns_builder.specs.Steps.{going_to, KeepsLimits}

-- the new builder has `count` sections started
pub record MovesTo (s : Spelling) (count : ℕ) (old new : Draft) : Type 0 where
  pub built : (built : Built) → IsDraftOf s built old → IsDraftOf s (going_to count built) new
  pub limits : KeepsLimits old new
