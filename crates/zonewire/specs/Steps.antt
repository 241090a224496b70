-- A source or a sink in memory that takes one step a call.
use Rattle.std.specs.Prelude.{ℕ, ◌-◌, Bool, List, Option, option_map}

-- The octets are those that a source has left, or that a sink has taken. The calls from now on are counted from 1, and
-- the call with the number `fails_at` fails. `failed` says whether a call has failed.
pub record Steps : Type 0 where
  pub octets : List ℕ
  pub fails_at : Option ℕ
  pub failed : Bool

-- the number of the call that fails, after one more call
abbrev pub less_one : Option ℕ → Option ℕ
less_one fails_at = option_map (λ k. k - 1) fails_at
