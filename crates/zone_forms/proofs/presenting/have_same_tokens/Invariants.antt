use Rattle.std.proofs.Common.{◌≡◌, take}
use Rattle.zone_general.specs.Seen.{tokens_in}
use Rattle.zone_forms.proofs.presenting.have_same_tokens.Given as goal

-- so many tokens are the same
abbrev pub invariant-loop-index : goal.invariant-loop-index
invariant-loop-index l = take l.index (tokens_in l.other) ≡ take l.index (tokens_in l.row)
