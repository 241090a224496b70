-- The table is held against the definition at each octet, by computing.
use Rattle.std.proofs.Common.{◌≡◌, ◌+◌, ◌∙◌, ◌<◌, ℕ, Bool, true, get_or, nat_eq, nat_lt, refl, arith}
use Rattle.std.specs.Char.{to_ascii_lowercase}
use Rattle.std.proofs.lemmas.Bool.{agree_below_at}
use Rattle.std.proofs.lemmas.Bool.Decides.{nat_tests}
use Rattle.zone_canonical.specs.declared.owner_key.TheConstants.{DIGITS}
use Rattle.zone_canonical.proofs.owner_key.digit_of.Goals as goal

agrees : ℕ → Bool
agrees octet = nat_eq (get_or DIGITS octet 0) (to_ascii_lowercase octet + 1)

fits : ℕ → Bool
fits octet = nat_lt (get_or DIGITS octet 0) 257

same : (a b : ℕ) → nat_eq a b ≡ true → a ≡ b
same a b is = grind (arith, nat_tests)

below : (a b : ℕ) → nat_lt a b ≡ true → a < b
below a b is = grind (arith, nat_tests)

pub returns-clause-digit : goal.returns-clause-digit
unfolding agrees
returns-clause-digit c = c.from.ensures ∙ same _ _ (agree_below_at agrees (λ octet. true) 256 c.args.octet refl (omega arith))

pub returns-clause-within : goal.returns-clause-within
unfolding fits
returns-clause-within c = omega (arith, c.from.ensures, below _ _ (agree_below_at fits (λ octet. true) 256 c.args.octet refl (omega arith)))
