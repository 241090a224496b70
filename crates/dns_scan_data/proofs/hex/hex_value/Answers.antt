-- The table is held against the definition at each octet, by computing.
use Rattle.std.proofs.Common.{◌≡◌, ℕ, Bool, true, get_or, nat_eq, refl, arith}
use Rattle.std.specs.Char.{digit_value}
use Rattle.std.proofs.lemmas.Bool.{agree_below_at}
use Rattle.std.proofs.lemmas.Bool.Decides.{nat_tests}
use Rattle.dns_scan_data.specs.declared.hex.TheConstants.{VALUES}
use Rattle.dns_scan_data.proofs.hex.hex_value.Goals as goal

agrees : ℕ → Bool
agrees octet = nat_eq (get_or VALUES octet 0) (digit_value octet)

same : (a b : ℕ) → nat_eq a b ≡ true → a ≡ b
same a b is = grind (arith, nat_tests)

pub returns : goal.returns
unfolding agrees
returns c = same _ _ (agree_below_at agrees (λ octet. true) 256 c.args.octet refl (omega arith))
