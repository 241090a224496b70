-- The table is held against the definition at each octet, by computing.
use Rattle.std.proofs.Common.{◌≡◌, ℕ, Bool, true, get_or, nat_eq, refl, arith}
use Rattle.std.proofs.lemmas.Bool.{agree_below_at}
use Rattle.std.proofs.lemmas.Bool.Decides.{nat_tests}
use Rattle.dns_scan.specs.Base.{digit_64}
use Rattle.dns_field_texts.specs.declared.base64.TheConstants.{NUMBERS}
use Rattle.dns_field_texts.proofs.base64.number.Goals as goal

agrees : ℕ → Bool
agrees octet = nat_eq (get_or NUMBERS octet 0) (digit_64 octet)

same : (a b : ℕ) → nat_eq a b ≡ true → a ≡ b
same a b is = grind (arith, nat_tests)

pub returns : goal.returns
unfolding agrees
returns c = same _ _ (agree_below_at agrees (λ octet. true) 256 c.args.character refl (omega arith))
