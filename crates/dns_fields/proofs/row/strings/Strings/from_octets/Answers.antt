use Rattle.std.proofs.Common.{ℕ, List, subst, rules}
use Rattle.dns_fields.specs.Strings.{AreStringOctets}
use Rattle.dns_fields.proofs.StringsOf.{strings_cut, strings_written}
use Rattle.dns_fields.proofs.row.strings.Strings.from_octets.Goals as goal

pub invariant_of-result : goal.invariant_of-result
invariant_of-result g c =
    strings_cut _ (subst (λ (l : List ℕ). AreStringOctets l) c.octets.ensures (c.are_strings.ensures.0 (search rules)))

pub returns-clause-some : goal.returns-clause-some
returns-clause-some g c =
    strings_written _ (subst (λ (l : List ℕ). AreStringOctets l) c.octets.ensures (c.are_strings.ensures.0 (search rules)))

pub returns-clause-field : goal.returns-clause-field
returns-clause-field g c = let cut = invariant_of-result g c in (cut.0, cut.1.short)
