use Rattle.dns_fields.proofs.StringsOf.{strings_cut, strings_written}
use Rattle.dns_fields.proofs.row.strings.Strings.of_strings.Goals as goal

pub invariant_of-result : goal.invariant_of-result
invariant_of-result g c = strings_cut _ c.requires

pub returns : goal.returns
returns g c = strings_written _ c.requires
