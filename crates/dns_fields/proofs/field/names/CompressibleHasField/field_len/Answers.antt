use Rattle.std.proofs.Common.{rules}
use Rattle.dns_fields.proofs.NameOctets.{name_length}
use Rattle.dns_fields.proofs.field.names.CompressibleHasField.field_len.Goals as goal

pub returns : goal.returns
returns g c = name_length _ _ _ (search rules) (g.met.N.ToName.is_absolute c.args.self.now.0)
