use Rattle.std.proofs.Common.{rules}
use Rattle.std.specs.Net.Addr.{ipv6_segments}
use Rattle.dns_fields.proofs.ShownTokens.{segments_of-octets_of}
use Rattle.dns_fields.proofs.show.leaves.Ipv6AddrShowField.show_field.Goals as goal

pub returns : goal.returns
returns g c = rw (segments_of-octets_of (ipv6_segments c.args.self.now)) (search rules)
