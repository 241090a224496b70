use Rattle.std.proofs.Common.{◌∙◌, ap}
use Rattle.std.specs.Net.Addr.{octets_of}
use Rattle.dns_octets.proofs.Addresses.{octets_of-segments_of}
use Rattle.dns_octets.proofs.parse.ipv6_addr.Goals as goal

pub returns : goal.returns
returns c = ap octets_of c.from_octets.ensures ∙ octets_of-segments_of c.args.octets.now 8 c.told-octets c.fits-octets
