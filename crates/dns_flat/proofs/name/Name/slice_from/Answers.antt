use Rattle.dns_flat.proofs.NameParts.{from_within, from_written, from_is}
use Rattle.dns_flat.proofs.name.Name.slice_from.Goals as goal

pub split_at-requires : goal.split_at-requires
split_at-requires g c = from_within c.as_slice.ensures.octets c.requires

pub from_octets_unchecked-requires : goal.from_octets_unchecked-requires
from_octets_unchecked-requires g c = from_written c.as_slice.ensures.octets c.as_slice.ensures.name c.requires c.split_at.ensures.back

pub returns : goal.returns
returns g c = from_is c.as_slice.ensures.octets c.requires c.split_at.ensures.back c.from_octets_unchecked.ensures
