use Rattle.dns_flat.proofs.PartForms.{front_written, front_is, is_front, within}
use Rattle.dns_flat.proofs.relative.parts.RelativeName+ref+slice+u8.front.Goals as goal

pub split_at-requires : goal.split_at-requires
split_at-requires c = within c.into_octets.ensures.octets c.requires

pub of_octets-requires : goal.of_octets-requires
of_octets-requires c = front_written c.into_octets.ensures.octets c.into_octets.ensures.name c.requires c.split_at.ensures.front

pub returns : goal.returns
returns c = is_front c.requires (front_is c.into_octets.ensures.octets c.requires c.split_at.ensures.front c.of_octets.ensures)
