use Rattle.dns_flat.proofs.PartForms.{back_written, is_back, within}
use Rattle.dns_flat.proofs.relative.parts.RelativeName+ref+slice+u8.back.Goals as goal

pub split_at-requires : goal.split_at-requires
split_at-requires c = within c.into_octets.ensures.octets c.requires

pub of_octets-requires : goal.of_octets-requires
of_octets-requires c = back_written c.into_octets.ensures.octets c.into_octets.ensures.name c.requires c.split_at.ensures.back

pub returns : goal.returns
returns c = is_back c.into_octets.ensures.octets c.requires c.split_at.ensures.back c.of_octets.ensures
