use Rattle.dns_zonefile.proofs.ComposedRows.{first_name, first_written}
use Rattle.dns_zonefile.proofs.entry_form.octets.owner_in.Goals as goal

pub from_octets_unchecked-requires : goal.from_octets_unchecked-requires
from_octets_unchecked-requires c = first_written c.requires.1

pub returns : goal.returns
returns c = λ name begins. first_name begins c.from_octets_unchecked.ensures
