use Rattle.zone_canonical.proofs.Alike.{among_same, same_among}
use Rattle.zone_canonical.proofs.laws.canonical_octets_tell_records_apart.Goals as goal

pub returns : goal.returns
returns c = λ records others octets other_octets each each' is is'. (
  same_among records others octets other_octets each each' is is',
  λ among. among_same records others octets other_octets among.0 among.1 is is',
)
