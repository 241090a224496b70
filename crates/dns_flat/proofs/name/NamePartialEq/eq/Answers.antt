use Rattle.dns_wire.proofs.Case.{same_case}
use Rattle.dns_flat.proofs.name.NamePartialEq.eq.Goals as goal

pub returns : goal.returns
returns g c =
    same_case _ _ _ _ _ c.as_slice.ensures.name c.as_slice-2.ensures.name c.as_slice.ensures.octets c.as_slice-2.ensures.octets
    c.eq_ignore_ascii_case.ensures.test.0 c.eq_ignore_ascii_case.ensures.test.1
