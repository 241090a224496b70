use Rattle.std.proofs.Common.{◌∙◌, sym, subst}
use Rattle.dns_wire.specs.Built.{Built, StandsFor, labels_built}
use Rattle.dns_wire.proofs.Flat.{flat-written}
use Rattle.dns_wire.proofs.Case.{wire_one}
use Rattle.dns_wire.proofs.Builds.{stands_name}
use Rattle.dns_flat.proofs.builder.NameBuilder.into_name.Goals as goal

pub from_octets_unchecked-requires : goal.from_octets_unchecked-requires
from_octets_unchecked-requires g c =
    let P : Built → Type 0 = λ b. StandsFor (g.B.Octets'.list c.self.inside.builder) c.self.inside.head b in
    let here = subst P c.self.view_is c.self.invariant in
    let made = stands_name _ _ _ _ here (c.freeze.ensures ∙ c.in_ok-append_slice.ensures.ok) in
    flat-written _ (labels_built c.args.self) made.0 made.1

pub returns-clause-ok : goal.returns-clause-ok
returns-clause-ok g c =
    let P : Built → Type 0 = λ b. StandsFor (g.B.Octets'.list c.self.inside.builder) c.self.inside.head b in
    let here = subst P c.self.view_is c.self.invariant in
    let made = stands_name _ _ _ _ here (c.freeze.ensures ∙ c.in_ok-append_slice.ensures.ok) in
    wire_one c.from_octets_unchecked.result (labels_built c.args.self) (sym c.from_octets_unchecked.ensures ∙ made.1)
