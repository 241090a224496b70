use Rattle.std.proofs.Common.{◌∙◌, sym}
use Rattle.dns_wire.specs.Built.{labels_built}
use Rattle.dns_flat.proofs.BuiltNames.{stands_seen, built_name}
use Rattle.dns_wire.proofs.FlatForms.{relative-written, labels_wire_one}
use Rattle.dns_flat.proofs.builder.NameBuilder.finish.Goals as goal

pub of_octets-requires : goal.of_octets-requires
of_octets-requires g c =
    let here = stands_seen c.self.view_is c.self.invariant in
    relative-written _ (labels_built c.args.self) (built_name here) (c.freeze.ensures ∙ here.whole)

pub returns : goal.returns
returns g c =
    let here = stands_seen c.self.view_is c.self.invariant in
    labels_wire_one c.of_octets.result (labels_built c.args.self) (sym c.of_octets.ensures ∙ c.freeze.ensures ∙ here.whole)
