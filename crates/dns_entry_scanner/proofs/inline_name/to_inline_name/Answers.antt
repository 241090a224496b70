use Rattle.std.proofs.Common.{◌++◌, sym, ◌∙◌, ap}
use Rattle.dns_wire.proofs.Case.{wire_one}
use Rattle.dns_wire.proofs.Flat.{flat-written}
use Rattle.dns_entry_scanner.proofs.inline_name.to_inline_name.Goals as goal

pub from_octets_unchecked-requires : goal.from_octets_unchecked-requires
from_octets_unchecked-requires g c =
    flat-written _ (g.N.ToName.name c.args.name.now) c.wire_of-wire.ensures.name
    (c.append.ensures ∙ ap (λ l. l ++ c.as_slice.result.now) c.new-octets.ensures ∙ c.as_slice.ensures ∙ c.wire_of-wire.ensures.octets)

pub returns : goal.returns
returns g c =
    wire_one _ (g.N.ToName.name c.args.name.now)
    (sym c.from_octets_unchecked.ensures ∙ c.append.ensures ∙ ap (λ l. l ++ c.as_slice.result.now) c.new-octets.ensures
    ∙ c.as_slice.ensures ∙ c.wire_of-wire.ensures.octets)
