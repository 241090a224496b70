use Rattle.std.proofs.Common.{◌∙◌, ap, sym, rules}
use Rattle.dns_label.specs.Name.{low}
use Rattle.dns_wire.proofs.Case.{wire_one}
use Rattle.dns_wire.proofs.Flat.{flat-written}
use Rattle.dns_compress.proofs.lower_case.lowered.Goals as goal

pub from_octets_unchecked-lowered-requires : goal.from_octets_unchecked-lowered-requires
from_octets_unchecked-lowered-requires c = flat-written _ c.args.name.now c.as_slice.ensures.name (search rules)

pub returns-clause-low : goal.returns-clause-low
returns-clause-low c =
    c.make_canonical.ensures
    ∙ ap low (wire_one _ c.args.name.now (sym c.from_octets_unchecked-lowered.ensures ∙ search rules))
