-- The octets of a name, borrowed or written out.
use Rattle.std.specs.Prelude.{ℕ, List}
use Rattle.dns_flat.specs.declared.wire_form.FlatWire.{FlatWire}
use Rattle.dns_flat.specs.declared.wire_form.FlatWire.TheVariants.{Lent, Written}

abbrev pub octets_in : FlatWire → List ℕ
octets_in (Lent octets) = octets.now
octets_in (Written octets) = octets.items
