-- A label is its octets.
use Rattle.std.specs.Prelude.{ℕ, List}
use Rattle.dns_label.specs.declared.label.Label.{Label}

abbrev pub label_octets : Label → List ℕ
label_octets label = label.octets.now
