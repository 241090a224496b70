use Rattle.std.proofs.Common.{ap, ◌∙◌}
use Rattle.std.specs.List.{flat_map}
use Rattle.std.proofs.lemmas.Result.{IfOk-weaker}
use Rattle.zone_canonical.specs.Keyed.{form_octets}
use Rattle.zone_canonical.proofs.SortedKeys.{entries_written}
use Rattle.zone_canonical.proofs.octets.canonical.Goals as goal

pub returns : goal.returns
returns c =
    IfOk-weaker c.octets_of.result _ _
    (λ octets written. entries_written c.apex_of.result c.args.records.now c.in_ok-entries.entries.items octets.items
    c.in_ok-entries.ensures (written ∙ ap (flat_map form_octets) c.as_slice.ensures.value))
    c.octets_of.ensures
