use Rattle.std.proofs.Common.{◌∙◌, ◌++◌, ap, sym}
use Rattle.std.specs.Ordering.{nat_cmp}
use Rattle.std.specs.Cmp.Lexicographic.{slice_cmp}
use Rattle.dns_fields.specs.Fields.{field_octets, lowered, canonical_octets}
use Rattle.dns_fields.proofs.Prefixes.{same_front}
use Rattle.dns_fields.proofs.octets_ord.Tuple2RowOctetsOrd.canonical_fields_cmp_octets.Goals as goal

pub returns-in-Ok : goal.returns-in-Ok
returns-in-Ok g c =
    let first = field_octets (lowered (g.A.HasField.field c.args.self.now.0)) in
    let others = canonical_octets (g.B.HasFields.fields c.args.self.now.1) in
    c.canonical_fields_cmp_octets.ensures ∙ sym (same_front first others c.in-Ok.behind.now)
    ∙ ap (slice_cmp nat_cmp (first ++ others)) (sym c.in-Ok.ensures.ok)
