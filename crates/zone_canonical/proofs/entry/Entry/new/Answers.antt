use Rattle.std.proofs.Common.{ap, length, subst, sym}
use Rattle.dns_label.specs.Name.{wire}
use Rattle.zone_records.specs.Record.{Record}
use Rattle.zone_records.proofs.StoredRecords.{record_in_whole, stored_of}
use Rattle.zone_canonical.specs.Canonical.{HasCanonicalForm}
use Rattle.zone_canonical.specs.Form.{form_of}
use Rattle.zone_canonical.specs.Keyed.{with_key}
use Rattle.zone_canonical.proofs.entry.Entry.new.Goals as goal

pub invariant_of-result : goal.invariant_of-result
invariant_of-result c =
    let found = record_in_whole c.as_octets.result.now c.args.source.now c.as_octets.ensures.known c.as_octets.ensures.octets in (
      stored_of c.as_octets.result.now _ c.args.source.now c.as_octets.ensures.known c.as_octets.ensures.octets
          (ap (λ (r : Record). length (wire r.owner)) found),
      subst HasCanonicalForm (sym found) c.requires,
    )

pub returns : goal.returns
returns c =
    let found = record_in_whole c.as_octets.result.now c.args.source.now c.as_octets.ensures.known c.as_octets.ensures.octets in
    ap (λ r. with_key c.args.key (form_of r)) found
