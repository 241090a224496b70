use Rattle.std.proofs.Common.{◌≡◌, ◌∙◌, ap, map, length, ℕ}
use Rattle.std.specs.Char.{to_ascii_lowercase}
use Rattle.std.proofs.lemmas.List.{length-map}
use Rattle.dns_label.specs.Name.{labels_wire, low}
use Rattle.dns_wire.proofs.LowNames.{low_name, low_labels_wire, refilled}
use Rattle.dns_flat.proofs.PartForms.{length-labels_wire-low}
use Rattle.dns_flat.proofs.wire_form.lowered_labels_of.Goals as goal

pub returns-clause-octets : goal.returns-clause-octets
returns-clause-octets g c =
    let name = g.N.ToLabelIter.labels c.args.name.now in
    let is = c.flat_octets-octets.ensures in
    let lowered : c.make_ascii_lowercase.new.self ≡ labels_wire (low name) =
    c.make_ascii_lowercase.ensures.after ∙ ap (map to_ascii_lowercase) (c.as_mut_slice.ensures.value ∙ is) ∙ low_labels_wire name c.as_flat_slice-flat.ensures.name.labels in
    let items = c.flat_octets-octets.result.items in
    let new = c.make_ascii_lowercase.new.self in
    let long : length new ≡ length items =
    ap (length {A = ℕ}) (c.make_ascii_lowercase.ensures.after ∙ ap (map to_ascii_lowercase) c.as_mut_slice.ensures.value) ∙ length-map items to_ascii_lowercase in
    refilled items new long ∙ lowered

pub returns-clause-name : goal.returns-clause-name
returns-clause-name g c = low_name (g.N.ToLabelIter.labels c.args.name.now) c.as_flat_slice-flat.ensures.name

pub returns-clause-long : goal.returns-clause-long
returns-clause-long g c =
    ap (length {A = ℕ}) (returns-clause-octets g c) ∙ length-labels_wire-low (g.N.ToLabelIter.labels c.args.name.now)
