use Rattle.std.proofs.Common.{◌≡◌, ◌∙◌, length, ap, arith}
use Rattle.std.proofs.lemmas.Str.{IsUtf8-from_ascii}
use Rattle.dns_label.specs.Labels.{labels_at}
use Rattle.dns_label.specs.Name.{wire}
use Rattle.dns_flat.proofs.PlainNames.{made, wire_some}
use Rattle.dns_flat.proofs.print.plain.plain_text.Goals as goal

pub slice_bounds-behind-count : goal.slice_bounds-behind-count
slice_bounds-behind-count c =
    let octets = c.args.octets.now in
    let whole : length octets ≡ length (wire (labels_at octets 0)) = ap length c.requires.whole in
    omega (arith, whole, wire_some (labels_at octets 0))

pub slice_bounds-behind-start : goal.slice_bounds-behind-start
slice_bounds-behind-start c =
    let octets = c.args.octets.now in
    let whole : length octets ≡ length (wire (labels_at octets 0)) = ap length c.requires.whole in
    omega (arith, whole, wire_some (labels_at octets 0))

pub from_utf8_unchecked-requires : goal.from_utf8_unchecked-requires
from_utf8_unchecked-requires c =
    let is_made = made _ c.requires c.copy_from_slice.ensures.after (omega arith) c.put_behind_labels.ensures
    (c.begins_plain.ensures c.if-not-begins_plain.false) c.put_behind_labels-2.ensures in
    IsUtf8-from_ascii _ is_made.ascii

pub returns : goal.returns
returns c =
    let is_made = made _ c.requires c.copy_from_slice.ensures.after (omega arith) c.put_behind_labels.ensures
    (c.begins_plain.ensures c.if-not-begins_plain.false) c.put_behind_labels-2.ensures in
    c.from_utf8_unchecked.ensures ∙ is_made.printed
