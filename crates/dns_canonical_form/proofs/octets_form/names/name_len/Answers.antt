use Rattle.std.proofs.Common.{◌∙◌, length}
use Rattle.dns_label.specs.Name.{wire}
use Rattle.dns_octets.specs.Parser.{octets_of, place_of}
use Rattle.dns_name.specs.ParsedName.{labels_of}
use Rattle.dns_canonical_form.proofs.OctetsForms.{name_ends, name_found}
use Rattle.dns_canonical_form.proofs.octets_form.names.name_len.Goals as goal

pub returns-in-Ok : goal.returns-in-Ok
returns-in-Ok c name rest is at =
    c.pos.ensures
    ∙ name_ends c.args.octets.now (octets_of c.from_ref-parser.result) (place_of c.from_ref-parser.result) (place_of c.parse_ref.new.parser) name
    (labels_of c.in-Ok.field-0) rest c.from_ref-parser.ensures.octets c.from_ref-parser.ensures.place is at c.in-Ok.ensures.ok

pub returns-in-Err : goal.returns-in-Err
returns-in-Err c name rest is at =
    absurd (c.in-Err.ensures.err name (length (wire name))
    (name_found c.args.octets.now (octets_of c.from_ref-parser.result) (place_of c.from_ref-parser.result) name rest
    c.from_ref-parser.ensures.octets c.from_ref-parser.ensures.place is at))
