use Rattle.std.proofs.Common.{◌+◌, ◌≤◌, ◌<◌, ◌^◌, length, rules}
use Rattle.dns_octets.specs.Parser.{octets_of, place_of}
use Rattle.dns_fields.proofs.CutFields.{field_whole}
use Rattle.dns_fields.proofs.ReadFields.{octets_read}
use Rattle.dns_fields.proofs.read.leaves.U16ReadField.read_field.Goals as goal

pub returns-clause-ok : goal.returns-clause-ok
returns-clause-ok c =
    let enough : place_of c.args.parser.now + 2 ≤ length (octets_of c.args.parser.now) = search rules in
    let small : c.in_ok-parse_u16_be.field-0 < 2 ^ 16 = search rules in
    record {
      is_field = small;
      spelled = octets_read (octets_of c.args.parser.now) (place_of c.args.parser.now) _ 2 _ c.in_ok-parse_u16_be.ensures.back enough c.in_ok-parse_u16_be.ensures.place.place;
    }

pub returns-clause-short : goal.returns-clause-short
returns-clause-short c = field_whole (returns-clause-ok c)
