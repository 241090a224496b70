use Rattle.std.proofs.Common.{◌+◌, ◌≤◌, length, refl, rules}
use Rattle.dns_octets.specs.Parser.{octets_of, place_of}
use Rattle.dns_fields.proofs.CutFields.{field_whole}
use Rattle.dns_fields.proofs.ReadFields.{octets_read, long_take, fixed_sole, ipv4_fixed}
use Rattle.dns_fields.proofs.read.leaves.Ipv4AddrReadField.read_field.Goals as goal

pub returns-in-Ok-clause-ok : goal.returns-in-Ok-clause-ok
returns-in-Ok-clause-ok c =
    let enough : place_of c.args.parser.now + 4 ≤ length (octets_of c.args.parser.now) = search rules in
    record {
      is_field = long_take (octets_of c.args.parser.now) (place_of c.args.parser.now) 4 _ c.in-Ok.ensures.ok enough;
      spelled = octets_read (octets_of c.args.parser.now) (place_of c.args.parser.now) _ 4 _ c.in-Ok.ensures.ok enough c.in-Ok.ensures.place.place;
    }

pub returns-in-Ok-clause-sole : goal.returns-in-Ok-clause-sole
returns-in-Ok-clause-sole c = fixed_sole ipv4_fixed refl (returns-in-Ok-clause-ok c)

pub returns-in-Ok-clause-short : goal.returns-in-Ok-clause-short
returns-in-Ok-clause-short c = field_whole (returns-in-Ok-clause-ok c)
