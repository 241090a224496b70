use Rattle.std.proofs.Common.{rules, refl}
use Rattle.dns_octets.specs.Parser.{octets_of, place_of}
use Rattle.dns_wire.proofs.Flat.{always_on_err}
use Rattle.dns_fields.proofs.ReadFields.{number16_fixed}
use Rattle.dns_fields_more.proofs.Numbers.{gone_over, too_few}
use Rattle.dns_fields_more.proofs.value.number16.Goals as goal

pub returns-in_err-parse_u16_be-clause-err : goal.returns-in_err-parse_u16_be-clause-err
returns-in_err-parse_u16_be-clause-err c =
    always_on_err c.from_residual.result (too_few (octets_of c.args.parser.now) (place_of c.args.parser.now) number16_fixed (let enough = c.parse_u16_be.ensures.enough in search rules))

pub returns-clause-ok : goal.returns-clause-ok
returns-clause-ok c = record {
  is_kind = refl;
  is_field = search rules;
  written = gone_over c.in_ok-parse_u16_be.ensures.back c.in_ok-parse_u16_be.ensures.place;
}
