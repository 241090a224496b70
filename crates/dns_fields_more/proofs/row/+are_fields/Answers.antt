use Rattle.std.proofs.Common.{arith, rules, length-drop}
use Rattle.dns_octets.specs.Parser.{octets_of, place_of}
use Rattle.dns_fields_more.proofs.Rows.{ended, step}
use Rattle.dns_fields_more.proofs.row.+are_fields.Goals as goal

pub returns-in_default : goal.returns-in_default
returns-in_default t c =
    ended (let cases = c.in_default.ensures.cases in search rules)
    (omega (arith, c.remaining.ensures, length-drop (place_of c.args.parser) (octets_of c.args.parser)))

pub returns-in-Ok : goal.returns-in-Ok
returns-in-Ok t c = step {others = c.in-Some.others.now} {form = c.in-Some.form.now} (let e = c.in-Some.ensures.cases in cc) c.requires c.in-Ok.ensures.ok c.are_fields.ensures
