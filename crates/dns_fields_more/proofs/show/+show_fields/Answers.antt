use Rattle.std.proofs.Common.{arith, rules, length-drop}
use Rattle.dns_octets.specs.Parser.{octets_of, place_of}
use Rattle.dns_fields_more.proofs.Shown.{fields_ended, fields_step}
use Rattle.dns_fields_more.proofs.show.+show_fields.Goals as goal

pub returns-then-remaining-eq0 : goal.returns-then-remaining-eq0
returns-then-remaining-eq0 g t c =
    fields_ended {count = c.remaining.result} g.F.Formatter.writes c.args.formatter.now (let cases = c.in_default.ensures.cases in search rules)
    (omega (arith, c.remaining.ensures, length-drop (place_of c.args.parser) (octets_of c.args.parser)))
    (let true = c.if-remaining-eq0.true in search rules)

pub returns : goal.returns
returns g t c =
    fields_step g.F.Formatter.writes c.args.formatter.now c.show_value.new.formatter c.show_fields.new.formatter
    (let cases = c.in-Some.ensures.cases in cc) c.in-Ok.ensures.ok c.in_ok-show_value.ensures c.show_fields.result c.show_fields.ensures
