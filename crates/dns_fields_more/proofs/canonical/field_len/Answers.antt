use Rattle.std.proofs.Common.{◌≡◌, arith, length-drop, subst, drop}
use Rattle.dns_octets.specs.Parser.{octets_of, place_of, rest_of}
use Rattle.dns_fields_more.specs.Values.{StandsIn, field_of}
use Rattle.dns_fields_more.proofs.Lowered.{long_of}
use Rattle.dns_fields_more.proofs.canonical.field_len.Goals as goal

pub returns-in-Ok-clause-len : goal.returns-in-Ok-clause-len
returns-in-Ok-clause-len c =
    let whole : rest_of c.from_ref-parser.result ≡ c.args.octets.now =
    λ i. drop (c.from_ref-parser.ensures.place i) (c.from_ref-parser.ensures.octets i) in
    long_of
    (subst (λ l. StandsIn c.args.form l (field_of c.args.form c.in-Ok.field-0) (rest_of c.parse.new.parser)) whole c.in-Ok.ensures.ok)
    (omega (arith, c.remaining.ensures, length-drop (place_of c.parse.new.parser) (octets_of c.parse.new.parser)))
    c.saturating_sub.ensures
