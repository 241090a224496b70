use Rattle.std.proofs.Common.{◌≡◌, drop, rules, subst}
use Rattle.dns_octets.specs.Parser.{rest_of}
use Rattle.dns_fields_more.specs.Text.{ShowsFields}
use Rattle.dns_fields_more.proofs.Shown.{further_shown}
use Rattle.dns_fields_more.proofs.show.show_further.Goals as goal

pub returns : goal.returns
returns g c =
    let whole : rest_of c.from_ref.result ≡ c.args.octets.now =
    λ i. drop (c.from_ref.ensures.place i) (c.from_ref.ensures.octets i) in
    further_shown c.args.rtype g.F.Formatter.writes c.args.formatter.now c.open_block.new.self c.show_fields.new.formatter c.close_block.new.self
    c.in-Some.ensures.some (search rules) c.in_ok-open_block.ensures
    (subst (λ l. ShowsFields g.F.Formatter.writes c.in-Some.forms.now l c.open_block.new.self c.show_fields.new.formatter) whole
    c.in_ok-show_fields.ensures) c.close_block.result c.close_block.ensures
