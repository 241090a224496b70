use Rattle.std.proofs.Common.{◌≡◌, ◌∙◌, ◌<◌, ◌%◌, ap, arith, subst, sym}
use Rattle.std.proofs.Math.Nat.{mod-eq_of_lt}
use Rattle.dns_header.specs.Header.{rcode_of}
use Rattle.dns_header.specs.HeaderFields.{HeaderFields}
use Rattle.dns_header.specs.OptFields.{OptParts, opt_fields, extended_rcode}
use Rattle.dns_sections.specs.Message.{octets_in}
use Rattle.dns_sections.specs.Options.{HasResponseCode}
use Rattle.dns_sections.proofs.message.Message.opt_rcode.Goals as goal

pub returns-in-Some : goal.returns-in-Some
returns-in-Some g c =
    let message = octets_in g.Octs.Octets.list c.args.self.now in
    let some = c.in-Some.ensures.some in
    let low : rcode_of c.header-header.result ≡ rcode_of message = ap (λ (f : HeaderFields). f.rcode) c.header-header.ensures.said in
    let code : c.rcode.result ≡ extended_rcode (opt_fields some.0.class some.0.ttl) (rcode_of message) =
    c.rcode.ensures ∙ ap (λ (o : OptParts). extended_rcode o.fields (rcode_of c.header-header.result)) some.2
    ∙ ap (λ n. extended_rcode (opt_fields some.0.class some.0.ttl) n) low in
    subst (λ n. HasResponseCode message n) (sym code) (HasResponseCode.extended some.1)

pub returns-in-None : goal.returns-in-None
returns-in-None g c =
    let message = octets_in g.Octs.Octets.list c.args.self.now in
    let low : rcode_of c.header-header.result ≡ rcode_of message = ap (λ (f : HeaderFields). f.rcode) c.header-header.ensures.said in
    let number : c.to_int.result ≡ rcode_of message = c.to_int.ensures.value ∙ c.rcode-in-None.ensures ∙ low in
    let few : c.to_int.result < 4096 = omega (arith, c.to_int.ensures.four_bits) in
    let code : c.masked_from_int.result ≡ rcode_of message =
    c.masked_from_int.ensures ∙ ap (λ n. n % 4096) c.from.ensures ∙ mod-eq_of_lt few ∙ number in
    subst (λ n. HasResponseCode message n) (sym code) (HasResponseCode.plain c.in-None.ensures.none)
