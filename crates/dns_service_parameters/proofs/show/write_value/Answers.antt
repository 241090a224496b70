use Rattle.std.proofs.Common.{◌≡◌, ◌<◌, ◌^◌, ℕ, decimal, get_or, sym, ◌∙◌, ap, subst, arith}
use Rattle.std.specs.Fmt.{HasWritten}
use Rattle.dns_scan.specs.StringText.{unquoted_text}
use Rattle.dns_service_parameters.specs.declared.form.Form.{Form}
use Rattle.dns_service_parameters.specs.ServiceShown.{shown_value}
use Rattle.dns_service_parameters.proofs.ServiceShown.{bare_text, decimal_bare, encoded_plain}
use Rattle.dns_service_parameters.proofs.show.write_value.Goals as goal

pub returns-in-Number : goal.returns-in-Number
returns-in-Number g c = λ plain ok.
    let shown = λ (form : Form). unquoted_text (shown_value form c.args.octets.now) in
    let n = c.first_number-number.result in
    let text : decimal n ≡ shown c.args.form =
    sym (bare_text (decimal n) (decimal_bare n (omega (arith, c.first_number-number.type_inv))))
    ∙ ap (λ k. unquoted_text (decimal k)) c.first_number-number.ensures ∙ ap shown (sym c.in-Number.is) in
    subst (λ l. HasWritten g.W.Write.write_str_gives c.args.f.now l c.write.new.self) text (c.write.ensures.writes plain ok)

pub returns-in-Encoded : goal.returns-in-Encoded
returns-in-Encoded g c = λ plain ok.
    let octets = c.args.octets.now in
    let shown = λ (form : Form). unquoted_text (shown_value form octets) in
    let small : (k : ℕ) → get_or octets k 0 < 2 ^ 8 = λ k. omega (arith, c.type_inv.octets k) in
    let text : c.display.result ≡ shown c.args.form = c.display.ensures ∙ sym (encoded_plain octets small) ∙ ap shown (sym c.in-Encoded.is) in
    subst (λ l. HasWritten g.W.Write.write_str_gives c.args.f.now l c.write-in-Encoded.new.self) text (c.write-in-Encoded.ensures.writes plain ok)
