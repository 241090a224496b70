use Rattle.std.proofs.Common.{◌≡◌, ◌≢◌, ◌<◌, ℕ, length, get_or, ap, sym, subst, arith}
use Rattle.std.proofs.lemmas.Bool.Decides.{nat_tests}
use Rattle.std.proofs.lemmas.List.{nil_from_length}
use Rattle.dns_service_parameters.specs.declared.form.Form.{Form}
use Rattle.dns_service_parameters.specs.ServiceParts.{HoldsValue}
use Rattle.dns_service_parameters.proofs.ServicePieces.{ipv4s_value, ipv6s_value, value_ipv4s, value_ipv6s}
use Rattle.dns_service_parameters.proofs.ServiceValues.{encoded_value, nothing_value, number_value, plain_value, value_encoded, value_nothing, value_number}
use Rattle.dns_service_parameters.proofs.check.is_value.Goals as goal

pub returns-in-Nothing : goal.returns-in-Nothing
returns-in-Nothing c =
    let octets = c.args.octets.now in
    let P = λ (form : Form). HoldsValue form octets in (
      λ yes. let none : length octets ≡ 0 = grind (arith, nat_tests) in subst P (sym c.in-Nothing.is) (nothing_value (nil_from_length octets none)),
      λ holds.
          let none : length octets ≡ 0 = ap (length {A = ℕ}) (value_nothing (subst P c.in-Nothing.is holds)) in grind (arith, nat_tests),
    )

pub returns-in-Number : goal.returns-in-Number
returns-in-Number c =
    let octets = c.args.octets.now in
    let P = λ (form : Form). HoldsValue form octets in
    let small : (i : ℕ) → get_or octets i 0 < 256 = λ i. omega (arith, c.type_inv.octets i) in (
      λ yes. let two : length octets ≡ 2 = grind (arith, nat_tests) in subst P (sym c.in-Number.is) (number_value two small),
      λ holds. let two : length octets ≡ 2 = value_number (subst P c.in-Number.is holds) in grind (arith, nat_tests),
    )

pub returns-in-Ipv4s : goal.returns-in-Ipv4s
returns-in-Ipv4s c =
    let P = λ (form : Form). HoldsValue form c.args.octets.now in (
      λ yes. let is = c.are_pieces.ensures.0 yes in subst P (sym c.in-Ipv4s.is) (ipv4s_value is.0 is.1),
      λ holds. c.are_pieces.ensures.1 (value_ipv4s (subst P c.in-Ipv4s.is holds)),
    )

pub returns-in-Ipv6s : goal.returns-in-Ipv6s
returns-in-Ipv6s c =
    let P = λ (form : Form). HoldsValue form c.args.octets.now in (
      λ yes. let is = c.are_pieces-in-Ipv6s.ensures.0 yes in subst P (sym c.in-Ipv6s.is) (ipv6s_value is.0 is.1),
      λ holds. c.are_pieces-in-Ipv6s.ensures.1 (value_ipv6s (subst P c.in-Ipv6s.is holds)),
    )

pub returns-in-Encoded : goal.returns-in-Encoded
returns-in-Encoded c =
    let octets = c.args.octets.now in
    let P = λ (form : Form). HoldsValue form octets in (
      λ yes.
          let some : length octets ≢ 0 = grind (arith, nat_tests) in
          subst P (sym c.in-Encoded.is) (encoded_value (λ none. some (ap (length {A = ℕ}) none))),
      λ holds.
          let some : length octets ≢ 0 = λ none. value_encoded (subst P c.in-Encoded.is holds) (nil_from_length octets none) in
          grind (arith, nat_tests),
    )

pub returns-in-Plain : goal.returns-in-Plain
returns-in-Plain c =
    let P = λ (form : Form). HoldsValue form c.args.octets.now in
    (λ yes. subst P (sym c.in-Plain.is) plain_value, λ holds. cc)
