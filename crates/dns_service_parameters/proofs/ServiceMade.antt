-- The value that octets hold, and that there is one.
use Rattle.std.proofs.Common.{◌≡◌, ◌<◌, ◌^◌, ℕ, List, [], ◌∷◌, map, refl, sym, ◌∙◌, ap}
use Rattle.std.specs.Int.{to_be_bytes, w16}
use Rattle.std.specs.List.{AllByRecursion}
use Rattle.dns_service_parameters.specs.declared.form.Form.{Form}
use Rattle.dns_service_parameters.specs.declared.form.Form.TheVariants.{Keys, Strings, Nothing, Number, Ipv4s, Ipv6s, Encoded, Plain}
use Rattle.dns_service_parameters.specs.declared.scan.Written.{Written}
use Rattle.dns_service_parameters.specs.Service.{IsValue, Parameter, Value, keys, strings, nothing, number, ipv4s, ipv6s, encoded, plain, form_at, form_of, value_octets}
use Rattle.dns_service_parameters.specs.ServiceShown.{first_number, items}
use Rattle.dns_service_parameters.proofs.ServicePrinted.{ipv4s_items, ipv6s_items, keys_items, number_first, strings_items}

-- the value of a form that has these octets, if there is one
abbrev pub value_at : Form → List ℕ → Value
value_at Keys octets = keys (map first_number (items Keys octets))
value_at Strings octets = strings (items Strings octets)
value_at Nothing octets = nothing
value_at Number octets = number (first_number octets)
value_at Ipv4s octets = ipv4s (items Ipv4s octets)
value_at Ipv6s octets = ipv6s (items Ipv6s octets)
value_at Encoded octets = encoded octets
value_at Plain octets = plain octets

numbers_back : (each : List ℕ) → AllByRecursion (λ key. (0 < key) × (key < 2 ^ 16)) each → map first_number (map (to_be_bytes w16) each) ≡ each
numbers_back [] small = refl
numbers_back (key ∷ each) small =
    let first = number_first key small.0.1 in let behind = numbers_back each small.1 in λ i. first i ∷ behind i

pub value_back : (value : Value) → IsValue value → value_at (form_of value) (value_octets value) ≡ value
value_back (keys each) fits = ap keys (ap (map first_number) (keys_items each) ∙ numbers_back each fits.1)
value_back (strings each) fits = ap strings (strings_items each)
value_back nothing fits = refl
value_back (number n) fits = ap number (number_first n fits)
value_back (ipv4s each) fits = ap ipv4s (ipv4s_items each fits.1)
value_back (ipv6s each) fits = ap ipv6s (ipv6s_items each fits.1)
value_back (encoded octets) fits = refl
value_back (plain octets) fits = refl

-- the parameter that was read
abbrev pub parameter_of : Written → Parameter
parameter_of written = record { key = written.key; value = value_at (form_at written.key) written.value.items }

pub parameter_back : (parameter : Parameter) (written : Written) → form_of parameter.value ≡ form_at parameter.key → IsValue parameter.value
    → parameter.key ≡ written.key → value_octets parameter.value ≡ written.value.items → parameter ≡ parameter_of written
parameter_back parameter written formed fits key octets =
    let value : parameter.value ≡ value_at (form_at written.key) written.value.items =
    sym (value_back parameter.value fits) ∙ (λ i. value_at ((formed ∙ ap form_at key) i) (octets i)) in
    λ i. record { key = key i; value = value i }

-- two parameters with one key and the same octets
pub parameter_same : (parameter other : Parameter) → form_of parameter.value ≡ form_at parameter.key → form_of other.value ≡ form_at other.key
    → IsValue parameter.value → IsValue other.value → parameter.key ≡ other.key → value_octets parameter.value ≡ value_octets other.value
    → parameter ≡ other
parameter_same parameter other formed also fits holds key octets =
    let forms : form_of parameter.value ≡ form_of other.value = formed ∙ ap form_at key ∙ sym also in
    let value : parameter.value ≡ other.value =
    sym (value_back parameter.value fits) ∙ (λ i. value_at (forms i) (octets i)) ∙ value_back other.value holds in
    λ i. record { key = key i; value = value i }
