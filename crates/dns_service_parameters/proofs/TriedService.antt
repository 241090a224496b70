-- Service parameters tried on examples of RFC 9460 D.2.
use Rattle.std.proofs.Common.{◌≡◌, List, [], ◌∷◌, refl, arith, inl}
use Rattle.std.specs.Prelude.{codes}
use Rattle.std.specs.Fmt.{digits}
use Rattle.dns_service_parameters.specs.Service.{Parameter, name_of, octets_of}
use Rattle.dns_service_parameters.specs.Service.Value.{keys, strings, number, ipv4s, plain}
use Rattle.dns_service_parameters.specs.ServiceText.{SpellsValue, parameter_text}

abbrev port : Parameter
port = record { key = 3; value = number 53 }

-- `alpn="f\\\\oo\\,bar,h2"`, figure 8
abbrev protocols : Parameter
protocols = record { key = 1; value = strings (codes "f\\oo,bar" ∷ codes "h2" ∷ []) }

abbrev listed : Parameter
listed = record { key = 0; value = keys (1 ∷ 4 ∷ []) }

abbrev hint : Parameter
hint = record { key = 4; value = ipv4s ((192 ∷ 0 ∷ 2 ∷ 1 ∷ []) ∷ []) }

abbrev private : Parameter
private = record { key = 667; value = plain (codes "hello") }

-- figures 3, 8 and 4
pub port_octets : octets_of (port ∷ []) ≡ 0 ∷ 3 ∷ 0 ∷ 2 ∷ 0 ∷ 53 ∷ []
port_octets = refl

pub protocols_octets : octets_of (protocols ∷ [])
    ≡ 0 ∷ 1 ∷ 0 ∷ 12 ∷ 8 ∷ 102 ∷ 92 ∷ 111 ∷ 111 ∷ 44 ∷ 98 ∷ 97 ∷ 114 ∷ 2 ∷ 104 ∷ 50 ∷ []
protocols_octets = refl

pub protocols_text : SpellsValue (codes "f\\\\oo\\,bar,h2") protocols.value
protocols_text = refl

pub private_octets : octets_of (private ∷ []) ≡ 2 ∷ 155 ∷ 0 ∷ 5 ∷ 104 ∷ 101 ∷ 108 ∷ 108 ∷ 111 ∷ []
private_octets = refl

-- `mandatory=alpn,ipv4hint`, figure 7
pub listed_octets : octets_of (listed ∷ []) ≡ 0 ∷ 0 ∷ 0 ∷ 4 ∷ 0 ∷ 1 ∷ 0 ∷ 4 ∷ []
listed_octets = refl

-- how they are printed

pub port_printed : parameter_text port ≡ codes "port=53"
unfolding name_of digits
port_printed = refl

pub protocols_printed : parameter_text protocols ≡ codes "alpn=f\\\\\\\\oo\\\\,bar,h2"
unfolding name_of digits
protocols_printed = refl

pub listed_printed : parameter_text listed ≡ codes "mandatory=alpn,ipv4hint"
unfolding name_of digits
listed_printed = refl

pub hint_printed : parameter_text hint ≡ codes "ipv4hint=192.0.2.1"
unfolding name_of digits
hint_printed = refl

pub private_printed : parameter_text private ≡ codes "key667=hello"
unfolding name_of digits
private_printed = refl

-- `mandatory=ipv4hint,alpn`, in another order
pub listed_read : SpellsValue (codes "ipv4hint,alpn") listed.value
unfolding name_of
listed_read = (
  4 ∷ 1 ∷ [],
  (codes "ipv4hint" ∷ codes "alpn" ∷ [], refl, (inl refl, (inl refl, tt))),
  record { moves = (0, 1) ∷ []; below = (omega arith, omega arith, tt); is = refl },
)
