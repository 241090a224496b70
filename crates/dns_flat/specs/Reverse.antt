-- The names of addresses (RFC 1035 3.5, RFC 3596 2.5).
use Rattle.std.specs.Prelude.{◌/◌, ◌%◌, ℕ, List, [], ◌∷◌, ◌++◌, false, map, reverse, codes, decimal}
use Rattle.std.specs.Fmt.{digit_glyph}
use Rattle.std.specs.List.{flat_map}
use Rattle.std.specs.Net.Addr.{ipv4_octets, ipv6_octets}
use Rattle.std.specs.declared.net.IpAddr.{IpAddr}
use Rattle.std.specs.declared.net.IpAddr.TheVariants.{V4, V6}

-- the hexadecimal digits of an octet as labels, the low one first
abbrev pub nibble_labels : ℕ → List (List ℕ)
nibble_labels octet = (digit_glyph false (octet % 16) ∷ []) ∷ (digit_glyph false (octet / 16 % 16) ∷ []) ∷ []

-- the octets from the last, each by its decimal digits or by two hexadecimal ones
abbrev pub decimal_labels : List ℕ → List (List ℕ)
decimal_labels octets = map decimal (reverse octets)

abbrev pub hex_labels : List ℕ → List (List ℕ)
hex_labels octets = flat_map nibble_labels (reverse octets)

-- the labels before the last one
abbrev pub zone_labels : IpAddr → List (List ℕ)
zone_labels (V4 addr) = decimal_labels (ipv4_octets addr) ++ codes "in-addr" ∷ []
zone_labels (V6 addr) = hex_labels (ipv6_octets addr) ++ codes "ip6" ∷ []

abbrev pub reverse_name : IpAddr → List (List ℕ)
reverse_name addr = zone_labels addr ++ codes "arpa" ∷ []
