-- The names of addresses.
use Rattle.std.proofs.Common.{◌≡◌, ℕ, ◌≤◌, List, [], ◌∷◌, ◌++◌, length, map, reverse, sym, ◌∙◌, ap, subst, arith, append_assoc}
use Rattle.std.specs.Prelude.{◌<◌, ◌^◌, slice_index}
use Rattle.std.specs.List.{AllByRecursion, flat_map}
use Rattle.std.proofs.lemmas.List.{reverse-append}
use Rattle.dns_label.specs.Name.{IsLabel, IsName, wire, labels_wire}
use Rattle.dns_label.specs.Composed.{label_wire}
use Rattle.std.specs.Fmt.{decimal}
use Rattle.std.proofs.lemmas.Fmt.{decimal_nonempty, length-decimal-le}
use Rattle.std.specs.Prelude.{codes}
use Rattle.std.specs.Net.Addr.{ipv4_octets, ipv6_octets}
use Rattle.std.specs.declared.net.ipv4_addr.Ipv4Addr.{Ipv4Addr}
use Rattle.std.specs.declared.net.ipv6_addr.Ipv6Addr.{Ipv6Addr}
use Rattle.std.specs.declared.net.IpAddr.{IpAddr}
use Rattle.std.specs.declared.net.IpAddr.TheVariants.{V4, V6}
use Rattle.dns_flat.specs.Reverse.{reverse_name, zone_labels, decimal_labels, hex_labels, nibble_labels}
use Rattle.dns_wire.proofs.Wire.{wire_is}
use Rattle.dns_wire.proofs.Builds.{each_append, wire_more}

turned : (rest front : List ℕ) (last : ℕ) → rest ≡ front ++ last ∷ [] → reverse rest ≡ last ∷ reverse front
turned rest front last is = ap reverse is ∙ reverse-append front (last ∷ [])

pub decimal_step : (wire made rest front : List ℕ) (last : ℕ) (whole : List ℕ) → wire ++ labels_wire (decimal_labels rest) ≡ whole
    → rest ≡ front ++ last ∷ [] → made ≡ wire ++ label_wire (decimal last) → made ++ labels_wire (decimal_labels front) ≡ whole
decimal_step wire made rest front last whole is splits puts =
    ap (λ l. l ++ labels_wire (decimal_labels front)) puts
    ∙ append_assoc wire (label_wire (decimal last)) (labels_wire (decimal_labels front))
    ∙ ap (λ (o : List ℕ). wire ++ labels_wire (map decimal o)) (sym (turned rest front last splits)) ∙ is

digits_label : (n : ℕ) → n < 2 ^ 8 → IsLabel (decimal n)
digits_label n fits = record {
  some = decimal_nonempty n (omega (arith, fits));
  short = let few = length-decimal-le 3 n (omega arith) (omega (arith, fits)) (omega (arith, fits)) in omega (arith, few);
}

-- the labels of four octets
decimal_each : (octets : List ℕ) → length octets ≡ 4 → ((k : ℕ) → slice_index octets k < 2 ^ 8) → AllByRecursion IsLabel (decimal_labels octets)
decimal_each [] four fit = absurd (omega (arith, four))
decimal_each (a ∷ []) four fit = absurd (omega (arith, four))
decimal_each (a ∷ b ∷ []) four fit = absurd (omega (arith, four))
decimal_each (a ∷ b ∷ c ∷ []) four fit = absurd (omega (arith, four))
decimal_each (a ∷ b ∷ c ∷ d ∷ []) four fit =
    (digits_label d (fit 3), (digits_label c (fit 2), (digits_label b (fit 1), (digits_label a (fit 0), tt))))
decimal_each (a ∷ b ∷ c ∷ d ∷ e ∷ octets) four fit = absurd (omega (arith, four))

hex_each : (octets : List ℕ) → AllByRecursion IsLabel (flat_map nibble_labels octets)
hex_each [] = tt
hex_each (octet ∷ octets) =
    (record { some = omega arith; short = omega arith }, (record { some = omega arith; short = omega arith }, hex_each octets))

zone_more : (octets : List (List ℕ)) (zone : List ℕ) → AllByRecursion IsLabel octets → IsLabel zone → AllByRecursion IsLabel (octets ++ zone ∷ [])
zone_more labels zone each is_zone = each_append labels (zone ∷ []) each (is_zone, tt)

pub v4_each : (addr : Ipv4Addr) (octets : List ℕ) → octets ≡ ipv4_octets addr → length octets ≡ 4 → ((k : ℕ) → slice_index octets k < 2 ^ 8)
    → AllByRecursion IsLabel (zone_labels (V4 addr))
v4_each addr octets is four fit =
    subst (λ (l : List ℕ). AllByRecursion IsLabel (decimal_labels l ++ codes "in-addr" ∷ [])) is
    (zone_more (decimal_labels octets) (codes "in-addr") (decimal_each octets four fit) (record { some = omega arith; short = omega arith }))

pub v6_each : (addr : Ipv6Addr) → AllByRecursion IsLabel (zone_labels (V6 addr))
v6_each addr = zone_more (hex_labels (ipv6_octets addr)) (codes "ip6") (hex_each (reverse (ipv6_octets addr))) (record { some = omega arith; short = omega arith })

-- with the last label and the root they make a name
pub reverse_written : (front second whole : List ℕ) (addr : IpAddr) → front ≡ labels_wire (zone_labels addr)
    → second ≡ front ++ label_wire (codes "arpa") → whole ≡ second ++ 0 ∷ [] → length whole ≤ 255
    → AllByRecursion IsLabel (zone_labels addr) → IsName (reverse_name addr) × (whole ≡ wire (reverse_name addr))
reverse_written front second whole addr is puts ends few each =
    let all : whole ≡ wire (reverse_name addr) =
    ends ∙ ap (λ l. l ++ 0 ∷ []) (puts ∙ wire_more front (zone_labels addr) (codes "arpa") is) ∙ sym (wire_is (reverse_name addr)) in (
      record {
        labels = zone_more (zone_labels addr) (codes "arpa") each (record { some = omega arith; short = omega arith });
        short = omega (arith, ap (length {A = ℕ}) all);
      },
      all,
    )
