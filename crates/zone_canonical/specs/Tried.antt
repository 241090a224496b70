-- Examples of the definitions, with a zone in full.
use Rattle.std.specs.Prelude.{◌≡◌, ℕ, List, [], ◌∷◌, refl}
use Rattle.std.specs.List.Sorted.{IsStrictlySortedBy}
use Rattle.std.specs.declared.cmp.Ordering.TheVariants.{Less}
use Rattle.std.proofs.Common.{arith}
use Rattle.dns_label.specs.Name.{IsName}
use Rattle.dns_rdata.specs.Fields.{Field, number32, ipv4, compressible, octets, IsRow}
use Rattle.zone_records.specs.Record.{Record}
use Rattle.dns_rdata.specs.OctetsForm.{typed}
use Rattle.zone_canonical.specs.Canonical.{IsCanonical, IsCanonicalOf, canonical_cmp}

abbrev soa_row : List Field
soa_row =
    compressible ((98 ∷ []) ∷ []) ∷ compressible ((99 ∷ []) ∷ []) ∷ number32 1 ∷ number32 2 ∷ number32 3 ∷ number32 4 ∷ number32 5 ∷ []

abbrev address_row : List Field
address_row = ipv4 (1 ∷ 2 ∷ 3 ∷ 4 ∷ []) ∷ []

-- `a. 60 IN SOA b. c. 1 2 3 4 5`
abbrev soa : Record
soa = record { owner = (97 ∷ []) ∷ []; rtype = 6; class = 1; ttl = 60; rdata = octets soa_row }

-- `A. 60 IN A 1.2.3.4`, and the same in lower case
abbrev capital : Record
capital = record { owner = (65 ∷ []) ∷ []; rtype = 1; class = 1; ttl = 60; rdata = octets address_row }

abbrev address : Record
address = record { owner = (97 ∷ []) ∷ []; rtype = 1; class = 1; ttl = 60; rdata = octets address_row }

-- `*.a. 60 IN A 1.2.3.4`
abbrev wildcard : Record
wildcard = record { owner = (42 ∷ []) ∷ (97 ∷ []) ∷ []; rtype = 1; class = 1; ttl = 60; rdata = octets address_row }

short_name : (octet : ℕ) → IsName ((octet ∷ []) ∷ [])
short_name octet = record { labels = (record { some = omega arith; short = omega arith }, tt); short = omega arith }

soa_is_row : IsRow 6 soa_row
soa_is_row = record {
  kinds = refl;
  each = (short_name 98, (short_name 99, (omega arith, (omega arith, (omega arith, (omega arith, (omega arith, tt)))))));
  short = omega arith;
}

address_is_row : IsRow 1 address_row
address_is_row = record { kinds = refl; each = (refl, tt); short = omega arith }

soa_form : IsCanonicalOf soa soa
soa_form = record { owner = refl; rtype = refl; class = refl; ttl = refl; rdata = typed soa_row soa_is_row refl refl }

capital_form : IsCanonicalOf capital address
capital_form = record { owner = refl; rtype = refl; class = refl; ttl = refl; rdata = typed address_row address_is_row refl refl }

address_form : IsCanonicalOf address address
address_form = record { owner = refl; rtype = refl; class = refl; ttl = refl; rdata = typed address_row address_is_row refl refl }

-- the address is written once, before the SOA
pub zone_records : IsCanonical (soa ∷ capital ∷ address ∷ [])
    (1 ∷ 97 ∷ 0 ∷ 0 ∷ 1 ∷ 0 ∷ 1 ∷ 0 ∷ 0 ∷ 0 ∷ 60 ∷ 0 ∷ 4 ∷ 1 ∷ 2 ∷ 3 ∷ 4
    ∷ 1 ∷ 97 ∷ 0 ∷ 0 ∷ 6 ∷ 0 ∷ 1 ∷ 0 ∷ 0 ∷ 0 ∷ 60 ∷ 0 ∷ 26 ∷ 1 ∷ 98 ∷ 0 ∷ 1 ∷ 99 ∷ 0
    ∷ 0 ∷ 0 ∷ 0 ∷ 1 ∷ 0 ∷ 0 ∷ 0 ∷ 2 ∷ 0 ∷ 0 ∷ 0 ∷ 3 ∷ 0 ∷ 0 ∷ 0 ∷ 4 ∷ 0 ∷ 0 ∷ 0 ∷ 5 ∷ [])
unfolding IsStrictlySortedBy canonical_cmp
zone_records = record {
  forms = address ∷ soa ∷ [];
  ascend = ((refl, tt), (tt, tt));
  only = ((address, (2, omega arith, refl), address_form), ((soa, (0, omega arith, refl), soa_form), tt));
  all = ((soa, (1, omega arith, refl), soa_form), ((address, (0, omega arith, refl), capital_form), ((address, (0, omega arith, refl), address_form), tt)));
  written = refl;
}

-- a name comes before the names under it, whatever their types
pub apex_first : canonical_cmp soa wildcard ≡ Less
unfolding canonical_cmp
apex_first = refl
