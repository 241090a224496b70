-- The output of jobs, tried on a zone of two records: `a. 60 IN SOA b. c. 1 2 3 4 5` and `a. 60 IN A 1.2.3.4`.
use Rattle.std.proofs.Common.{◌≡◌, ℕ, List, [], ◌∷◌, ◌++◌, None, refl, subst, arith}
use Rattle.std.specs.Prelude.{codes}
use Rattle.std.specs.Fmt.{digits}
use Rattle.std.specs.List.Sorted.{IsStrictlySortedBy}
use Rattle.zone_records.specs.Record.{Record}
use Rattle.dns_rdata.specs.OctetsForm.{typed}
use Rattle.zone_canonical.specs.Canonical.{IsCanonical, IsCanonicalOf, canonical_cmp}
use Rattle.zone_canonical.proofs.Alike.{one_canonical}
use Rattle.zone.proofs.OneFault.{one_reading}
use Rattle.zone.proofs.Tried.{address, address_is_row, address_row, soa, soa_is_row, soa_row, zone, zone_is_text}
use Rattle.zonewire.specs.Output.{IsOutput}
use Rattle.zonewire_words.specs.declared.jobs.Job.TheVariants.{Canon, Check}

-- `zonewire check` writes `2 records` and a line feed.
pub counts_two : IsOutput (Check None 1) zone (codes "2 records" ++ 10 ∷ [])
unfolding digits
counts_two = record { records = soa ∷ address ∷ []; text = zone_is_text None; line = refl }

-- The octets of the two records: an owner and a type come before the class, the TTL, the length and the data.
abbrev pub soa_octets : List ℕ
soa_octets =
    1 ∷ 97 ∷ 0 ∷ 0 ∷ 6 ∷ 0 ∷ 1 ∷ 0 ∷ 0 ∷ 0 ∷ 60 ∷ 0 ∷ 26 ∷ 1 ∷ 98 ∷ 0 ∷ 1 ∷ 99 ∷ 0
    ∷ 0 ∷ 0 ∷ 0 ∷ 1 ∷ 0 ∷ 0 ∷ 0 ∷ 2 ∷ 0 ∷ 0 ∷ 0 ∷ 3 ∷ 0 ∷ 0 ∷ 0 ∷ 4 ∷ 0 ∷ 0 ∷ 0 ∷ 5 ∷ []

abbrev pub address_octets : List ℕ
address_octets = 1 ∷ 97 ∷ 0 ∷ 0 ∷ 1 ∷ 0 ∷ 1 ∷ 0 ∷ 0 ∷ 0 ∷ 60 ∷ 0 ∷ 4 ∷ 1 ∷ 2 ∷ 3 ∷ 4 ∷ []

soa_form : IsCanonicalOf soa soa
soa_form = record { owner = refl; rtype = refl; class = refl; ttl = refl; rdata = typed soa_row soa_is_row refl refl }

address_form : IsCanonicalOf address address
address_form = record { owner = refl; rtype = refl; class = refl; ttl = refl; rdata = typed address_row address_is_row refl refl }

is_canonical : IsCanonical (soa ∷ address ∷ []) (address_octets ++ soa_octets)
unfolding IsStrictlySortedBy canonical_cmp
is_canonical = record {
  forms = address ∷ soa ∷ [];
  ascend = ((refl, tt), (tt, tt));
  only = ((address, (1, omega arith, refl), address_form), ((soa, (0, omega arith, refl), soa_form), tt));
  all = ((soa, (1, omega arith, refl), soa_form), ((address, (0, omega arith, refl), address_form), tt));
  written = refl;
}

-- `zonewire canon` writes the address before the SOA: its type is 1, and that of the SOA 6.
pub address_first : IsOutput (Canon None 1) zone (address_octets ++ soa_octets)
address_first = record { records = soa ∷ address ∷ []; text = zone_is_text None; canonical = is_canonical }

-- It does not write them in the order of the text.
pub no_other_order : IsOutput (Canon None 1) zone (soa_octets ++ address_octets) → ⊥
no_other_order is =
    let records : is.records ≡ soa ∷ address ∷ [] = one_reading zone None 1 is.records (soa ∷ address ∷ []) is.text (zone_is_text None) in
    let other : IsCanonical (soa ∷ address ∷ []) (soa_octets ++ address_octets) =
    subst (λ (rs : List Record). IsCanonical rs (soa_octets ++ address_octets)) records is.canonical in
    let same : address_octets ++ soa_octets ≡ soa_octets ++ address_octets =
    one_canonical (soa ∷ address ∷ []) (address_octets ++ soa_octets) (soa_octets ++ address_octets) is_canonical other in
    cc
