use Rattle.std.proofs.Common.{◌≡◌, ◌∷◌, [], ◌++◌, ℕ, List, Bor, ap, refl, subst, rules}
use Rattle.std.specs.Prelude.{Option, None, option_map}
use Rattle.std.specs.Net.Addr.{ipv6_octets, ipv6_segments}
use Rattle.dns_service_parameters.specs.ServiceText.{IsIpv6}
use Rattle.dns_service_parameters.proofs.ServiceAddresses.{all_sizes, ipv6_bare, ipv6_size, ipv6s_appended, no_ipv6s}
use Rattle.dns_service_parameters.proofs.ServiceLists.{Listing, appended_more, listing_end, listing_step, no_step, shrinks}
use Rattle.dns_service_parameters.proofs.values.append_ipv6s.Goals as goal

pub returns-in_default-parse_ascii-clause-err : goal.returns-in_default-parse_ascii-clause-err
returns-in_default-parse_ascii-clause-err g c = λ short.
    let so_far = c.loop-left.invariant in
    let now : Bor (List ℕ) → List ℕ = λ b. b.now in
    let listing = subst (λ (l : Option (List ℕ)). Listing IsIpv6 ipv6_bare c.args.text.now l so_far.0) (ap (option_map now) c.in-Some.is) so_far.1 in
    no_ipv6s (no_step IsIpv6 ipv6_bare now c.args.text.now c.in-Some.items.now c.split_first.result.0.now c.split_first.result.1 so_far.0 listing
    c.split_first.ensures.front c.split_first.ensures.some c.split_first.ensures.none
    (λ octets is. c.in_default-parse_ascii.ensures (record { segments = is.0 }) is.1))

pub loop-left-smaller : goal.loop-left-smaller
loop-left-smaller g c =
    let now : Bor (List ℕ) → List ℕ = λ b. b.now in
    shrinks now c.loop-left.left c.in-Some.items c.split_first.result.0.now c.split_first.result.1 c.in-Some.is c.split_first.ensures.some

pub loop-left-preserved : goal.loop-left-preserved
loop-left-preserved g c =
    let so_far = c.loop-left.invariant in
    let now : Bor (List ℕ) → List ℕ = λ b. b.now in
    let octets : List ℕ = ipv6_octets c.in-Ok.address in
    let is : IsIpv6 c.split_first.result.0.now octets = (ipv6_segments c.in-Ok.address, c.in-Ok.ensures, refl) in
    let listing = subst (λ (l : Option (List ℕ)). Listing IsIpv6 ipv6_bare c.args.text.now l so_far.0) (ap (option_map now) c.in-Some.is) so_far.1 in (
      so_far.0 ++ octets ∷ [],
      listing_step IsIpv6 ipv6_bare now c.args.text.now c.in-Some.items.now c.split_first.result.0.now c.split_first.result.1 so_far.0 octets listing
          c.split_first.ensures.front c.split_first.ensures.some c.split_first.ensures.none is,
      all_sizes 16 so_far.0 octets so_far.2 (ipv6_size is),
      appended_more c.args.value.now.items c.loop-left.value.items c.append_octets.new.octets.items c.octets.result octets so_far.0 so_far.3 c.in_ok-append_octets.ensures.ok (search rules),
    )

pub returns-clause-ok : goal.returns-clause-ok
returns-clause-ok g c =
    let so_far = c.loop-left.invariant in
    let none : c.loop-left.left ≡ None = search rules in
    let now : Bor (List ℕ) → List ℕ = λ b. b.now in
    let listing = subst (λ (l : Option (List ℕ)). Listing IsIpv6 ipv6_bare c.args.text.now l so_far.0) (ap (option_map now) none) so_far.1 in
    ipv6s_appended so_far.0 (listing_end IsIpv6 ipv6_bare c.args.text.now so_far.0 listing) so_far.2 so_far.3
