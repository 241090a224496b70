use Rattle.std.proofs.Common.{◌≡◌, ◌∷◌, [], ◌++◌, ℕ, List, Bor, ap, subst, rules}
use Rattle.std.specs.Prelude.{Option, None, option_map}
use Rattle.std.specs.Net.Addr.{ipv4_octets}
use Rattle.std.specs.Net.Grammar.{IsDotted}
use Rattle.dns_service_parameters.proofs.ServiceAddresses.{all_sizes, dotted_bare, dotted_size, ipv4s_appended, no_ipv4s}
use Rattle.dns_service_parameters.proofs.ServiceLists.{Listing, appended_more, listing_end, listing_step, no_step, shrinks}
use Rattle.dns_service_parameters.proofs.values.append_ipv4s.Goals as goal

pub returns-in_default-parse_ascii-clause-err : goal.returns-in_default-parse_ascii-clause-err
returns-in_default-parse_ascii-clause-err g c = λ short.
    let so_far = c.loop-left.invariant in
    let now : Bor (List ℕ) → List ℕ = λ b. b.now in
    let listing = subst (λ (l : Option (List ℕ)). Listing IsDotted dotted_bare c.args.text.now l so_far.0) (ap (option_map now) c.in-Some.is) so_far.1 in
    no_ipv4s (no_step IsDotted dotted_bare now c.args.text.now c.in-Some.items.now c.split_first.result.0.now c.split_first.result.1 so_far.0 listing
    c.split_first.ensures.front c.split_first.ensures.some c.split_first.ensures.none
    (λ octets is. c.in_default-parse_ascii.ensures (record { octets = octets }) is))

pub loop-left-smaller : goal.loop-left-smaller
loop-left-smaller g c =
    let now : Bor (List ℕ) → List ℕ = λ b. b.now in
    shrinks now c.loop-left.left c.in-Some.items c.split_first.result.0.now c.split_first.result.1 c.in-Some.is c.split_first.ensures.some

pub loop-left-preserved : goal.loop-left-preserved
loop-left-preserved g c =
    let so_far = c.loop-left.invariant in
    let now : Bor (List ℕ) → List ℕ = λ b. b.now in
    let octets : List ℕ = ipv4_octets c.in-Ok.address in
    let listing = subst (λ (l : Option (List ℕ)). Listing IsDotted dotted_bare c.args.text.now l so_far.0) (ap (option_map now) c.in-Some.is) so_far.1 in (
      so_far.0 ++ octets ∷ [],
      listing_step IsDotted dotted_bare now c.args.text.now c.in-Some.items.now c.split_first.result.0.now c.split_first.result.1 so_far.0 octets listing
          c.split_first.ensures.front c.split_first.ensures.some c.split_first.ensures.none c.in-Ok.ensures,
      all_sizes 4 so_far.0 octets so_far.2 (dotted_size c.in-Ok.ensures),
      appended_more c.args.value.now.items c.loop-left.value.items c.append_octets.new.octets.items c.octets.result octets so_far.0 so_far.3 c.in_ok-append_octets.ensures.ok (search rules),
    )

pub returns-clause-ok : goal.returns-clause-ok
returns-clause-ok g c =
    let so_far = c.loop-left.invariant in
    let none : c.loop-left.left ≡ None = search rules in
    let now : Bor (List ℕ) → List ℕ = λ b. b.now in
    let listing = subst (λ (l : Option (List ℕ)). Listing IsDotted dotted_bare c.args.text.now l so_far.0) (ap (option_map now) none) so_far.1 in
    ipv4s_appended so_far.0 (listing_end IsDotted dotted_bare c.args.text.now so_far.0 listing) so_far.2 so_far.3
