-- Addresses in lists.
use Rattle.std.proofs.Common.{◌≡◌, ◌-◌, ◌*◌, ◌<◌, ◌^◌, ℕ, zero, suc, Bool, true, false, inl, inr, List, [], ◌∷◌, ◌++◌, get_or, length, replicate, refl, sym, ap, subst, arith, length-append}
use Rattle.std.proofs.lemmas.Bool.Decides.{nat_tests}
use Rattle.std.proofs.lemmas.List.{length-replicate}
use Rattle.std.specs.Char.{digit_value}
use Rattle.std.specs.List.{AllByRecursion, concat}
use Rattle.std.specs.Net.Addr.{octets_of}
use Rattle.std.specs.Net.Grammar.{IsColonHex, IsDotted, IsGroupsAfter}
use Rattle.std.specs.Str.Parse.{AllDigits}
use Rattle.dns_scan.proofs.Decoded.{each_append}
use Rattle.dns_service_parameters.specs.declared.form.Form.TheVariants.{Ipv4s, Ipv6s}
use Rattle.dns_service_parameters.specs.Service.{keys, strings, nothing, number, ipv4s, ipv6s, encoded, plain}
use Rattle.dns_service_parameters.specs.ServiceRead.{AppendsValue, SpellsNoValue}
use Rattle.dns_field_texts.specs.Cut.{IsWithout}
use Rattle.dns_service_parameters.specs.ServiceText.{IsIpv6}
use Rattle.dns_service_parameters.proofs.ServiceLists.{IsBareItem, SpellsSome}
use Rattle.dns_service_parameters.proofs.ServiceShown.{IsBare, bare_items, ipv4_bare}

no_comma : (text : List ℕ) → AllByRecursion IsBare text → IsWithout 44 text
no_comma [] bare = tt
no_comma (c ∷ text) bare = (bare.0.2, no_comma text bare.1)

each_dotted : (text octets : List ℕ) → IsDotted text octets → AllByRecursion IsBare text
each_dotted text octets is = subst (AllByRecursion IsBare) (sym is.spelled) (ipv4_bare (is.a ∷ is.b ∷ is.c ∷ is.d ∷ []) small)
  where
    small : (k : ℕ) → get_or (is.a ∷ is.b ∷ is.c ∷ is.d ∷ []) k 0 < 2 ^ 8
    small zero = is.fit.0
    small (suc zero) = is.fit.1
    small (suc (suc zero)) = is.fit.2
    small (suc (suc (suc zero))) = is.fit.3
    small (suc (suc (suc (suc k)))) = omega arith

pub bare_item : (text : List ℕ) → AllByRecursion IsBare text → IsBareItem text
bare_item text all = record { whole = no_comma text all; same = bare_items text all }

pub dotted_bare : (text octets : List ℕ) → IsDotted text octets → IsBareItem text
dotted_bare text octets is = bare_item text (each_dotted text octets is)

pub dotted_size : {text octets : List ℕ} → IsDotted text octets → length octets ≡ 4
dotted_size is = subst (λ (l : List ℕ). length l ≡ 4) (sym is.value) refl

pub all_sizes : (size : ℕ) (done : List (List ℕ)) (octets : List ℕ) → AllByRecursion (λ o. length o ≡ size) done → length octets ≡ size
    → AllByRecursion (λ o. length o ≡ size) (done ++ octets ∷ [])
all_sizes size [] octets all one = (one, tt)
all_sizes size (first ∷ done) octets all one = (all.0, all_sizes size done octets all.1 one)

pub ipv4s_appended : {text old new : List ℕ} (done : List (List ℕ)) → SpellsSome IsDotted dotted_bare text done → AllByRecursion (λ o. length o ≡ 4) done
    → new ≡ old ++ concat done → AppendsValue Ipv4s text old new
ipv4s_appended done reads all behind = record { value = ipv4s done; formed = refl; fits = (reads.some, all); spells = reads.spells; behind = behind }

pub no_ipv4s : {text : List ℕ} → ((each : List (List ℕ)) → SpellsSome IsDotted dotted_bare text each → ⊥) → SpellsNoValue Ipv4s text
no_ipv4s none (keys each) formed fits spells = absurd (cc)
no_ipv4s none (strings each) formed fits spells = absurd (cc)
no_ipv4s none nothing formed fits spells = absurd (cc)
no_ipv4s none (number n) formed fits spells = absurd (cc)
no_ipv4s none (ipv4s each) formed fits spells = none each (record { spells = spells; some = fits.0 })
no_ipv4s none (ipv6s each) formed fits spells = absurd (cc)
no_ipv4s none (encoded octets) formed fits spells = absurd (cc)
no_ipv4s none (plain octets) formed fits spells = absurd (cc)

-- addresses of sixteen octets
hex_bare : (c : ℕ) → digit_value c < 16 → IsBare c
hex_bare c small = (grind (arith, nat_tests), grind (arith, nat_tests), grind (arith, nat_tests), grind (arith, nat_tests), grind (arith, nat_tests))

each_hex : (group : List ℕ) → AllDigits 16 group → AllByRecursion IsBare group
each_hex [] all = tt
each_hex (c ∷ group) all = (hex_bare c all.0, each_hex group all.1)

each_colon : AllByRecursion IsBare (58 ∷ [])
each_colon = ((omega arith, omega arith, (λ same. omega (arith, same)), (λ same. omega (arith, same)), (λ same. omega (arith, same))), tt)

each_groups : (ipv4 : Bool) (lead text segments : List ℕ) → AllByRecursion IsBare lead → IsGroupsAfter ipv4 lead text segments → AllByRecursion IsBare text
each_groups ipv4 lead text [] front is = subst (AllByRecursion IsBare) (sym is) tt
each_groups ipv4 lead text (segment ∷ segments) front (inl is) =
    subst (AllByRecursion IsBare) (sym is.2)
    (each_append IsBare (lead ++ is.0) is.1 (each_append IsBare lead is.0 front (each_hex is.0 is.3.0.0.1))
    (each_groups ipv4 (58 ∷ []) is.1 segments each_colon is.4))
each_groups ipv4 lead text (segment ∷ segments) front (inr is) =
    subst (AllByRecursion IsBare) (sym is.3) (each_append IsBare lead is.0 front (each_dotted is.0 is.1 is.4))

each_colon_hex : (text segments : List ℕ) → IsColonHex text segments → AllByRecursion IsBare text
each_colon_hex text segments (inl is) = each_groups true [] text segments tt is.0
each_colon_hex text segments (inr is) =
    subst (AllByRecursion IsBare) (sym is.spelled)
    (each_append IsBare (is.head_text ++ 58 ∷ 58 ∷ []) is.tail_text
    (each_append IsBare is.head_text (58 ∷ 58 ∷ []) (each_groups false [] is.head_text is.head tt is.head_groups) (each_colon.0, each_colon))
    (each_groups true [] is.tail_text is.tail tt is.tail_groups))

pub ipv6_bare : (text octets : List ℕ) → IsIpv6 text octets → IsBareItem text
ipv6_bare text octets is = bare_item text (each_colon_hex text is.0 is.1)

eight : (text segments : List ℕ) → IsColonHex text segments → length segments ≡ 8
eight text segments (inl is) = is.1
eight text segments (inr is) =
    let zeros : List ℕ = replicate (8 - length is.head - length is.tail) 0 in
    let room = is.room in
    let sizes = ap (length {A = ℕ}) is.value in
    omega (arith, sizes, length-append (is.head ++ zeros) is.tail, length-append is.head zeros, length-replicate {A = ℕ} (8 - length is.head - length is.tail) 0)

double : (segments : List ℕ) → length (octets_of segments) ≡ 2 * length segments
double [] = refl
double (segment ∷ segments) = omega (arith, double segments)

pub ipv6_size : {text octets : List ℕ} → IsIpv6 text octets → length octets ≡ 16
ipv6_size {text} is =
    let segments = eight text is.0 is.1 in let sizes = ap (length {A = ℕ}) is.2 in omega (arith, sizes, segments, double is.0)

pub ipv6s_appended : {text old new : List ℕ} (done : List (List ℕ)) → SpellsSome IsIpv6 ipv6_bare text done → AllByRecursion (λ o. length o ≡ 16) done
    → new ≡ old ++ concat done → AppendsValue Ipv6s text old new
ipv6s_appended done reads all behind = record { value = ipv6s done; formed = refl; fits = (reads.some, all); spells = reads.spells; behind = behind }

pub no_ipv6s : {text : List ℕ} → ((each : List (List ℕ)) → SpellsSome IsIpv6 ipv6_bare text each → ⊥) → SpellsNoValue Ipv6s text
no_ipv6s none (keys each) formed fits spells = absurd (cc)
no_ipv6s none (strings each) formed fits spells = absurd (cc)
no_ipv6s none nothing formed fits spells = absurd (cc)
no_ipv6s none (number n) formed fits spells = absurd (cc)
no_ipv6s none (ipv4s each) formed fits spells = absurd (cc)
no_ipv6s none (ipv6s each) formed fits spells = none each (record { spells = spells; some = fits.0 })
no_ipv6s none (encoded octets) formed fits spells = absurd (cc)
no_ipv6s none (plain octets) formed fits spells = absurd (cc)
