-- No message that spells parts freely is shorter than their cost.
use Rattle.std.proofs.Common.{◌≡◌, ℕ, ◌≤◌, ◌<◌, ◌+◌, ◌⊎◌, inl, inr, Bool, true, false, List, [], ◌∷◌, ◌++◌, length, arith}
use Rattle.std.specs.Prelude.{if◌then◌else◌, None}
use Rattle.std.proofs.lemmas.Bool.{or_left, or_right}
use Rattle.dns_name.specs.Spelling.{Spelling}
use Rattle.dns_name.specs.Page.{Parts}
use Rattle.dns_compression_laws.specs.Cost.{Sameness, same_name, is_suffix_of, name_cost, names_in, octets_in, parts_cost, written}
use Rattle.dns_compression_laws.specs.Free.{Stand, IsOneOf, SpellsNameFreely, SpellsFreely, IsFree}
use Rattle.dns_compression_laws.specs.Free.IsOneOf.{first, later}
use Rattle.dns_compression_laws.specs.Free.SpellsNameFreely.{root, label, pointer}
use Rattle.dns_compression_laws.specs.Free.SpellsFreely.{nothing, octets, named, counted}
use Rattle.dns_compression_laws.proofs.Sameness.{IsSameness, sameness}
use Rattle.dns_compression_laws.proofs.Costs.{Test, with_name, cost_by, cost_is, suffix_self}
use Rattle.dns_compression_laws.proofs.Sizes.{AllProper, with_names, with_names-append, cost_by-append, written_size}

-- each suffix in the message is one that is known to be written before
abbrev pub Covers : Test → List Stand → Type 0
Covers f before = (one : Stand) → IsOneOf one before → f (one.label ∷ one.parent) ≡ true

one-append_cases : {one : Stand} (a b : List Stand) → IsOneOf one (a ++ b) → IsOneOf one a ⊎ IsOneOf one b
one-append_cases [] b is = inr is
one-append_cases (other ∷ a) b first = inl first
one-append_cases (other ∷ a) b (later is) = later_case (one-append_cases a b is)
  where
    later_case : {one other : Stand} {a b : List Stand} → IsOneOf one a ⊎ IsOneOf one b → IsOneOf one (other ∷ a) ⊎ IsOneOf one b
    later_case (inl is) = inl (later is)
    later_case (inr is) = inr is

one_or_later : (Q : Stand → Type 0) {one other : Stand} {all : List Stand} → Q other → (IsOneOf one all → Q one) → IsOneOf one (other ∷ all) → Q one
one_or_later Q here on first = here
one_or_later Q here on (later is) = on is

cost_some : (f : Test) (name : List (List ℕ)) → 0 < name_cost f name
cost_some f [] = omega arith
cost_some f (l ∷ p) = by_test (f (l ∷ p)) (length l) (name_cost f p)
  where
    by_test : (test : Bool) (k x : ℕ) → 0 < (if test then 2 else 1 + k + x)
    by_test true k x = omega arith
    by_test false k x = omega arith

label_step : (test : Bool) (place k x next : ℕ) → place + 1 + k + x ≤ next → 0 < x → place + (if test then 2 else 1 + k + x) ≤ next
label_step true place k x next within some = omega arith
label_step false place k x next within some = omega arith

-- a name takes at least its cost
pub name_lower : {message : List ℕ} {before : List Stand} {place : ℕ} {name : List (List ℕ)} {own : List Stand} {next : ℕ} (f : Test) → Covers f before
    → SpellsNameFreely message before place name own next → place + name_cost f name ≤ next
name_lower f covers (root rest at) = omega arith
name_lower f covers (label {place} {next} {parent} text rest at behind) =
    label_step (f (text ∷ parent)) place (length text) (name_cost f parent) next (name_lower f covers behind) (cost_some f parent)
name_lower f covers (pointer high second rest target at both goes is) = rw (covers target is) (omega arith)

module _ (same : Sameness) (h : IsSameness same) where
  -- the suffixes that a name adds are its own
  own_suffixes : {message : List ℕ} {before : List Stand} {place : ℕ} {name : List (List ℕ)} {own : List Stand} {next : ℕ}
      → SpellsNameFreely message before place name own next → (one : Stand) → IsOneOf one own → is_suffix_of same (one.label ∷ one.parent) name ≡ true
  own_suffixes (root rest at) one is = elim is [ ]
  own_suffixes (label {parent = parent} text rest at behind) one is =
      one_or_later (λ (o : Stand). is_suffix_of same (o.label ∷ o.parent) (text ∷ parent) ≡ true) (suffix_self same h text parent)
      (λ on. or_right (same (text ∷ parent) (one.label ∷ one.parent)) _ (own_suffixes behind one on)) is
  own_suffixes (pointer high second rest target at both goes before) one is =
      one_or_later (λ (o : Stand). is_suffix_of same (o.label ∷ o.parent) (target.label ∷ target.parent) ≡ true) (suffix_self same h target.label target.parent)
      (λ none. elim none [ ]) is

  pub covers-name : {message : List ℕ} {before : List Stand} {place : ℕ} {name : List (List ℕ)} {own : List Stand} {next : ℕ} (f : Test) → Covers f before
      → SpellsNameFreely message before place name own next → Covers (with_name same f name) (own ++ before)
  covers-name {before = before} {name = name} {own = own} f covers spelled one is =
      elim (one-append_cases own before is) [
        | inl mine ↦ or_left (is_suffix_of same (one.label ∷ one.parent) name) _ (own_suffixes spelled one mine)
        | inr there ↦ or_right (is_suffix_of same (one.label ∷ one.parent) name) _ (covers one there)
      ]

  pub record IsLower (f : Test) (place : ℕ) (parts : Parts) (after : List Stand) (next : ℕ) : Type 0 where
    pub long : place + octets_in parts + cost_by same f (names_in parts) ≤ next
    pub covers : Covers (with_names same f (names_in parts)) after

  -- parts take at least their cost
  pub parts_lower : {message : List ℕ} {before : List Stand} {place : ℕ} {parts : Parts} {after : List Stand} {next : ℕ} (f : Test) → Covers f before
      → SpellsFreely message before place parts after next → IsLower f place parts after next
  parts_lower f covers (nothing within) = record { long = omega arith; covers = covers }
  parts_lower f covers (octets text rest at behind) =
      let on = parts_lower f covers behind in
      record { long = omega (arith, on.long); covers = on.covers }
  parts_lower f covers (named {name = name} own place_after spelled more) =
      let one = name_lower f covers spelled in
      let on = parts_lower (with_name same f name) (covers-name f covers spelled) more in
      record { long = omega (arith, on.long); covers = on.covers }
  parts_lower f covers (counted {inner = inner} {parts = parts} count rest inside_after at within inside more) =
      let own = parts_lower f covers inside in
      let on = parts_lower (with_names same f (names_in inner)) own.covers more in
      record {
        long = omega (arith, own.long, on.long, cost_by-append same f (names_in inner) (names_in parts));
        covers = rw with_names-append on.covers;
      }

-- No message that spells parts freely is shorter than their cost.
pub free_lower : (s : Spelling) (message : List ℕ) (parts : Parts) → IsFree message parts → parts_cost s parts ≤ length message
free_lower s message parts free =
    let is = parts_lower (same_name s) (sameness s) (λ x. false) (λ one is. elim is [ ]) free.spelled in
    omega (arith, is.long, cost_is (same_name s) [] (names_in parts))

-- so what is written is no longer, if pointers reach all suffixes
pub free_no_shorter : (s : Spelling) (message : List ℕ) (parts : Parts) → s.most ≡ None → AllProper s.folds (names_in parts) → IsFree message parts
    → length message ≤ 16384 → length (written s parts) ≤ length message
free_no_shorter s message parts any proper free few =
    let lower = free_lower s message parts free in
    let is = written_size s parts any proper (omega (arith, lower)) in
    omega (arith, lower, is)
