-- How many octets written parts take.
use Rattle.std.proofs.Common.{◌≡◌, ℕ, ◌≤◌, ◌+◌, ◌-◌, Bool, false, List, [], ◌∷◌, ◌++◌, length, refl, arith, length-append}
use Rattle.std.specs.Prelude.{None, min}
use Rattle.std.specs.Int.{to_be_bytes, w16}
use Rattle.std.specs.List.{AllByRecursion}
use Rattle.dns_name.specs.Spelling.{Spelling, name_text}
use Rattle.dns_name.specs.Page.{Page, Parts, with_octets, with_count, write, with_name as page_with_name}
use Rattle.dns_name.proofs.WrittenParts.{length-patched, write-long}
use Rattle.dns_name.specs.Page.Parts.{End, Octets, Named, Counted}
use Rattle.dns_name.specs.RecordData.{page_of}
use Rattle.dns_compression_laws.specs.Alike.{HaveNames}
use Rattle.dns_compression_laws.specs.Cost.{Sameness, same_name, name_cost, names_in, octets_in, parts_cost, written}
use Rattle.dns_compression_laws.proofs.Sameness.{Proper, proper_from}
use Rattle.dns_compression_laws.proofs.Costs.{Test, with_name, cost_by, cost_is}
use Rattle.dns_compression_laws.proofs.NameTexts.{Tells, tells_none, name_text_cost, tells-known_after}

-- which suffixes are written after names
abbrev pub with_names : Sameness → Test → List (List (List ℕ)) → Test
with_names same f [] = f
with_names same f (name ∷ names) = with_names same (with_name same f name) names

pub with_names-append : (same : Sameness) (f : Test) (a b : List (List (List ℕ))) → with_names same f (a ++ b) ≡ with_names same (with_names same f a) b
with_names-append same f [] b = refl
with_names-append same f (name ∷ a) b = with_names-append same (with_name same f name) a b

pub cost_by-append : (same : Sameness) (f : Test) (a b : List (List (List ℕ))) → cost_by same f (a ++ b) ≡ cost_by same f a + cost_by same (with_names same f a) b
cost_by-append same f [] b = omega arith
cost_by-append same f (name ∷ a) b = omega (arith, cost_by-append same (with_name same f name) a b)

-- each name is proper
abbrev pub AllProper : Bool → List (List (List ℕ)) → Type 0
AllProper folds names = AllByRecursion (λ name. Proper folds name) names

pub proper-append : (folds : Bool) (a b : List (List (List ℕ))) → AllProper folds (a ++ b) → AllProper folds a × AllProper folds b
proper-append folds [] b all = (tt, all)
proper-append folds (name ∷ a) b all = let on = proper-append folds a b all.1 in ((all.0, on.0), on.1)

pub append-proper : (folds : Bool) (a b : List (List (List ℕ))) → AllProper folds a → AllProper folds b → AllProper folds (a ++ b)
append-proper folds [] b one other = other
append-proper folds (name ∷ a) b one other = (one.0, append-proper folds a b one.1 other)

-- a page's octets, and what it remembers
pub record IsWritten (s : Spelling) (page : Page) (f : Test) (parts : Parts) : Type 0 where
  pub long : length (write s page parts).octets ≡ length page.octets + octets_in parts + cost_by (same_name s) f (names_in parts)
  pub tells : Tells s (write s page parts).known (with_names (same_name s) f (names_in parts))

-- Parts take their cost, if they or the cost end by place 16,384.
pub write_cost : (s : Spelling) (page : Page) (f : Test) (parts : Parts) → s.most ≡ None → Tells s page.known f → AllProper s.folds (names_in parts)
    → min (length page.octets + octets_in parts + cost_by (same_name s) f (names_in parts)) (length (write s page parts).octets) ≤ 16384
    → IsWritten s page f parts
unfolding write
write_cost s page f End any tells labels fits = record { long = omega arith; tells = tells }
write_cost s page f (Octets more parts) any tells labels fits =
    let long = length-append page.octets more in
    let on = write_cost s (with_octets page more) f parts any tells labels (omega arith) in
    record { long = omega (arith, on.long); tells = on.tells }
write_cost s page f (Named name parts) any tells labels fits =
    let place : ℕ = length page.octets in
    let next : Page = page_with_name s page name in
    let longer = write-long s next parts in
    let joined = length-append page.octets (name_text s page.known place name) in
    let own : length (name_text s page.known place name) ≡ name_cost f name = name_text_cost s page.known f place name any tells labels.0 (omega arith) in
    let known = tells-known_after s page.known f place name any tells labels.0 (omega arith) in
    let on = write_cost s next (with_name (same_name s) f name) parts any known labels.1 (omega arith) in
    record { long = omega (arith, on.long); tells = on.tells }
write_cost s page f (Counted inner parts) any tells labels fits =
    let place : ℕ = length page.octets in
    let begun : Page = with_octets page (0 ∷ 0 ∷ []) in
    let counted : Page = write s begun inner in
    let next : Page = with_count place counted in
    let both = proper-append s.folds (names_in inner) (names_in parts) labels in
    let marked = length-append page.octets (0 ∷ 0 ∷ []) in
    let within = write-long s begun inner in
    let patched_long = length-patched counted.octets place (to_be_bytes w16 (length counted.octets - (place + 2))) (omega arith) in
    let longer = write-long s next parts in
    let split = cost_by-append (same_name s) f (names_in inner) (names_in parts) in
    let own = write_cost s begun f inner any tells both.0 (omega arith) in
    let on = write_cost s next (with_names (same_name s) f (names_in inner)) parts any own.tells both.1 (omega (arith, own.long)) in
    record {
      long = omega (arith, own.long, on.long);
      tells = rw with_names-append on.tells;
    }

-- The octets that are written are as many as the cost, if either is at most 16,384.
pub written_size : (s : Spelling) (parts : Parts) → s.most ≡ None → AllProper s.folds (names_in parts)
    → min (parts_cost s parts) (length (written s parts)) ≤ 16384
    → length (written s parts) ≡ parts_cost s parts
written_size s parts any proper fits =
    let e = cost_is (same_name s) [] (names_in parts) in
    let is = write_cost s (page_of [] []) (λ x. false) parts any (tells_none s) proper (omega arith) in
    omega (arith, is.long)

-- names that are names are proper, and any are if nothing is folded
pub names_proper : (folds : Bool) (parts : Parts) → HaveNames parts → AllProper folds (names_in parts)
names_proper folds End all = tt
names_proper folds (Octets more parts) all = names_proper folds parts all
names_proper folds (Named name parts) all = (proper_from folds name all.0.labels, names_proper folds parts all.1)
names_proper folds (Counted inner parts) all =
    append-proper folds (names_in inner) (names_in parts) (names_proper folds inner all.0) (names_proper folds parts all.1)

pub any_proper : (names : List (List (List ℕ))) → AllProper false names
any_proper [] = tt
any_proper (name ∷ names) = (tt, any_proper names)
