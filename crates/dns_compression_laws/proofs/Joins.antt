-- Parts that fit in a message, and what remains of them if a run is taken out.
use Rattle.std.proofs.Common.{◌≡◌, ℕ, ◌≤◌, ◌+◌, false, List, [], ◌∷◌, ◌++◌, length, refl, sym, ap, ◌∙◌, subst, arith, append_assoc}
use Rattle.std.specs.Prelude.{None}
use Rattle.dns_name.specs.Spelling.{Spelling}
use Rattle.dns_name.specs.Page.{Parts}
use Rattle.dns_name.specs.Page.Parts.{End, Octets, Named, Counted}
use Rattle.dns_compression_laws.specs.Cost.{Sameness, same_name, names_in, octets_in, parts_cost, written}
use Rattle.dns_compression_laws.specs.Joined.{join_parts, AreAsLong}
use Rattle.dns_compression_laws.proofs.Sameness.{IsSameness, sameness}
use Rattle.dns_compression_laws.proofs.Costs.{Test, Respects, IsClosed, with_name, cost_by, cost_is, names_before, respects-with_name, closed-with_name}
use Rattle.dns_compression_laws.proofs.Sizes.{AllProper, append-proper, with_names, cost_by-append, written_size}

pub names-join : (a b : Parts) → names_in (join_parts a b) ≡ names_in a ++ names_in b
names-join End b = refl
names-join (Octets text a) b = names-join a b
names-join (Named name a) b = ap (λ (l : List (List (List ℕ))). name ∷ l) (names-join a b)
names-join (Counted inner a) b =
    ap (λ (l : List (List (List ℕ))). names_in inner ++ l) (names-join a b) ∙ sym (append_assoc (names_in inner) (names_in a) (names_in b))

pub octets-join : (a b : Parts) → octets_in (join_parts a b) ≡ octets_in a + octets_in b
octets-join End b = omega arith
octets-join (Octets text a) b = omega (arith, octets-join a b)
octets-join (Named name a) b = octets-join a b
octets-join (Counted inner a) b = omega (arith, octets-join a b)

module _ (same : Sameness) (h : IsSameness same) where
  respects-with_names : (f : Test) (names : List (List (List ℕ))) → Respects same f → Respects same (with_names same f names)
  respects-with_names f [] r = r
  respects-with_names f (name ∷ names) r = respects-with_names (with_name same f name) names (respects-with_name same h f name r)

  closed-with_names : (f : Test) (names : List (List (List ℕ))) → IsClosed f → IsClosed (with_names same f names)
  closed-with_names f [] c = c
  closed-with_names f (name ∷ names) c = closed-with_names (with_name same f name) names (closed-with_name same h f name c)

-- which suffixes are written after parts
after_parts : Spelling → Parts → Test
after_parts s parts = with_names (same_name s) (λ x. false) (names_in parts)

join_cost : (s : Spelling) (a b : Parts)
    → parts_cost s (join_parts a b)
    ≡ octets_in a + octets_in b + cost_by (same_name s) (λ x. false) (names_in a) + cost_by (same_name s) (after_parts s a) (names_in b)
unfolding after_parts
join_cost s a b =
    let is = cost_is (same_name s) [] (names_in (join_parts a b)) ∙ ap (cost_by (same_name s) (λ x. false)) (names-join a b) in
    omega (arith, octets-join a b, is, cost_by-append (same_name s) (λ x. false) (names_in a) (names_in b))

-- a run of names saves no more than it takes
fewer_names : (s : Spelling) (before run after : Parts)
    → cost_by (same_name s) (after_parts s before) (names_in after) ≤ cost_by (same_name s) (after_parts s before) (names_in (join_parts run after))
unfolding after_parts
fewer_names s before run after =
    let less = names_before (same_name s) (sameness s) (with_names (same_name s) (λ x. false) (names_in before))
    (respects-with_names (same_name s) (sameness s) (λ x. false) (names_in before) (λ a b e. refl))
    (closed-with_names (same_name s) (sameness s) (λ x. false) (names_in before) (λ l m p e. e)) (names_in run) (names_in after) in
    let is = ap (cost_by (same_name s) (with_names (same_name s) (λ x. false) (names_in before))) (names-join run after) in
    omega (arith, less, is)

-- what remains takes no more
pub cost_without : (s : Spelling) (before other run after : Parts) → AreAsLong before other
    → parts_cost s (join_parts other after) ≤ parts_cost s (join_parts before (join_parts run after))
unfolding after_parts
cost_without s before other run after alike =
    let less = fewer_names s before run after in
    let first = ap (cost_by (same_name s) (λ x. false)) alike.names in
    let rest = ap (λ (names : List (List (List ℕ))). cost_by (same_name s) (with_names (same_name s) (λ x. false) names) (names_in after)) alike.names in
    omega (arith, join_cost s other after, join_cost s before (join_parts run after), octets-join run after, alike.octets, less, first, rest)

-- and so it fits
pub fits_without : (s : Spelling) (before other run after : Parts) (max : ℕ) → s.most ≡ None → max ≤ 16384 → AreAsLong before other
    → AllProper s.folds (names_in before) → AllProper s.folds (names_in run) → AllProper s.folds (names_in after)
    → length (written s (join_parts before (join_parts run after))) ≤ max → length (written s (join_parts other after)) ≤ max
fits_without s before other run after max any few alike proper_before proper_run proper_after fits =
    let whole : AllProper s.folds (names_in (join_parts before (join_parts run after))) =
    rw (names-join before (join_parts run after), names-join run after) (append-proper s.folds (names_in before) (names_in run ++ names_in after) proper_before (append-proper s.folds (names_in run) (names_in after) proper_run proper_after)) in
    let left : AllProper s.folds (names_in (join_parts other after)) =
    rw (names-join other after) (append-proper s.folds (names_in other) (names_in after) (subst (AllProper s.folds) alike.names proper_before) proper_after) in
    let less = cost_without s before other run after alike in
    let all = written_size s (join_parts before (join_parts run after)) any whole (omega arith) in
    let own = written_size s (join_parts other after) any left (omega arith) in
    omega (arith, all, own)
