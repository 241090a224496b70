-- The octets of one name are as many as its cost, and what is then remembered is what is written.
use Rattle.std.proofs.Common.{◌≡◌, ℕ, ◌≤◌, ◌<◌, ◌+◌, Bool, true, false, ◌||◌, List, [], ◌∷◌, ◌++◌, length, refl, sym, ap, ◌∙◌, subst, arith, length-append}
use Rattle.std.specs.Prelude.{if◌then◌else◌, Option, Some, None, is_some, min}
use Rattle.std.specs.List.{list_all}
use Rattle.std.proofs.lemmas.Bool.{true≢false, false≢true, lt-ltb, and_from}
use Rattle.dns_label.specs.Name.{wire}
use Rattle.dns_octets.specs.Builder.{Standing, Known}
use Rattle.dns_name.specs.Spelling.{Spelling, is_near, is_same, remembered_form, place_in, may_stand, split_from, split_text, name_text, if_near, known_after}
use Rattle.dns_compression_laws.specs.Cost.{same_name, is_suffix_of, name_cost}
use Rattle.dns_compression_laws.proofs.Sameness.{sameness, is_same-form, Proper, proper_parent}
use Rattle.dns_compression_laws.proofs.Texts.{text_by, text_from, added_by, added_from, text_is, known_is}
use Rattle.dns_compression_laws.proofs.Costs.{Test, Respects, IsClosed, with_name, covered, respects-with_name, closed-with_name}

-- what is remembered is what is written before
pub record Tells (s : Spelling) (known : Known) (f : Test) : Type 0 where
  pub agrees : (l : List ℕ) (p : List (List ℕ)) → Proper s.folds (l ∷ p) → is_some (place_in s known (wire (l ∷ p))) ≡ f (l ∷ p)
  pub respects : Respects (same_name s) f
  pub closed : IsClosed f

-- nothing is remembered, and nothing is written before
pub tells_none : (s : Spelling) → Tells s [] (λ x. false)
tells_none s = record { agrees = λ l p labels. refl; respects = λ a b e. refl; closed = λ l m p e. e }

-- if any number is remembered, a label may be remembered at each place that a pointer reaches
may_stand_near : (s : Spelling) (count place : ℕ) → s.most ≡ None → place < 16384 → may_stand s count place ≡ true
may_stand_near s count place any near = rw any (by_far s.far)
  where
    by_far : (far : Bool) → (if far then true else is_near place) ≡ true
    by_far true = refl
    by_far false = lt-ltb place 16384 near

text_step : (place : ℕ) (found : Option ℕ) (there before : Bool) (first : ℕ) (full label behind : List ℕ) (x : ℕ)
    → is_some found ≡ before → (place < 16384 → there ≡ true)
    → place + min (if before then 2 else 1 + length label + x) (length (text_by found there (first ∷ full) (length label ∷ label ++ behind))) ≤ 16384
    → (place + 1 + length label + min x (length behind) ≤ 16384 → length behind ≡ x)
    → length (text_by found there (first ∷ full) (length label ∷ label ++ behind)) ≡ (if before then 2 else 1 + length label + x)
text_step place (Some target) there true first full label behind x e near fits on = omega arith
text_step place (Some target) there false first full label behind x e near fits on = absurd (true≢false e)
text_step place None there true first full label behind x e near fits on = absurd (false≢true e)
text_step place None false false first full label behind x e near fits on = absurd (false≢true (near (omega arith)))
text_step place None true false first full label behind x e near fits on =
    let long = length-append label behind in
    let more = on (omega arith) in
    omega arith

-- A name's octets, if they or the cost end by place 16,384.
pub text_cost : (s : Spelling) (known : Known) (f : Test) (count place : ℕ) (name : List (List ℕ)) → s.most ≡ None → Tells s known f → Proper s.folds name
    → place + min (name_cost f name) (length (text_from s known count place name)) ≤ 16384
    → length (text_from s known count place name) ≡ name_cost f name
unfolding text_from
text_cost s known f count place [] any tells labels fits = omega arith
text_cost s known f count place (label ∷ parent) any tells labels fits =
    text_step place (place_in s known (wire (label ∷ parent))) (may_stand s count place) (f (label ∷ parent)) (length label) (label ++ wire parent) label
    (text_from s known (count + 1) (place + 1 + length label) parent) (name_cost f parent)
    (tells.agrees label parent labels) (may_stand_near s count place any) fits
    (text_cost s known f (count + 1) (place + 1 + length label) parent any tells (proper_parent s.folds label parent labels))

near_step : (found : Option ℕ) (there before : Bool) (first : Standing) (behind : Known) (k x : ℕ)
    → is_some found ≡ before → first.place + (if before then 2 else 1 + k + x) ≤ 16384
    → (first.place + 1 + k + x ≤ 16384 → list_all (λ (standing : Standing). is_near standing.place) behind ≡ true)
    → list_all (λ (standing : Standing). is_near standing.place) (added_by found there first behind) ≡ true
near_step (Some target) there before first behind k x e fits on = refl
near_step None false before first behind k x e fits on = refl
near_step None true true first behind k x e fits on = absurd (false≢true e)
near_step None true false first behind k x e fits on =
    and_from (is_near first.place) _ (lt-ltb first.place 16384 (omega arith)) (on (omega arith))

added_near : (s : Spelling) (known : Known) (f : Test) (count place stop : ℕ) (name : List (List ℕ)) → Tells s known f → Proper s.folds name
    → place + name_cost f name ≤ 16384 → list_all (λ (standing : Standing). is_near standing.place) (added_from s known count place stop name) ≡ true
unfolding added_from
added_near s known f count place stop [] tells labels fits = refl
added_near s known f count place stop (label ∷ parent) tells labels fits =
    near_step (place_in s known (wire (label ∷ parent))) (may_stand s count place) (f (label ∷ parent))
    (record { suffix = remembered_form s (label ∷ parent); place = place; stop = stop }) (added_from s known (count + 1) (place + 1 + length label) stop parent)
    (length label) (name_cost f parent) (tells.agrees label parent labels) fits
    (added_near s known f (count + 1) (place + 1 + length label) stop parent tells (proper_parent s.folds label parent labels))

or_covered : (own fx : Bool) → (own ≡ true → fx ≡ true) → fx ≡ (own || fx)
or_covered true fx e = e refl
or_covered false fx e = refl

added_step : (s : Spelling) (found : Option ℕ) (there before : Bool) (first : Standing) (behind : Known) (x : List ℕ) (place k n : ℕ) (own more fx : Bool)
    → is_some found ≡ before → (place < 16384 → there ≡ true) → place + (if before then 2 else 1 + k + n) ≤ 16384
    → (before ≡ true → (own || more) ≡ true → fx ≡ true)
    → is_same s first.suffix x ≡ own
    → (place + 1 + k + n ≤ 16384 → (is_some (place_in s behind x) || fx) ≡ (more || fx))
    → (is_some (place_in s (added_by found there first behind) x) || fx) ≡ ((own || more) || fx)
added_step s (Some target) there true first behind x place k n own more fx e near fits cover is on = or_covered (own || more) fx (cover refl)
added_step s (Some target) there false first behind x place k n own more fx e near fits cover is on = absurd (true≢false e)
added_step s None there true first behind x place k n own more fx e near fits cover is on = absurd (false≢true e)
added_step s None false false first behind x place k n own more fx e near fits cover is on = absurd (false≢true (near (omega arith)))
added_step s None true false first behind x place k n true more fx e near fits cover is on = rw is refl
added_step s None true false first behind x place k n false more fx e near fits cover is on = rw is (on (omega arith))

-- what a name adds is its new suffixes
added_agrees : (s : Spelling) (known : Known) (f : Test) (count place stop : ℕ) (name : List (List ℕ)) → s.most ≡ None → Tells s known f → Proper s.folds name
    → place + name_cost f name ≤ 16384 → (l : List ℕ) (p : List (List ℕ)) → Proper s.folds (l ∷ p)
    → (is_some (place_in s (added_from s known count place stop name) (wire (l ∷ p))) || f (l ∷ p)) ≡ with_name (same_name s) f name (l ∷ p)
unfolding added_from
added_agrees s known f count place stop [] any tells labels fits l p is = refl
added_agrees s known f count place stop (label ∷ parent) any tells labels fits l p is =
    added_step s (place_in s known (wire (label ∷ parent))) (may_stand s count place) (f (label ∷ parent))
    (record { suffix = remembered_form s (label ∷ parent); place = place; stop = stop }) (added_from s known (count + 1) (place + 1 + length label) stop parent)
    (wire (l ∷ p)) place (length label) (name_cost f parent)
    (same_name s (label ∷ parent) (l ∷ p)) (is_suffix_of (same_name s) (l ∷ p) parent) (f (l ∷ p))
    (tells.agrees label parent labels) (may_stand_near s count place any) fits
    (λ there own. covered (same_name s) (sameness s) f tells.respects tells.closed (l ∷ p) label parent there own)
    (is_same-form s (label ∷ parent) (l ∷ p) labels is)
    (λ more. added_agrees s known f (count + 1) (place + 1 + length label) stop parent any tells (proper_parent s.folds label parent labels) more l p is)

-- what is remembered of two
found-append : (s : Spelling) (known more : Known) (x : List ℕ) → is_some (place_in s (known ++ more) x) ≡ (is_some (place_in s known x) || is_some (place_in s more x))
found-append s [] more x = refl
found-append s (first ∷ known) more x = by_test (is_same s first.suffix x) refl (found-append s known more x)
  where
    by_test : (test : Bool) → is_same s first.suffix x ≡ test
        → is_some (place_in s (known ++ more) x) ≡ (is_some (place_in s known x) || is_some (place_in s more x))
        → is_some (place_in s (first ∷ known ++ more) x) ≡ (is_some (place_in s (first ∷ known) x) || is_some (place_in s more x))
    by_test true is on = rw is refl
    by_test false is on = rw is on

or_turn : (a b : Bool) → (a || b) ≡ (b || a)
or_turn true true = refl
or_turn true false = refl
or_turn false true = refl
or_turn false false = refl

-- all of them are near
near_all : (added : Known) → list_all (λ (standing : Standing). is_near standing.place) added ≡ true → if_near added ≡ added
near_all added near = rw near refl

tells-added : (s : Spelling) (known : Known) (f : Test) (place stop : ℕ) (name : List (List ℕ)) → s.most ≡ None → Tells s known f → Proper s.folds name
    → place + name_cost f name ≤ 16384
    → Tells s (known ++ added_from s known (length known) place stop name) (with_name (same_name s) f name)
tells-added s known f place stop name any tells labels fits = record {
  agrees = λ l p is.
      found-append s known (added_from s known (length known) place stop name) (wire (l ∷ p))
      ∙ ap (λ (b : Bool). b || is_some (place_in s (added_from s known (length known) place stop name) (wire (l ∷ p)))) (tells.agrees l p is)
      ∙ or_turn (f (l ∷ p)) _
      ∙ added_agrees s known f (length known) place stop name any tells labels fits l p is;
  respects = respects-with_name (same_name s) (sameness s) f name tells.respects;
  closed = closed-with_name (same_name s) (sameness s) f name tells.closed;
}

-- After a name, what is remembered is what was written before and the name's suffixes.
pub tells-known_after : (s : Spelling) (known : Known) (f : Test) (place : ℕ) (name : List (List ℕ)) → s.most ≡ None → Tells s known f → Proper s.folds name
    → place + name_cost f name ≤ 16384 → Tells s (known_after s known place name) (with_name (same_name s) f name)
tells-known_after s known f place name any tells labels fits =
    let stop : ℕ = place + length (split_text s known (split_from s known (length known) place name)) in
    let added : Known = added_from s known (length known) place stop name in
    let near = added_near s known f (length known) place stop name tells labels fits in
    let is : known_after s known place name ≡ known ++ added = known_is s known place name ∙ ap (λ (k : Known). known ++ k) (near_all added near) in
    let P : Known → Type 0 = λ k. Tells s k (with_name (same_name s) f name) in
    subst P (sym is) (tells-added s known f place stop name any tells labels fits)

-- the same of a name that is written
pub name_text_cost : (s : Spelling) (known : Known) (f : Test) (place : ℕ) (name : List (List ℕ)) → s.most ≡ None → Tells s known f → Proper s.folds name
    → place + min (name_cost f name) (length (name_text s known place name)) ≤ 16384
    → length (name_text s known place name) ≡ name_cost f name
name_text_cost s known f place name any tells labels fits =
    let is = ap (length {A = ℕ}) (text_is s known place name) in
    is ∙ text_cost s known f (length known) place name any tells labels (omega (arith, is))
