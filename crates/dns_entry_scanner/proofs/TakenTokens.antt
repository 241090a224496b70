-- The tokens that a scanner took, and those that are left.
use Rattle.std.proofs.Common.{◌≡◌, ◌+◌, ℕ, zero, suc, Bool, true, false, nat_lt, List, [], ◌∷◌, ◌++◌, length, map, take, drop, refl, ◌∙◌, ap, subst, arith, length-drop}
use Rattle.std.proofs.lemmas.Bool.{ltb-false, ltb-true}
use Rattle.std.proofs.lemmas.List.{drop-drop, drop-map, drop_all, length-map}
use Rattle.dns_scan.specs.Token.{Token}
use Rattle.dns_entry_scanner.specs.Gap.{end_in, gap_before, place_after}
use Rattle.dns_entry_scanner.specs.TokenSpan.{token_in}
use Rattle.dns_entry_scanner.specs.declared.token_span.TokenSpan.{TokenSpan}

abbrev tokens : List ℕ → List TokenSpan → List Token
tokens text spans = map (λ span. token_in text span) spans

-- one token fewer is left
pub left_after : (text : List ℕ) (taken : ℕ) (spans : List TokenSpan)
    → drop 1 (tokens text (drop taken spans)) ≡ tokens text (drop (taken + 1) spans)
left_after text taken spans = drop-map (λ span. token_in text span) 1 (drop taken spans) ∙ ap (tokens text) (drop-drop 1 taken spans)

-- some are left if fewer were taken than there are
pub some_left : (text : List ℕ) (taken : ℕ) (spans : List TokenSpan) → nat_lt taken (length spans) ≡ true
    → tokens text (drop taken spans) ≡ [] → ⊥
some_left text taken spans more none =
    let fewer = ltb-true taken (length spans) more in
    omega (arith, fewer, ap (length {A = Token}) none, length-map (drop taken spans) (λ span. token_in text span), length-drop taken spans)

not_none : (more : Bool) → (more ≡ false → ⊥) → more ≡ true
not_none true some = refl
not_none false some = absurd (some refl)

pub fewer_taken : (text : List ℕ) (taken : ℕ) (spans : List TokenSpan) → (tokens text (drop taken spans) ≡ [] → ⊥)
    → nat_lt taken (length spans) ≡ true
fewer_taken text taken spans some =
    not_none (nat_lt taken (length spans)) (λ no. some (ap (tokens text) (drop_all taken spans (ltb-false taken (length spans) no))))

-- the place after the last of the tokens
pub place_last : (text : List ℕ) (place : ℕ) (front : List TokenSpan) (last : TokenSpan)
    → place_after text place (front ++ last ∷ []) ≡ end_in text last
place_last text place [] last = refl
place_last text place (span ∷ front) last = place_last text (end_in text span) front last

-- the gap after the next token
gap_next : (text : List ℕ) (place taken : ℕ) (all : List TokenSpan) (span : TokenSpan) (spans : List TokenSpan)
    → drop taken all ≡ span ∷ spans
    → gap_before text (place_after text place (take (suc taken) all)) (drop (suc taken) all) ≡ gap_before text (end_in text span) spans
gap_next text place zero [] span spans is = absurd cc
gap_next text place (suc taken) [] span spans is = absurd cc
gap_next text place zero (first ∷ all) span spans is =
    let same : first ≡ span = cc in
    let others : all ≡ spans = cc in
    ap (λ s. gap_before text (end_in text s) all) same ∙ ap (gap_before text (end_in text span)) others
gap_next text place (suc taken) (first ∷ all) span spans is = gap_next text (end_in text first) taken all span spans is

pub gap_taken : (text : List ℕ) (place taken : ℕ) (all : List TokenSpan) (span : TokenSpan) (spans : List TokenSpan)
    → drop taken all ≡ span ∷ spans
    → gap_before text (place_after text place (take (taken + 1) all)) (drop (taken + 1) all) ≡ gap_before text (end_in text span) spans
gap_taken text place taken all span spans is =
    let next : suc taken ≡ taken + 1 = omega arith in
    subst (λ n. gap_before text (place_after text place (take n all)) (drop n all) ≡ gap_before text (end_in text span) spans) next
    (gap_next text place taken all span spans is)
