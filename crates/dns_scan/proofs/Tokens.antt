-- The tokens that are left of texts.
use Rattle.std.proofs.Common.{◌≡◌, ℕ, ◌≤◌, zero, suc, refl, List, [], ◌∷◌, length, map, drop, sym, ◌∙◌, ap, subst, arith, nat_eq}
use Rattle.std.specs.Prelude.{IsTrue, Result, Ok, Err, IfErr, OnOk, OnErr}
use Rattle.std.specs.Borrow.{Bor}
use Rattle.std.proofs.lemmas.List.{length-map, length-drop, drop_all}
use Rattle.std.proofs.lemmas.Bool.Decides.{nat_tests}
use Rattle.dns_scan.specs.Token.{Token, Takes, IsEnding, unquoted}

pub told : (a b : ℕ) → IsTrue (nat_eq a b) → a ≡ b
told a b test = grind (arith, nat_tests)

pub tells : (a b : ℕ) → a ≡ b → IsTrue (nat_eq a b)
tells a b same = grind (arith, nat_tests)

abbrev pub left : List (Bor (List ℕ)) → ℕ → List Token
left texts place = map (λ text. unquoted text.now) (drop place texts)

pub none_left : (texts : List (Bor (List ℕ))) (place : ℕ) → place ≡ length texts → left texts place ≡ []
none_left texts place same = ap (map (λ text. unquoted text.now)) (drop_all place texts (omega arith))

pub all_taken : (texts : List (Bor (List ℕ))) (place : ℕ) → place ≤ length texts → left texts place ≡ [] → place ≡ length texts
all_taken texts place within none =
    let size = ap (length {A = Token}) none in
    omega (arith, size, length-map (drop place texts) (λ text. unquoted text.now), length-drop place texts)

-- after the first token
pub one_less : (texts : List (Bor (List ℕ))) (place : ℕ) → left texts (suc place) ≡ drop 1 (left texts place)
one_less [] zero = refl
one_less [] (suc place) = refl
one_less (text ∷ texts) zero = refl
one_less (text ∷ texts) (suc place) = one_less texts place

-- one token is taken
pub one_taken : (before left : List Token) (token : Token) → before ≡ token ∷ left → IsEnding left before
one_taken before left token is = record { taken = token ∷ []; is = is }

-- the first token is not what was scanned for
pub not_taken : (Fits : Token → Type 0) (before new left : List Token) (token : Token) → before ≡ token ∷ new → (Fits token → ⊥)
    → Takes Fits before left → ⊥
not_taken Fits before new left token is other takes =
    let same : takes.token ≡ token = head (sym takes.is ∙ is) in other (subst Fits same takes.fits)
  where
    head : {a b : Token} {xs ys : List Token} → a ∷ xs ≡ b ∷ ys → a ≡ b
    head e = cc

pub if_err_weaker : {T E : Type 0} (r : Result T E) (P Q : E → Type 0) → ((e : E) → P e → Q e) → IfErr r P → IfErr r Q
if_err_weaker (Ok x) P Q more is = tt
if_err_weaker (Err e) P Q more is = more e is

pub on_err_weaker : {T E : Type 0} (r : Result T E) (P Q : Type 0) → (P → Q) → OnErr r P → OnErr r Q
on_err_weaker (Ok x) P Q more is = tt
on_err_weaker (Err e) P Q more is = more is

pub on_ok_map : {T E : Type 0} (r : Result T E) (P Q : Type 0) → (P → Q) → OnOk r P → OnOk r Q
on_ok_map (Ok x) P Q more is = more is
on_ok_map (Err e) P Q more is = tt
