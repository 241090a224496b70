-- The elements of lists by their indexes.
use Rattle.std.proofs.Common.{◌⊎◌, inl, inr, ◌≡◌, ◌<◌, ℕ, zero, suc, Some, List, [], ◌∷◌, ◌++◌, length, take, set, refl, sym, ap, subst, arith}
use Rattle.std.specs.Prelude.{slice_get}
use mathlib.Core.Logic.{◌≢◌}

-- a list and more behind it

pub get-append : {A : Type 0} (xs more : List A) (k : ℕ) → k < length xs → slice_get (xs ++ more) k ≡ slice_get xs k
get-append [] more k within = absurd (omega arith)
get-append (x ∷ xs) more zero within = refl
get-append (x ∷ xs) more (suc k) within = get-append xs more k (omega (arith, within))

pub get_last : {A : Type 0} (xs : List A) (last : A) → slice_get (xs ++ last ∷ []) (length xs) ≡ Some last
get_last [] last = refl
get_last (x ∷ xs) last = get_last xs last

pub get_front : {A : Type 0} (xs more : List A) (k : ℕ) (x : A) → slice_get xs k ≡ Some x → slice_get (xs ++ more) k ≡ Some x
get_front [] more k x at = absurd (cc)
get_front (y ∷ xs) more zero x at = at
get_front (y ∷ xs) more (suc k) x at = get_front xs more k x at

pub get_cases : {A : Type 0} (xs : List A) (last : A) (k : ℕ) (x : A) → slice_get (xs ++ last ∷ []) k ≡ Some x
    → (slice_get xs k ≡ Some x) ⊎ ((k ≡ length xs) × (last ≡ x))
get_cases [] last zero x at = inr (refl, (let e : last ≡ x = cc in e))
get_cases [] last (suc k) x at = absurd (cc)
get_cases (y ∷ xs) last zero x at = inl at
get_cases (y ∷ xs) last (suc k) x at = later (get_cases xs last k x at)
  where
    later : (slice_get xs k ≡ Some x) ⊎ ((k ≡ length xs) × (last ≡ x)) → (slice_get xs k ≡ Some x) ⊎ ((suc k ≡ suc (length xs)) × (last ≡ x))
    later (inl there) = inl there
    later (inr (is, same)) = inr (ap suc is, same)

pub each_push : {A : Type 0} (P : ℕ → A → Type 0) (written : List A) (last : A)
    → ((index : ℕ) (one : A) → slice_get written index ≡ Some one → P index one) → P (length written) last
    → (index : ℕ) (one : A) → slice_get (written ++ last ∷ []) index ≡ Some one → P index one
each_push P written last each here index one at = cases (get_cases written last index one at)
  where
    cases : (slice_get written index ≡ Some one) ⊎ ((index ≡ length written) × (last ≡ one)) → P index one
    cases (inl there) = each index one there
    cases (inr (is, same)) = subst (λ n. P n one) (sym is) (subst (P (length written)) same here)

-- within a list

pub get_within : {A : Type 0} (xs : List A) (k : ℕ) → k < length xs → (x : A) × (slice_get xs k ≡ Some x)
get_within [] k within = absurd (omega arith)
get_within (x ∷ xs) zero within = (x, refl)
get_within (x ∷ xs) (suc k) within = get_within xs k (omega (arith, within))

pub take_more : {A : Type 0} (xs : List A) (k : ℕ) (x : A) → slice_get xs k ≡ Some x → take (suc k) xs ≡ take k xs ++ x ∷ []
take_more [] k x at = absurd (cc)
take_more (y ∷ xs) zero x at = ap (λ z. z ∷ []) (let e : y ≡ x = cc in e)
take_more (y ∷ xs) (suc k) x at = ap (λ l. y ∷ l) (take_more xs k x at)

-- a list with one element set

pub get_set_same : {A : Type 0} (xs : List A) (k : ℕ) (value x : A) → slice_get (set xs k value) k ≡ Some x → x ≡ value
get_set_same [] k value x at = absurd (cc)
get_set_same (y ∷ xs) zero value x at = let e : x ≡ value = cc in e
get_set_same (y ∷ xs) (suc k) value x at = get_set_same xs k value x at

pub get-set_other : {A : Type 0} (xs : List A) (i k : ℕ) (value : A) → i ≢ k → slice_get (set xs i value) k ≡ slice_get xs k
get-set_other [] i k value differ = refl
get-set_other (y ∷ xs) zero zero value differ = absurd (differ refl)
get-set_other (y ∷ xs) zero (suc k) value differ = refl
get-set_other (y ∷ xs) (suc i) zero value differ = refl
get-set_other (y ∷ xs) (suc i) (suc k) value differ = get-set_other xs i k value (λ e. differ (ap suc e))
