-- What holds, or does not: equal lists, and a list at the end of another.
use Rattle.std.proofs.Common.{◌≡◌, ◌⊎◌, ℕ, List, [], ◌∷◌, ◌++◌, refl, ap, inl, inr}
use Rattle.std.proofs.lemmas.Bool.{cases_eq}
use Rattle.dns_wire.specs.Suffix.{EndsWith}

abbrev pub Decided : Type 0 → Type 0
Decided P = P ⊎ (P → ⊥)

-- lists of what can be compared
decided_more : {X : Type 0} (x y : X) (xs ys : List X) → Decided (x ≡ y) → Decided (xs ≡ ys) → Decided (x ∷ xs ≡ y ∷ ys)
decided_more x y xs ys (inl same) (inl rest) = inl (cc (same, rest))
decided_more x y xs ys (inl same) (inr apart) = inr (λ e. apart (cc (e)))
decided_more x y xs ys (inr apart) rest = inr (λ e. apart (cc (e)))

pub decided_list : {X : Type 0} → ((x y : X) → Decided (x ≡ y)) → (xs ys : List X) → Decided (xs ≡ ys)
decided_list each [] [] = inl refl
decided_list each [] (y ∷ ys) = inr (λ e. cc)
decided_list each (x ∷ xs) [] = inr (λ e. cc)
decided_list each (x ∷ xs) (y ∷ ys) = decided_more x y xs ys (each x y) (decided_list each xs ys)

pub decided_octets : (xs ys : List ℕ) → Decided (xs ≡ ys)
decided_octets = decided_list cases_eq

pub decided_names : (xs ys : List (List ℕ)) → Decided (xs ≡ ys)
decided_names = decided_list decided_octets

no_end_of_none : (ys front : List (List ℕ)) → ([] ≡ ys → ⊥) → [] ≡ front ++ ys → ⊥
no_end_of_none ys [] apart e = apart e
no_end_of_none ys (z ∷ front) apart e = cc

no_end : (x : List ℕ) (xs ys front : List (List ℕ)) → (x ∷ xs ≡ ys → ⊥) → (EndsWith xs ys → ⊥) → x ∷ xs ≡ front ++ ys → ⊥
no_end x xs ys [] apart none e = apart e
no_end x xs ys (z ∷ front) apart none e = none (record { front = front; whole_is = cc })

end_of_more : (x : List ℕ) (xs ys : List (List ℕ)) → Decided (x ∷ xs ≡ ys) → Decided (EndsWith xs ys) → Decided (EndsWith (x ∷ xs) ys)
end_of_more x xs ys (inl same) rest = inl (record { front = []; whole_is = same })
end_of_more x xs ys (inr apart) (inl ends) = inl (record { front = x ∷ ends.front; whole_is = ap (λ l. x ∷ l) ends.whole_is })
end_of_more x xs ys (inr apart) (inr none) = inr (λ ends. no_end x xs ys ends.front apart none ends.whole_is)

end_of_none : (ys : List (List ℕ)) → Decided ([] ≡ ys) → Decided (EndsWith [] ys)
end_of_none ys (inl same) = inl (record { front = []; whole_is = same })
end_of_none ys (inr apart) = inr (λ ends. no_end_of_none ys ends.front apart ends.whole_is)

pub decided_end : (xs ys : List (List ℕ)) → Decided (EndsWith xs ys)
decided_end [] ys = end_of_none ys (decided_names [] ys)
decided_end (x ∷ xs) ys = end_of_more x xs ys (decided_names (x ∷ xs) ys) (decided_end xs ys)
