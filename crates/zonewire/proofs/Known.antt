-- Known octets over several calls.
use Rattle.std.proofs.Common.{◌≡◌, ◌∙◌, ℕ, List, [], ◌++◌, Option, Some, None, refl, sym, subst, ap, append_assoc, append-nil, take-append-drop, take, drop, length, ◌-◌}
use Rattle.std.proofs.lemmas.List.{take_rest}
use Rattle.std.specs.Io.KnownBytes.{Appends, Consumes, IsAtEnd}
use Rattle.zonewire.specs.Stream.{WereLeft}

-- one piece was appended, and then another
pub appends_both : (first second third : Option (List ℕ)) (a b : List ℕ) → Appends first second a → Appends second third b → Appends first third (a ++ b)
appends_both None second third a b p q = tt
appends_both (Some xs) None third a b p q = absurd p
appends_both (Some xs) (Some ys) None a b p q = absurd q
appends_both (Some xs) (Some ys) (Some zs) a b p q = q ∙ ap (λ l. l ++ b) p ∙ append_assoc xs a b

-- nothing was consumed
pub consumes_nothing : (known : Option (List ℕ)) → Consumes known known []
consumes_nothing None = tt
consumes_nothing (Some xs) = refl

-- one piece was consumed, and then another
pub consumes_both : (first second third : Option (List ℕ)) (a b : List ℕ) → Consumes first second a → Consumes second third b → Consumes first third (a ++ b)
consumes_both None second third a b p q = tt
consumes_both (Some xs) None third a b p q = absurd p
consumes_both (Some xs) (Some ys) None a b p q = absurd q
consumes_both (Some xs) (Some ys) (Some zs) a b p q = p ∙ ap (λ l. a ++ l) q ∙ sym (append_assoc a b zs)

-- n more octets move from the rest to the front
pub front_grows : (all front rest : List ℕ) (n : ℕ) → all ≡ front ++ rest → all ≡ (front ++ take n rest) ++ take (length rest - n) (drop n rest)
front_grows all front rest n e =
    e ∙ ap (λ l. front ++ l) (sym (take-append-drop n rest) ∙ ap (λ l. take n rest ++ l) (sym (take_rest rest n)))
    ∙ sym (append_assoc front (take n rest) _)

-- all of it was consumed
pub all_taken : (first second : Option (List ℕ)) (a : List ℕ) → Consumes first second a → IsAtEnd second → WereLeft first a
all_taken None second a p end = tt
all_taken (Some xs) None a p end = absurd p
all_taken (Some xs) (Some ys) a p end = sym (p ∙ ap (λ l. a ++ l) end ∙ append-nil a)

-- the last piece was empty
pub last_taken : (first second third : Option (List ℕ)) (a : List ℕ) (n : ℕ) (piece : List ℕ)
    → Consumes first second a → n ≡ 0 → Consumes second third (take n piece) → IsAtEnd third → WereLeft first a
last_taken first second third a n piece p none q end =
    let nothing : take n piece ≡ [] = rw none refl in
    all_taken first third a (subst (Consumes first third) (ap (λ l. a ++ l) nothing ∙ append-nil a) (consumes_both first second third a (take n piece) p q)) end
