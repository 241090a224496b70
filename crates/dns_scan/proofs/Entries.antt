-- The pieces of an entry's tokens, as they are taken one by one.
use Rattle.std.proofs.Common.{◌≡◌, ℕ, List, [], ◌∷◌, ◌++◌, refl, sym, ◌∙◌, ap, subst, append_assoc, append-nil}
use Rattle.dns_scan.specs.Token.{Token, IsEnding, IsEntry, IsWord}

-- what was taken and the rest of what is left make the whole, and an entry of the tokens before has one of those left
pub record Entering (IsPiece : List ℕ → Token → Type 0) (before left : List Token) (taken : List ℕ) : Type 0 where
  pub on : (more : List ℕ) → IsEntry IsPiece left more → IsEntry IsPiece before (taken ++ more)
  pub back : (whole : List ℕ) → IsEntry IsPiece before whole → (more : List ℕ) × IsEntry IsPiece left more
  pub ending : IsEnding left before

pub entering_here : (IsPiece : List ℕ → Token → Type 0) (tokens : List Token) → Entering IsPiece tokens tokens []
entering_here IsPiece tokens =
    record { on = λ more is. is; back = λ whole is. (whole, is); ending = record { taken = []; is = refl } }

-- one token more
pub entering_more : (IsPiece : List ℕ → Token → Type 0) (before left next : List Token) (token : Token) (taken piece : List ℕ)
    → Entering IsPiece before left taken → left ≡ token ∷ next → IsPiece piece token → Entering IsPiece before next (taken ++ piece)
entering_more IsPiece before left next token taken piece entering is is_piece = record {
  on = λ more entry.
      let P : List ℕ → Type 0 = λ l. IsEntry IsPiece before l in
      let Q : List Token → Type 0 = λ t. IsEntry IsPiece t (piece ++ more) in
      subst P (sym (append_assoc taken piece more)) (entering.on (piece ++ more) (subst Q (sym is) (piece, more, is_piece, entry, refl)));
  back = λ whole entry.
      let at = entering.back whole entry in
      let Q : List Token → Type 0 = λ t. IsEntry IsPiece t at.0 in
      let split = subst Q is at.1 in (split.1, split.3);
  ending = record {
    taken = entering.ending.taken ++ token ∷ [];
    is = entering.ending.is ∙ ap (λ l. entering.ending.taken ++ l) is ∙ sym (append_assoc entering.ending.taken (token ∷ []) next);
  };
}

-- the tokens after one that was taken
pub ending_more : (before left next : List Token) (token : Token) → IsEnding left before → left ≡ token ∷ next → IsEnding next before
ending_more before left next token ending is = record {
  taken = ending.taken ++ token ∷ [];
  is = ending.is ∙ ap (λ l. ending.taken ++ l) is ∙ sym (append_assoc ending.taken (token ∷ []) next);
}

-- at the end
pub entering_end : (IsPiece : List ℕ → Token → Type 0) (before left : List Token) (taken : List ℕ) → Entering IsPiece before left taken
    → left ≡ [] → IsEntry IsPiece before taken
entering_end IsPiece before left taken entering none =
    let P : List ℕ → Type 0 = λ l. IsEntry IsPiece before l in
    let Q : List Token → Type 0 = λ t. IsEntry IsPiece t [] in
    subst P (append-nil taken) (entering.on [] (subst Q (sym none) refl))

-- if a token has no piece
pub entering_none : (IsPiece : List ℕ → Token → Type 0) (before left next : List Token) (token : Token) (taken : List ℕ)
    → Entering IsPiece before left taken → left ≡ token ∷ next → ((piece : List ℕ) → IsPiece piece token → ⊥)
    → (whole : List ℕ) → IsEntry IsPiece before whole → ⊥
entering_none IsPiece before left next token taken entering is none whole entry =
    let at = entering.back whole entry in
    let Q : List Token → Type 0 = λ t. IsEntry IsPiece t at.0 in
    let split = subst Q is at.1 in none split.0 split.2

-- if nothing is left
pub nothing_left : (before left : List Token) → left ≡ [] → IsEnding left before
nothing_left before left none = record { taken = before; is = sym (ap (λ l. before ++ l) none ∙ append-nil before) }

-- words have one text
pub words_one : (tokens : List Token) (text other : List ℕ) → IsEntry IsWord tokens text → IsEntry IsWord tokens other → text ≡ other
words_one [] text other is also = is ∙ sym also
words_one (token ∷ tokens) text other is also =
    let first : is.0 ≡ also.0 = ap (λ (t : Token). t.text) (sym is.2.0 ∙ also.2.0) in
    let others = words_one tokens is.1 also.1 is.3 also.3 in
    is.4 ∙ ap (λ l. l ++ is.1) first ∙ ap (λ l. also.0 ++ l) others ∙ sym also.4
