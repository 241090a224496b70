-- The number of octets before unknown data.
use Rattle.std.proofs.Common.{◌≡◌, ℕ, List, [], ◌∷◌, ◌++◌, sym, ◌∙◌, ap, append_assoc}
use Rattle.std.specs.Prelude.{Option, Some}
use Rattle.dns_scan.specs.Scans.{ScansWord}
use Rattle.dns_scan.specs.Token.{Token, IsEnding}

pub word_ending : {V : Type 0} (reads : List ℕ → Option V) (tokens left : List Token) (value : V) → ScansWord reads tokens value left
    → IsEnding left tokens
word_ending reads tokens left value scans = record { taken = scans.takes.token ∷ []; is = scans.takes.is }

pub endings_join : (left middle before : List Token) → IsEnding left middle → IsEnding middle before → IsEnding left before
endings_join left middle before last first = record {
  taken = first.taken ++ last.taken;
  is = first.is ∙ ap (λ l. first.taken ++ l) last.is ∙ sym (append_assoc first.taken last.taken left);
}

-- one word comes first, and it is read as one value
pub record OneWord {V : Type 0} (left other : List Token) (value also : V) : Type 0 where
  pub lefts : left ≡ other
  pub values : value ≡ also

pub one_word : (reads : List ℕ → Option ℕ) (tokens left other : List Token) (value also : ℕ) → ScansWord reads tokens value left
    → ScansWord reads tokens also other → OneWord left other value also
one_word reads tokens left other value also scans others =
    let both = sym scans.takes.is ∙ others.takes.is in
    let first : scans.takes.token ≡ others.takes.token = head both in
    let text : scans.text ≡ others.text = ap (λ (t : Token). t.text) (sym scans.takes.fits.0 ∙ first ∙ others.takes.fits.0) in
    record { lefts = behind both; values = value_one (sym scans.reads_as ∙ ap reads text ∙ others.reads_as) }
  where
    head : {a b : Token} {xs ys : List Token} → a ∷ xs ≡ b ∷ ys → a ≡ b
    head e = cc

    behind : {a b : Token} {xs ys : List Token} → a ∷ xs ≡ b ∷ ys → xs ≡ ys
    behind e = cc

    value_one : {a b : ℕ} → Some a ≡ Some b → a ≡ b
    value_one e = cc
