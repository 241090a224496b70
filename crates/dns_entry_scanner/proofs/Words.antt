-- Tokens that are words, and others.
use Rattle.std.proofs.Common.{◌≡◌, ℕ, Bool, true, false, List, sym, ◌∙◌, ap}
use Rattle.std.specs.List.{list_all}
use Rattle.dns_label.specs.Symbol.{is_plain}
use Rattle.dns_scan.specs.Token.{Token, IsWord}

abbrev pub token_by : Bool → List ℕ → Token
token_by quoted text = record { quoted = quoted; text = text }

pub word_by : (quoted : Bool) (text word : List ℕ) → quoted ≡ false → word ≡ text → list_all is_plain word ≡ true
    → IsWord word (token_by quoted text)
word_by quoted text word plain same all = (λ i. token_by (plain i) (sym same i), all)

-- a quoted token is none, and one with another character is none
pub quoted_apart : (quoted : Bool) (text word : List ℕ) → quoted ≡ true → IsWord word (token_by quoted text) → ⊥
quoted_apart quoted text word is word_is =
    let bad : quoted ≡ false = ap (λ (t : Token). t.quoted) word_is.0 in cc

pub other_apart : (quoted : Bool) (text word : List ℕ) → list_all is_plain text ≡ false → IsWord word (token_by quoted text) → ⊥
other_apart quoted text word other word_is =
    let same : text ≡ word = ap (λ (t : Token). t.text) word_is.0 in
    let bad : true ≡ false = sym word_is.1 ∙ ap (list_all is_plain) (sym same) ∙ other in cc
