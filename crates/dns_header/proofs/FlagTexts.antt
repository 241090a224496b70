-- The text of flags, word by word.
use Rattle.std.proofs.Common.{◌≡◌, ℕ, Bool, true, false, List, [], ◌∷◌, ◌++◌, map, filter, refl, sym, ap, subst, append-nil}
use Rattle.std.specs.Prelude.{◌||◌, flat_map, codes}
use Rattle.std.specs.Fmt.{HasWritten}
use Rattle.std.specs.declared.fmt.Formatter.{Formatter}
use Rattle.std.proofs.Output.{has_written_append}
use Rattle.dns_header.specs.FlagWords.{word_text}
use Rattle.dns_header.specs.Flags.{words_of, spaced, flags_text}
use Rattle.dns_header.specs.declared.header.flags.Flags.{Flags}

-- the words of the rows that are set
abbrev chosen : List (List ℕ × Bool) → List (List ℕ)
chosen rows = map (λ row. row.0) (filter (λ row. row.1) rows)

-- the same as text, where `behind` tells whether a word precedes
abbrev texts : Bool → List (List ℕ × Bool) → List ℕ
texts behind [] = []
texts behind (row ∷ rows) = word_text behind row.1 row.0 ++ texts (behind || row.1) rows

texts_behind : (rows : List (List ℕ × Bool)) → texts true rows ≡ flat_map (λ w. 32 ∷ w) (chosen rows)
texts_behind [] = refl
texts_behind ((word, true) ∷ rows) = ap (λ l. (32 ∷ word) ++ l) (texts_behind rows)
texts_behind ((word, false) ∷ rows) = texts_behind rows

texts_spaced : (rows : List (List ℕ × Bool)) → texts false rows ≡ spaced (chosen rows)
texts_spaced [] = refl
texts_spaced ((word, true) ∷ rows) = ap (λ l. word ++ l) (texts_behind rows)
texts_spaced ((word, false) ∷ rows) = texts_spaced rows

pub flags_written : (f : Flags) → texts false (words_of f) ≡ flags_text f
unfolding flags_text
flags_written f = texts_spaced (words_of f)

-- seven words that are written one after another
pub flags_put : {W : Type 0} (took : W → List ℕ → W → Type 0) (f : Flags) (f0 f1 f2 f3 f4 f5 f6 f7 : Formatter W)
    → HasWritten took f0 (word_text false f.qr (codes "QR")) f1
    → HasWritten took f1 (word_text f.qr f.aa (codes "AA")) f2
    → HasWritten took f2 (word_text (f.qr || f.aa) f.tc (codes "TC")) f3
    → HasWritten took f3 (word_text ((f.qr || f.aa) || f.tc) f.rd (codes "RD")) f4
    → HasWritten took f4 (word_text (((f.qr || f.aa) || f.tc) || f.rd) f.ra (codes "RA")) f5
    → HasWritten took f5 (word_text ((((f.qr || f.aa) || f.tc) || f.rd) || f.ra) f.ad (codes "AD")) f6
    → HasWritten took f6 (word_text (((((f.qr || f.aa) || f.tc) || f.rd) || f.ra) || f.ad) f.cd (codes "CD")) f7
    → HasWritten took f0 (flags_text f) f7
flags_put took f f0 f1 f2 f3 f4 f5 f6 f7 w1 w2 w3 w4 w5 w6 w7 =
    let P : List ℕ → Type 0 = λ text. HasWritten took f0 text f7 in
    let last = subst (λ text. HasWritten took f6 text f7) (sym (append-nil _)) w7 in
    subst P (flags_written f)
    (has_written_append _ _ _ _ _ _ w1 (has_written_append _ _ _ _ _ _ w2 (has_written_append _ _ _ _ _ _ w3 (has_written_append _ _ _ _ _ _ w4 (has_written_append _ _ _ _ _ _ w5 (has_written_append _ _ _ _ _ _ w6 last))))))
