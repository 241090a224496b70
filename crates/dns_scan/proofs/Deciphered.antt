-- Symbols that a converter was handed, and what can go on from there.
use Rattle.std.proofs.Common.{◌≡◌, ℕ, false, List, [], ◌∷◌, ◌++◌, length, map, refl, sym, ◌∙◌, ap, subst, append-nil}
use Rattle.std.proofs.lemmas.List.{map_push}
use Rattle.dns_label.specs.declared.symbol.Symbol.{Symbol}
use Rattle.dns_label.specs.declared.symbol.Symbol.TheVariants.{Char}
use Rattle.dns_scan.specs.declared.encoding.base.Base.{Base}
use Rattle.dns_scan.specs.declared.encoding.decode_error.DecodeError.{DecodeError}
use Rattle.dns_scan.specs.declared.symbols.entry_symbol.EntrySymbol.{EntrySymbol}
use Rattle.dns_scan.specs.declared.symbols.entry_symbol.EntrySymbol.TheVariants.{Symbol as Within, EndOfToken}
use Rattle.dns_scan.specs.Base.{Decodes}
use Rattle.dns_scan.specs.Converted.{Deciphers, HasDeciphered}
use Rattle.dns_scan.specs.Decoding.{Held, HasRead, IsWhole, WhyRefused, progress_of}
use Rattle.dns_scan.specs.ScanError.{is_want_of_room}
use Rattle.dns_scan.specs.Symbols.{symbols_in}
use Rattle.dns_scan.proofs.Decoded.{refused_text, refused_for_itself, whole_decodes, not_whole}

-- the same encoding
pub deciphered_at : (base other : Base) (held : Held) (symbols : List Symbol) (given : List ℕ) → base ≡ other
    → HasDeciphered base held symbols given → HasDeciphered other held symbols given
deciphered_at base other held symbols given same has = subst (λ b. HasDeciphered b held symbols given) same has

-- one symbol more
pub deciphered_more : (base : Base) (old new : Held) (symbols : List Symbol) (given more : List ℕ) (symbol : Symbol) (c : ℕ) → symbol ≡ Char c
    → HasDeciphered base old symbols given
    → ((octets text : List ℕ) → HasRead base (progress_of octets old) text → HasRead base (progress_of (octets ++ more) new) (text ++ c ∷ []))
    → HasDeciphered base new (symbols ++ symbol ∷ []) (given ++ more)
deciphered_more base old new symbols given more symbol c is has goes = record {
  text = has.text ++ c ∷ [];
  plain = ap (λ l. l ++ symbol ∷ []) has.plain ∙ ap (λ s. map Char has.text ++ s ∷ []) is ∙ sym (map_push Char has.text c);
  read = goes given has.text has.read;
}

-- characters are those of their symbols
plain_one : (text other : List ℕ) → map Char text ≡ map Char other → text ≡ other
plain_one [] [] is = refl
plain_one [] (c ∷ other) is = cc
plain_one (c ∷ text) [] is = cc
plain_one (c ∷ text) (d ∷ other) is =
    let first : c ≡ d = cc in
    let others : map Char text ≡ map Char other = cc in ap (λ n. n ∷ text) first ∙ ap (λ l. d ∷ l) (plain_one text other others)

plain_split : (front text : List ℕ) (c : ℕ) (more : List Symbol) → map Char front ++ Char c ∷ more ≡ map Char text → (rest : List ℕ) × (front ++ c ∷ rest ≡ text)
plain_split [] [] c more is = cc
plain_split [] (d ∷ text) c more is = let first : c ≡ d = cc in (text, ap (λ n. n ∷ text) first)
plain_split (f ∷ front) [] c more is = cc
plain_split (f ∷ front) (d ∷ text) c more is =
    let first : f ≡ d = cc in
    let others : map Char front ++ Char c ∷ more ≡ map Char text = cc in
    let rest = plain_split front text c more others in (rest.0, ap (λ n. n ∷ (front ++ c ∷ rest.0)) first ∙ ap (λ l. d ∷ l) rest.1)

plain_in : (symbols more : List Symbol) (symbol : Symbol) (text : List ℕ) → symbols ++ symbol ∷ more ≡ map Char text → (c : ℕ) × (symbol ≡ Char c)
plain_in [] more symbol [] is = cc
plain_in [] more symbol (c ∷ text) is = (c, cc)
plain_in (first ∷ symbols) more symbol [] is = cc
plain_in (first ∷ symbols) more symbol (c ∷ text) is =
    let others : symbols ++ symbol ∷ more ≡ map Char text = cc in plain_in symbols more symbol text others

-- no text that continues with the symbol is one of octets
abbrev pub NoneBehind : Base → Held → Symbol → Type 0
NoneBehind base held symbol = (symbols : List Symbol) (octets : List ℕ) → HasDeciphered base held symbols octets
    → (more : List Symbol) (all : List ℕ) → Deciphers base (symbols ++ symbol ∷ more) all → ⊥

-- no text ends here
abbrev pub NoneEnds : Base → Held → Type 0
NoneEnds base held = (symbols : List Symbol) (octets : List ℕ) → HasDeciphered base held symbols octets
    → (all : List ℕ) → Deciphers base symbols all → ⊥

pub escaped_none : (base : Base) (held : Held) (symbol : Symbol) → ((c : ℕ) → symbol ≡ Char c → ⊥) → NoneBehind base held symbol
escaped_none base held symbol other symbols octets has more all is =
    let plain = plain_in symbols more symbol is.text is.plain in other plain.0 plain.1

pub refused_none : (base : Base) (held : Held) (symbol : Symbol) (c : ℕ) (error : DecodeError) → symbol ≡ Char c
    → ((octets : List ℕ) → WhyRefused base (progress_of octets held) c error) → is_want_of_room error ≡ false → NoneBehind base held symbol
refused_none base held symbol c error is_char why itself symbols octets has more all is =
    let split = plain_split has.text is.text c more
    (ap (λ s. map Char has.text ++ s ∷ more) (sym is_char) ∙ ap (λ l. l ++ symbol ∷ more) (sym has.plain) ∙ is.plain) in
    refused_for_itself base is.text error
    (refused_text base (progress_of octets held) has.text split.0 is.text c error has.read split.1 (why octets)) itself all is.decodes

pub deciphers_whole : (base : Base) (held : Held) → IsWhole base held.pads (length held.waiting) → (symbols : List Symbol) (octets : List ℕ)
    → HasDeciphered base held symbols octets → Deciphers base symbols (octets ++ [])
deciphers_whole base held whole symbols octets has = record {
  text = has.text;
  plain = has.plain;
  decodes =
      subst (λ l. Decodes base has.text l) (sym (append-nil octets)) (whole_decodes base (progress_of octets held) has.text has.read whole);
}

pub deciphers_short : (base : Base) (held : Held) → (IsWhole base held.pads (length held.waiting) → ⊥) → NoneEnds base held
deciphers_short base held short symbols octets has all is =
    let same = plain_one is.text has.text (sym is.plain ∙ has.plain) in
    not_whole base (progress_of octets held) has.text has.read short all (subst (λ l. Decodes base l all) same is.decodes)

-- the same over an entry's symbols
symbols_in-append : (front behind : List EntrySymbol) → symbols_in (front ++ behind) ≡ symbols_in front ++ symbols_in behind
symbols_in-append [] behind = refl
symbols_in-append (Within symbol ∷ front) behind = ap (λ l. symbol ∷ l) (symbols_in-append front behind)
symbols_in-append (EndOfToken ∷ front) behind = symbols_in-append front behind

pub entry_push : (front : List EntrySymbol) (entry : EntrySymbol) (symbol : Symbol) → entry ≡ Within symbol
    → symbols_in front ++ symbol ∷ [] ≡ symbols_in (front ++ entry ∷ [])
entry_push front entry symbol is =
    sym (ap (λ s. symbols_in (front ++ s ∷ [])) is ∙ symbols_in-append front (Within symbol ∷ []))

pub entry_mark : (front : List EntrySymbol) (entry : EntrySymbol) → entry ≡ EndOfToken → symbols_in front ≡ symbols_in (front ++ entry ∷ [])
entry_mark front entry is =
    sym (ap (λ s. symbols_in (front ++ s ∷ [])) is ∙ symbols_in-append front (EndOfToken ∷ []) ∙ append-nil (symbols_in front))

pub entry_behind : (base : Base) (held : Held) (entry : EntrySymbol) (symbol : Symbol) → entry ≡ Within symbol → NoneBehind base held symbol
    → (symbols : List EntrySymbol) (octets : List ℕ) → HasDeciphered base held (symbols_in symbols) octets
    → (more : List EntrySymbol) (all : List ℕ) → Deciphers base (symbols_in (symbols ++ entry ∷ more)) all → ⊥
entry_behind base held entry symbol is none symbols octets has more all converted =
    let P : List Symbol → Type 0 = λ l. Deciphers base l all in
    none (symbols_in symbols) octets has (symbols_in more) all
    (subst P (ap (λ s. symbols_in (symbols ++ s ∷ more)) is ∙ symbols_in-append symbols (Within symbol ∷ more)) converted)
