-- What an entry's symbols are converted to is what its tokens' texts, joined, are decoded to.
use Rattle.std.proofs.Common.{◌≡◌, ℕ, List, [], ◌∷◌, ◌++◌, map, refl, sym, ◌∙◌, ap, subst, append_assoc}
use Rattle.std.specs.List.{AllByRecursion, flat_map}
use Rattle.std.specs.Str.{chars, IsUtf8}
use Rattle.dns_label.specs.declared.symbol.Symbol.{Symbol}
use Rattle.dns_label.specs.declared.symbol.Symbol.TheVariants.{Char}
use Rattle.dns_label.specs.Symbol.{IsSymbol, spelled}
use Rattle.dns_scan.specs.declared.encoding.base.Base.{Base}
use Rattle.dns_scan.specs.declared.symbols.entry_symbol.EntrySymbol.{EntrySymbol}
use Rattle.dns_scan.specs.Base.{Decodes, DecodesOnly}
use Rattle.dns_scan.specs.Converted.{Deciphers}
use Rattle.dns_scan.specs.Symbols.{AreWritten, HasMarked, marked, symbols_in}
use Rattle.dns_scan.specs.Token.{Token, IsEntry, HasText, unquoted}
use Rattle.dns_scan.proofs.ConvertedTokens.{IsPlain, are_symbols, spelled_plain, converted_decodes, text_is_plain}

-- a token's symbols are those of its piece
symbols_in-marked : (symbols : List Symbol) (more : List EntrySymbol) → symbols_in (marked symbols ++ more) ≡ symbols ++ symbols_in more
symbols_in-marked [] more = refl
symbols_in-marked (symbol ∷ symbols) more = ap (λ l. symbol ∷ l) (symbols_in-marked symbols more)

both_symbols : (front rest : List Symbol) → AllByRecursion IsSymbol front → AllByRecursion IsSymbol rest → AllByRecursion IsSymbol (front ++ rest)
both_symbols [] rest each more = more
both_symbols (symbol ∷ front) rest each more = (each.0, both_symbols front rest each.1 more)

spelled-append : (front rest : List Symbol) → flat_map spelled (front ++ rest) ≡ flat_map spelled front ++ flat_map spelled rest
spelled-append [] rest = refl
spelled-append (symbol ∷ front) rest =
    ap (λ l. spelled symbol ++ l) (spelled-append front rest) ∙ sym (append_assoc (spelled symbol) (flat_map spelled front) (flat_map spelled rest))

-- the entry's symbols write the joined text
entry_written : (tokens : List Token) (symbols : List EntrySymbol) (text : List ℕ) → IsEntry HasMarked tokens symbols → IsEntry HasText tokens text
    → AreWritten (symbols_in symbols) text
entry_written [] symbols text none also = record { each = none_each; written = also ∙ ap (λ l. flat_map spelled (symbols_in l)) (sym none) }
  where
    none_each : AllByRecursion IsSymbol (symbols_in symbols)
    none_each = subst (λ l. AllByRecursion IsSymbol (symbols_in l)) (sym none) tt
entry_written (token ∷ tokens) symbols text is also =
    let first = is.2.0 in
    let has = is.2.1 in
    let rest = entry_written tokens is.1 also.1 is.3 also.3 in
    let same : symbols_in symbols ≡ first ++ symbols_in is.1 =
    ap symbols_in is.4 ∙ ap (λ l. symbols_in (l ++ is.1)) is.2.2 ∙ symbols_in-marked first is.1 in
    let P : List Symbol → Type 0 = λ l. AreWritten l text in
    subst P (sym same) (record {
      each = both_symbols first (symbols_in is.1) has.each rest.each;
      written =
          also.4 ∙ ap (λ l. l ++ also.1) (sym also.2 ∙ has.written) ∙ ap (λ l. flat_map spelled first ++ l) rest.written
          ∙ sym (spelled-append first (symbols_in is.1));
    })

pub entry_decodes : (base : Base) (tokens : List Token) (symbols : List EntrySymbol) (octets text : List ℕ) → IsEntry HasMarked tokens symbols
    → Deciphers base (symbols_in symbols) octets → IsEntry HasText tokens text → DecodesOnly base (chars text) octets
entry_decodes base tokens symbols octets text is converted also =
    converted_decodes base (unquoted text) octets (record {
      symbols = symbols_in symbols;
      has = entry_written tokens symbols text is also;
      converted = converted;
    })

plain_front : (front rest : List ℕ) → AllByRecursion IsPlain (front ++ rest) → AllByRecursion IsPlain front
plain_front [] rest each = tt
plain_front (c ∷ front) rest each = (each.0, plain_front front rest each.1)

plain_rest : (front rest : List ℕ) → AllByRecursion IsPlain (front ++ rest) → AllByRecursion IsPlain rest
plain_rest [] rest each = each
plain_rest (c ∷ front) rest each = plain_rest front rest each.1

chars-append : (front rest : List ℕ) → map Char (front ++ rest) ≡ map Char front ++ map Char rest
chars-append [] rest = refl
chars-append (c ∷ front) rest = ap (λ l. Char c ∷ l) (chars-append front rest)

-- the symbols of tokens of plain characters
entry_marked : (tokens : List Token) (text : List ℕ) → IsEntry HasText tokens text → AllByRecursion IsPlain text
    → (symbols : List EntrySymbol) × IsEntry HasMarked tokens symbols × (symbols_in symbols ≡ map Char text)
entry_marked [] text none plain = ([], refl, ap (map Char) (sym none))
entry_marked (token ∷ tokens) text is plain =
    let front = is.0 in
    let both : AllByRecursion IsPlain (front ++ is.1) = subst (λ l. AllByRecursion IsPlain l) is.4 plain in
    let more = entry_marked tokens is.1 is.3 (plain_rest front is.1 both) in (
      marked (map Char front) ++ more.0,
      (
        marked (map Char front),
        more.0,
        (
          map Char front,
          record { each = are_symbols front (plain_front front is.1 both); written = is.2 ∙ sym (spelled_plain front) },
          refl,
        ),
        more.1,
        refl,
      ),
      symbols_in-marked (map Char front) more.0 ∙ ap (λ l. map Char front ++ l) more.2 ∙ sym (chars-append front is.1) ∙ ap (map Char) (sym is.4),
    )

pub decodes_entry : (base : Base) (tokens : List Token) (octets text : List ℕ) → IsEntry HasText tokens text → IsUtf8 text
    → Decodes base (chars text) octets → (symbols : List EntrySymbol) × IsEntry HasMarked tokens symbols × Deciphers base (symbols_in symbols) octets
decodes_entry base tokens octets text is utf8 decodes =
    let plain = text_is_plain base text octets utf8 decodes in
    let symbols = entry_marked tokens text is plain.1 in
    (symbols.0, symbols.1, record { text = text; plain = symbols.2; decodes = subst (λ l. Decodes base l octets) (sym plain.0) decodes })
