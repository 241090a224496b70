-- What a text spells, as its symbols are read one by one.
use Rattle.std.proofs.Common.{◌≡◌, ℕ, ◌≤◌, List, [], ◌∷◌, ◌++◌, length, map, refl, sym, ◌∙◌, ap, subst, arith, append_assoc, append-nil, length-append}
use Rattle.std.specs.List.{AllByRecursion, flat_map}
use Rattle.dns_label.specs.declared.symbol.Symbol.{Symbol}
use Rattle.dns_label.specs.Symbol.{IsSymbol, octet, spelled}
use Rattle.std.proofs.lemmas.List.{map_push}
use Rattle.dns_name.proofs.Parts.{symbol_one, spelled_some}
use Rattle.dns_scan.specs.StringText.{Spells, IsStringText}
use Rattle.dns_scan.specs.Refused.{BeginsWith, HasFault}
use Rattle.dns_scan.specs.declared.char_str.text.PresentationError.TheVariants.{BadSymbol, LongString}

-- the text spells what was taken of it, and then what the rest spells, and nothing else
pub record Reading (text rest taken : List ℕ) : Type 0 where
  pub on : (more : List ℕ) → Spells rest more → Spells text (taken ++ more)
  pub back : (all : List ℕ) → Spells text all → (more : List ℕ) × Spells rest more × (all ≡ taken ++ more)

pub reading_here : (text : List ℕ) → Reading text text []
reading_here text = record { on = λ more spells. spells; back = λ all spells. (all, spells, refl) }

-- a symbol first
pub spells_more : (text rest more : List ℕ) (symbol : Symbol) → IsSymbol symbol → text ≡ spelled symbol ++ rest → Spells rest more
    → Spells text (octet symbol ∷ more)
spells_more text rest more symbol is_symbol is spells = record {
  symbols = symbol ∷ spells.symbols;
  each = (is_symbol, spells.each);
  written = is ∙ ap (λ l. spelled symbol ++ l) spells.written;
  stand = ap (λ l. octet symbol ∷ l) spells.stand;
}

pub spells_less : (text rest all : List ℕ) (symbol : Symbol) → IsSymbol symbol → text ≡ spelled symbol ++ rest → Spells text all
    → (more : List ℕ) × Spells rest more × (all ≡ octet symbol ∷ more)
spells_less text rest all symbol is_symbol is spells = split spells.symbols spells.each (sym is ∙ spells.written) spells.stand
  where
    split : (symbols : List Symbol) → AllByRecursion IsSymbol symbols → spelled symbol ++ rest ≡ flat_map spelled symbols
        → map octet symbols ≡ all → (more : List ℕ) × Spells rest more × (all ≡ octet symbol ∷ more)
    split [] each written stand = absurd (spelled_some symbol rest written)
    split (other ∷ symbols) each written stand =
        let one = symbol_one symbol other rest (flat_map spelled symbols) is_symbol each.0 written in (
          map octet symbols,
          record { symbols = symbols; each = each.1; written = one.1; stand = refl },
          sym stand ∙ ap (λ s. octet s ∷ map octet symbols) (sym one.0),
        )

pub reading_more : (text rest behind taken : List ℕ) (symbol : Symbol) → Reading text rest taken → IsSymbol symbol
    → rest ≡ spelled symbol ++ behind → Reading text behind (taken ++ octet symbol ∷ [])
reading_more text rest behind taken symbol reading is_symbol is = record {
  on = λ more spells.
      let P : List ℕ → Type 0 = λ l. Spells text l in
      subst P (sym (append_assoc taken (octet symbol ∷ []) more)) (reading.on _ (spells_more rest behind more symbol is_symbol is spells));
  back = λ all spells.
      let whole = reading.back all spells in
      let less = spells_less rest behind whole.0 symbol is_symbol is whole.1 in
      (less.0, less.1, whole.2 ∙ ap (λ l. taken ++ l) less.2 ∙ sym (append_assoc taken (octet symbol ∷ []) less.0));
}

-- at the end
pub spells_none : Spells [] []
spells_none = record { symbols = []; each = tt; written = refl; stand = refl }

pub reading_end : (text rest taken : List ℕ) → Reading text rest taken → rest ≡ [] → Spells text taken
reading_end text rest taken reading none =
    let P : List ℕ → Type 0 = λ l. Spells l [] in
    let Q : List ℕ → Type 0 = λ l. Spells text l in
    subst Q (append-nil taken) (reading.on [] (subst P (sym none) spells_none))

-- if there is no symbol at the place
pub reading_none : (text rest taken : List ℕ) → Reading text rest taken → (rest ≡ [] → ⊥)
    → ((symbol : Symbol) (behind : List ℕ) → IsSymbol symbol → rest ≡ spelled symbol ++ behind → ⊥)
    → (all : List ℕ) → Spells text all → ⊥
reading_none text rest taken reading some none all spells =
    let whole = reading.back all spells in first whole.1.symbols whole.1.each whole.1.written
  where
    first : (symbols : List Symbol) → AllByRecursion IsSymbol symbols → rest ≡ flat_map spelled symbols → ⊥
    first [] each written = some written
    first (symbol ∷ symbols) each written = none symbol (flat_map spelled symbols) each.0 written

-- if there is no room for another octet
pub reading_full : (text rest behind taken : List ℕ) (symbol : Symbol) → Reading text rest taken → IsSymbol symbol
    → rest ≡ spelled symbol ++ behind → 255 ≤ length taken → (string : List ℕ) → IsStringText text string → ⊥
reading_full text rest behind taken symbol reading is_symbol is full string is_text =
    let whole = reading.back string is_text.spells in
    let less = spells_less rest behind whole.0 symbol is_symbol is whole.1 in
    let size = ap (length {A = ℕ}) (whole.2 ∙ ap (λ l. taken ++ l) less.2) in
    omega (arith, size, length-append taken (octet symbol ∷ less.0), is_text.short)

each_push : (symbols : List Symbol) (symbol : Symbol) → AllByRecursion IsSymbol symbols → IsSymbol symbol → AllByRecursion IsSymbol (symbols ++ symbol ∷ [])
each_push [] symbol each is = (is, tt)
each_push (first ∷ symbols) symbol each is = (each.0, each_push symbols symbol each.1 is)

spelled_push : (symbols : List Symbol) (symbol : Symbol) → flat_map spelled (symbols ++ symbol ∷ []) ≡ flat_map spelled symbols ++ spelled symbol
spelled_push [] symbol = append-nil (spelled symbol)
spelled_push (first ∷ symbols) symbol =
    ap (λ l. spelled first ++ l) (spelled_push symbols symbol) ∙ sym (append_assoc (spelled first) (flat_map spelled symbols) (spelled symbol))

pub begins_more : (text rest behind taken : List ℕ) (symbol : Symbol) → BeginsWith text taken rest → IsSymbol symbol
    → rest ≡ spelled symbol ++ behind → BeginsWith text (taken ++ octet symbol ∷ []) behind
begins_more text rest behind taken symbol begins is_symbol is = record {
  symbols = begins.symbols ++ symbol ∷ [];
  each = each_push begins.symbols symbol begins.each is_symbol;
  written =
      begins.written ∙ ap (λ l. flat_map spelled begins.symbols ++ l) is
      ∙ sym (append_assoc (flat_map spelled begins.symbols) (spelled symbol) behind)
      ∙ ap (λ l. l ++ behind) (sym (spelled_push begins.symbols symbol));
  stand = map_push octet begins.symbols symbol ∙ ap (λ l. l ++ octet symbol ∷ []) begins.stand;
}

-- the fault that comes first
pub begins_badly : (text rest taken : List ℕ) → BeginsWith text taken rest → length taken ≤ 255 → (rest ≡ [] → ⊥)
    → ((symbol : Symbol) (behind : List ℕ) → IsSymbol symbol → rest ≡ spelled symbol ++ behind → ⊥) → HasFault text BadSymbol
begins_badly text rest taken begins few some none = (taken, rest, begins, few, record { some = some; none = none })

pub begins_long : (text rest behind taken : List ℕ) (symbol : Symbol) → BeginsWith text taken rest → IsSymbol symbol
    → rest ≡ spelled symbol ++ behind → length taken ≡ 255 → HasFault text LongString
begins_long text rest behind taken symbol begins is_symbol is full = (
  taken ++ octet symbol ∷ [],
  behind,
  begins_more text rest behind taken symbol begins is_symbol is,
  length-append taken (octet symbol ∷ []) ∙ omega (arith, full),
)
