-- The symbols of a text and of an entry, as they are read one by one.
use Rattle.std.proofs.Common.{◌≡◌, ℕ, List, [], ◌∷◌, ◌++◌, map, drop, refl, sym, ◌∙◌, ap, subst, append_assoc, append-nil}
use Rattle.std.specs.Prelude.{Result}
use Rattle.std.specs.List.{FoldsTo, flat_map}
use Rattle.std.proofs.lemmas.List.{map_push}
use Rattle.dns_label.specs.declared.symbol.Symbol.{Symbol}
use Rattle.dns_label.specs.Symbol.{IsSymbol, spelled}
use Rattle.dns_name.proofs.Parts.{symbol_one, spelled_some}
use Rattle.dns_scan.specs.declared.symbols.entry_symbol.EntrySymbol.{EntrySymbol}
use Rattle.dns_scan.specs.declared.symbols.entry_symbol.EntrySymbol.TheVariants.{Symbol as Within, EndOfToken}
use Rattle.dns_scan.specs.Symbols.{AreWritten, HasMarked, TakesAll, RefusesOne, marked}
use Rattle.dns_scan.specs.Token.{Token, IsEnding, IsEntry, Takes, HasText, SameNames}
use Rattle.dns_scan.proofs.Entries.{ending_more}

-- the text is written by the symbols that were read of it and then by those of the rest, and by no others
pub record ReadingSymbols (text rest : List ℕ) (front : List Symbol) : Type 0 where
  pub on : (more : List Symbol) → AreWritten more rest → AreWritten (front ++ more) text
  pub back : (all : List Symbol) → AreWritten all text → (more : List Symbol) × AreWritten more rest × (all ≡ front ++ more)

written_none : AreWritten [] []
written_none = record { each = tt; written = refl }

written_more : (rest behind : List ℕ) (more : List Symbol) (symbol : Symbol) → IsSymbol symbol → rest ≡ spelled symbol ++ behind → AreWritten more behind
    → AreWritten (symbol ∷ more) rest
written_more rest behind more symbol is_symbol is are =
    record { each = (is_symbol, are.each); written = is ∙ ap (λ l. spelled symbol ++ l) are.written }

written_less : (rest behind : List ℕ) (symbols : List Symbol) (symbol : Symbol) → IsSymbol symbol → rest ≡ spelled symbol ++ behind → AreWritten symbols rest
    → (more : List Symbol) × AreWritten more behind × (symbols ≡ symbol ∷ more)
written_less rest behind [] symbol is_symbol is are = absurd (spelled_some symbol behind (sym is ∙ are.written))
written_less rest behind (other ∷ symbols) symbol is_symbol is are =
    let one = symbol_one symbol other behind (flat_map spelled symbols) is_symbol are.each.0 (sym is ∙ are.written) in
    (symbols, record { each = are.each.1; written = one.1 }, ap (λ s. s ∷ symbols) (sym one.0))

pub symbols_more : (text rest behind : List ℕ) (front : List Symbol) (symbol : Symbol) → ReadingSymbols text rest front → IsSymbol symbol
    → rest ≡ spelled symbol ++ behind → ReadingSymbols text behind (front ++ symbol ∷ [])
symbols_more text rest behind front symbol reading is_symbol is = record {
  on = λ more are.
      let P : List Symbol → Type 0 = λ l. AreWritten l text in
      subst P (sym (append_assoc front (symbol ∷ []) more)) (reading.on _ (written_more rest behind more symbol is_symbol is are));
  back = λ all are.
      let whole = reading.back all are in
      let less = written_less rest behind whole.0 symbol is_symbol is whole.1 in
      (less.0, less.1, whole.2 ∙ ap (λ l. front ++ l) less.2 ∙ sym (append_assoc front (symbol ∷ []) less.0));
}

-- the next symbol is one of the text's
pub symbols_next : (text rest behind : List ℕ) (front : List Symbol) (symbol : Symbol) → ReadingSymbols text rest front → IsSymbol symbol
    → rest ≡ spelled symbol ++ behind → (all : List Symbol) → AreWritten all text → (more : List Symbol) × (all ≡ front ++ symbol ∷ more)
symbols_next text rest behind front symbol reading is_symbol is all are =
    let whole = reading.back all are in
    let less = written_less rest behind whole.0 symbol is_symbol is whole.1 in (less.0, whole.2 ∙ ap (λ l. front ++ l) less.2)

-- at the end
pub symbols_end : (text rest : List ℕ) (front : List Symbol) → ReadingSymbols text rest front → rest ≡ [] → AreWritten front text
symbols_end text rest front reading none =
    let P : List Symbol → Type 0 = λ l. AreWritten l text in
    let Q : List ℕ → Type 0 = λ l. AreWritten [] l in
    subst P (append-nil front) (reading.on [] (subst Q (sym none) written_none))

-- if there is no symbol at the place
pub symbols_none : (text rest : List ℕ) (front : List Symbol) → ReadingSymbols text rest front → (rest ≡ [] → ⊥)
    → ((symbol : Symbol) (behind : List ℕ) → IsSymbol symbol → rest ≡ spelled symbol ++ behind → ⊥)
    → (all : List Symbol) → AreWritten all text → ⊥
symbols_none text rest front reading some none all are =
    let whole = reading.back all are in first whole.0 whole.1
  where
    first : (symbols : List Symbol) → AreWritten symbols rest → ⊥
    first [] is = some is.written
    first (symbol ∷ symbols) is = none symbol (flat_map spelled symbols) is.each.0 is.written

-- a text is written by one list of symbols
pub written_one : (text : List ℕ) (symbols others : List Symbol) → AreWritten symbols text → AreWritten others text → others ≡ symbols
written_one text [] others are also = none others (sym are.written ∙ also.written)
  where
    none : (others : List Symbol) → [] ≡ flat_map spelled others → others ≡ []
    none [] is = refl
    none (symbol ∷ others) is = absurd (spelled_some symbol (flat_map spelled others) (sym is))
written_one text (symbol ∷ symbols) others are also =
    let less = written_less text (flat_map spelled symbols) others symbol are.each.0 are.written also in
    less.2 ∙ ap (λ l. symbol ∷ l) (written_one (flat_map spelled symbols) symbols less.0 (record { each = are.each.1; written = refl }) less.1)

-- symbols of a token and the mark
pub marked_more : (front more : List Symbol) (symbol : Symbol) → marked (front ++ symbol ∷ more) ≡ map Within front ++ Within symbol ∷ marked more
marked_more [] more symbol = refl
marked_more (first ∷ front) more symbol = ap (λ l. Within first ∷ l) (marked_more front more symbol)

pub within_push : (front : List Symbol) (symbol : Symbol) → map Within (front ++ symbol ∷ []) ≡ map Within front ++ Within symbol ∷ []
within_push front symbol = map_push Within front symbol

-- what is left of an entry after a part of a token's symbols, and after all of them
pub marked_within : (front : List EntrySymbol) (symbols taken others : List Symbol) (more : List EntrySymbol) (symbol : Symbol)
    → symbols ≡ taken ++ symbol ∷ others
    → front ++ (marked symbols ++ more) ≡ (front ++ map Within taken) ++ Within symbol ∷ (marked others ++ more)
marked_within front symbols taken others more symbol is =
    ap (λ l. front ++ (l ++ more)) (ap marked is ∙ marked_more taken others symbol)
    ∙ ap (λ l. front ++ l) (append_assoc (map Within taken) (Within symbol ∷ marked others) more)
    ∙ sym (append_assoc front (map Within taken) (Within symbol ∷ (marked others ++ more)))

pub marked_whole : (front : List EntrySymbol) (symbols taken : List Symbol) (more : List EntrySymbol) → symbols ≡ taken
    → front ++ (marked symbols ++ more) ≡ (front ++ map Within taken) ++ EndOfToken ∷ more
marked_whole front symbols taken more is =
    ap (λ l. front ++ (marked l ++ more)) is
    ∙ ap (λ l. front ++ l) (append_assoc (map Within taken) (EndOfToken ∷ []) more)
    ∙ sym (append_assoc front (map Within taken) (EndOfToken ∷ more))

-- the entry's symbols are those that were read and then those of the tokens left, and no others
pub record ReadingEntry (before left : List Token) (front : List EntrySymbol) : Type 0 where
  pub on : (more : List EntrySymbol) → IsEntry HasMarked left more → IsEntry HasMarked before (front ++ more)
  pub back : (all : List EntrySymbol) → IsEntry HasMarked before all → (more : List EntrySymbol) × IsEntry HasMarked left more × (all ≡ front ++ more)
  pub ending : IsEnding left before

pub entry_here : (tokens : List Token) → ReadingEntry tokens tokens []
entry_here tokens =
    record { on = λ more is. is; back = λ all is. (all, is, refl); ending = record { taken = []; is = refl } }

-- what an entry of this token and others is
entry_first : (token : Token) (tokens : List Token) (symbols : List Symbol) (all : List EntrySymbol) → AreWritten symbols token.text
    → IsEntry HasMarked (token ∷ tokens) all → (more : List EntrySymbol) × IsEntry HasMarked tokens more × (all ≡ marked symbols ++ more)
entry_first token tokens symbols all are is =
    let one = written_one token.text symbols is.2.0 are is.2.1 in
    (is.1, is.3, is.4 ∙ ap (λ l. l ++ is.1) (is.2.2 ∙ ap marked one))

-- one token more
pub entry_more : (before left next : List Token) (text : List ℕ) (front : List EntrySymbol) (symbols : List Symbol)
    → ReadingEntry before left front → (rest : List Token) → Takes (HasText text) left rest → next ≡ drop 1 left → AreWritten symbols text
    → ReadingEntry before next (front ++ marked symbols)
entry_more before left next text front symbols reading rest takes behind are =
    let token = takes.token in
    let is : left ≡ token ∷ next = takes.is ∙ ap (λ l. token ∷ l) (sym (behind ∙ ap (drop 1) takes.is ∙ one rest)) in
    let here : AreWritten symbols token.text = subst (λ l. AreWritten symbols l) (sym takes.fits) are in
    record {
      on = λ more entry.
          let P : List EntrySymbol → Type 0 = λ l. IsEntry HasMarked before l in
          let Q : List Token → Type 0 = λ t. IsEntry HasMarked t (marked symbols ++ more) in
          subst P (sym (append_assoc front (marked symbols) more))
          (reading.on (marked symbols ++ more) (subst Q (sym is) (marked symbols, more, (symbols, here, refl), entry, refl)));
      back = λ all entry.
          let at = reading.back all entry in
          let Q : List Token → Type 0 = λ t. IsEntry HasMarked t at.0 in
          let split = entry_first token next symbols at.0 here (subst Q is at.1) in
          (split.0, split.1, at.2 ∙ ap (λ l. front ++ l) split.2 ∙ sym (append_assoc front (marked symbols) split.0));
      ending = ending_more before left next token reading.ending is;
    }
  where
    one : (rest : List Token) → drop 1 (takes.token ∷ rest) ≡ rest
    one rest = refl

-- the symbols of the next token are among the entry's
pub entry_next : (before left rest : List Token) (text : List ℕ) (front : List EntrySymbol) → ReadingEntry before left front
    → Takes (HasText text) left rest → (all : List EntrySymbol) → IsEntry HasMarked before all
    → (symbols : List Symbol) × (more : List EntrySymbol) × AreWritten symbols text × (all ≡ front ++ (marked symbols ++ more))
entry_next before left rest text front reading takes all entry =
    let at = reading.back all entry in
    let Q : List Token → Type 0 = λ t. IsEntry HasMarked t at.0 in
    let split = subst Q takes.is at.1 in (
      split.2.0,
      split.1,
      subst (λ l. AreWritten split.2.0 l) takes.fits split.2.1,
      at.2 ∙ ap (λ l. front ++ l) (split.4 ∙ ap (λ l. l ++ split.1) split.2.2),
    )

-- at the end of the entry
pub entry_end : (before left : List Token) (front : List EntrySymbol) → ReadingEntry before left front → left ≡ [] → IsEntry HasMarked before front
entry_end before left front reading none =
    let P : List EntrySymbol → Type 0 = λ l. IsEntry HasMarked before l in
    let Q : List Token → Type 0 = λ t. IsEntry HasMarked t [] in
    subst P (append-nil front) (reading.on [] (subst Q (sym none) refl))

-- runs of a closure, one after another
pub folds_join : {P A : Type 0} (R : P → A → P → Type 0) (p q r : P) (xs ys : List A) → FoldsTo R p xs q → FoldsTo R q ys r → FoldsTo R p (xs ++ ys) r
folds_join R p q r [] ys same more = subst (λ s. FoldsTo R s ys r) (sym same) more
folds_join R p q r (x ∷ xs) ys steps more = (steps.0, steps.1, folds_join R steps.0 q r xs ys steps.2 more)

-- one of those after was refused
pub refused_later : {F Sym E : Type 0} (step : F → Sym → Result (Unit {0}) E → F → Type 0) (op state : F) (all front symbols more : List Sym) (error : E)
    → TakesAll step op front state → all ≡ front ++ (symbols ++ more) → RefusesOne step state symbols error → RefusesOne step op all error
refused_later step op state all front symbols more error takes is refuses = record {
  front = front ++ refuses.front;
  symbol = refuses.symbol;
  others = refuses.others ++ more;
  is =
      is ∙ ap (λ l. front ++ (l ++ more)) refuses.is
      ∙ ap (λ l. front ++ l) (append_assoc refuses.front (refuses.symbol ∷ refuses.others) more)
      ∙ sym (append_assoc front refuses.front (refuses.symbol ∷ (refuses.others ++ more)));
  before = refuses.before;
  takes = folds_join _ op state refuses.before front refuses.front takes refuses.takes;
  after = refuses.after;
  refuses = refuses.refuses;
}

pub nil_by : {A : Type 0} (xs : List A) → ((xs ≡ [] → ⊥) → ⊥) → xs ≡ []
nil_by [] some = refl
nil_by (x ∷ xs) some = absurd (some (λ e. cc))

pub same_names_here : (names : List ℕ → List (List ℕ) → Type 0) → SameNames names names
same_names_here names = λ text name. (λ is. is, λ is. is)

pub same_names_join : (first middle last : List ℕ → List (List ℕ) → Type 0) → SameNames first middle → SameNames middle last → SameNames first last
same_names_join first middle last front back = λ text name.
    (λ is. (back text name).0 ((front text name).0 is), λ is. (front text name).1 ((back text name).1 is))
