-- What octets of text spell, by their symbols.
use Rattle.std.proofs.Common.{◌≡◌, ◌≢◌, ℕ, ◌+◌, ◌<◌, ◌⊎◌, false, List, [], ◌∷◌, ◌++◌, refl, sym, ◌∙◌, ap, subst, arith, append_assoc, append-nil, rules}
use borrow.Author.Tests.{tests}
use Rattle.std.specs.Prelude.{Some}
use Rattle.std.specs.List.{AllByRecursion, flat_map}
use Rattle.std.proofs.lemmas.List.{flat_map_more}
use Rattle.dns_label.specs.declared.symbol.Symbol.{Symbol}
use Rattle.dns_label.specs.declared.symbol.Symbol.TheVariants.{Char, SimpleEscape, DecimalEscape}
use Rattle.dns_label.specs.Symbol.{IsSymbol, spelled, octet}
use Rattle.dns_label.specs.NameText.{is_dot}
use Rattle.dns_wire.specs.declared.text.draft.NameDraft.{NameDraft}
use Rattle.dns_wire.specs.Draft.{Holds, IsReadAs, IsReadBy, IsReadable, AreReadable}
use Rattle.dns_wire.specs.Text.{SpellName}
use Rattle.dns_wire.proofs.CharTexts.{more_of}
use Rattle.dns_wire.proofs.Parts.{Reading, reading_here, reading-octet, reading-dot, symbol_one, spelled_some}
use Rattle.dns_wire.proofs.Readings.{some_readable, over_none, empty_none, new_none, some_read, root_none, read_end}

-- symbols were taken off the front of the text, and added to the draft
pub record Taken (text rest : List ℕ) (draft : NameDraft) : Type 0 where
  pub symbols : List Symbol
  pub done : List (List ℕ)
  pub begun : List ℕ
  pub whole : text ≡ flat_map spelled symbols ++ rest
  pub reading : Reading symbols done begun
  pub holds : Holds draft done begun

pub taken_none : (text : List ℕ) (draft : NameDraft) → Holds draft [] [] → Taken text text draft
taken_none text draft holds =
    record { symbols = []; done = []; begun = []; whole = refl; reading = reading_here; holds = holds }

whole_more : (text rest behind : List ℕ) (symbols : List Symbol) (symbol : Symbol) → text ≡ flat_map spelled symbols ++ rest
    → rest ≡ spelled symbol ++ behind → text ≡ flat_map spelled (symbols ++ symbol ∷ []) ++ behind
whole_more text rest behind symbols symbol whole is =
    whole ∙ ap (λ l. flat_map spelled symbols ++ l) is
    ∙ sym (append_assoc (flat_map spelled symbols) (spelled symbol) behind)
    ∙ ap (λ l. l ++ behind) (flat_map_more spelled [] symbols symbol)

pub dot_symbol : IsSymbol (Char 46)
dot_symbol = ((omega arith, omega arith), λ (e : 46 ≡ 92). omega arith)

-- the symbol of an octet other than a dot is no dot
pub plain_char : (c : ℕ) → c ≢ 46 → is_dot (Char c) ≡ false
plain_char c none = search (rules, tests)

pub plain_begins : (c : ℕ) (rest behind : List ℕ) (symbol : Symbol) → c ≢ 46 → rest ≡ c ∷ behind → (next : List ℕ) → rest ≡ spelled symbol ++ next
    → is_dot symbol ≡ false
plain_begins c rest behind (Char d) none first next is = plain_char d (λ e. let same : c ≡ d = cc in none (same ∙ e))
plain_begins c rest behind (SimpleEscape d) none first next is = refl
plain_begins c rest behind (DecimalEscape n) none first next is = refl

-- A text goes on with a symbol: its octet is added, it is a dot that ends a label, or it makes the reader fail.
module _ (text rest behind : List ℕ) (draft : NameDraft) (symbol : Symbol) (taken : Taken text rest draft) (is_symbol : IsSymbol symbol)
    (is : rest ≡ spelled symbol ++ behind) where
  pub taken-octet : (new : NameDraft) (c : ℕ) → is_dot symbol ≡ false → c ≡ octet symbol
      → ((done : List (List ℕ)) (begun : List ℕ) → Holds draft done begun → Holds new done (begun ++ c ∷ []))
      → Taken text behind new
  taken-octet new c plain same put =
      let P : ℕ → Type 0 = λ o. Holds new taken.done (taken.begun ++ o ∷ []) in
      record {
        symbols = taken.symbols ++ symbol ∷ [];
        done = taken.done;
        begun = taken.begun ++ octet symbol ∷ [];
        whole = whole_more text rest behind taken.symbols symbol taken.whole is;
        reading = reading-octet taken.symbols taken.done taken.begun symbol taken.reading is_symbol plain;
        holds = subst P same (put taken.done taken.begun taken.holds);
      }

  -- no symbols from this one on spell a name with those before it
  none_on : ((more : List Symbol) → behind ≡ flat_map spelled more → (name : List (List ℕ)) → SpellName (taken.symbols ++ symbol ∷ more) name → ⊥)
      → IsReadable text → ⊥
  none_on none readable =
      let P : List ℕ → Type 0 = λ t. IsReadable t in
      let found = more_of taken.symbols rest taken.reading.each (subst P taken.whole readable) in
      by_more found.more found.each found.written found.readable
    where
      by_more : (more : List Symbol) → AllByRecursion IsSymbol more → rest ≡ flat_map spelled more → AreReadable (taken.symbols ++ more) → ⊥
      by_more [] each written readable = spelled_some symbol behind (sym is ∙ written)
      by_more (first ∷ more) each written readable =
          let one = symbol_one symbol first behind (flat_map spelled more) is_symbol each.0 (sym is ∙ written) in
          let Q : Symbol → Type 0 = λ s. AreReadable (taken.symbols ++ s ∷ more) in
          some_readable taken.symbols symbol more (none more one.1) (subst Q (sym one.0) readable)

  pub over_unreadable : is_dot symbol ≡ false → (draft.len ≡ draft.start + 64) ⊎ (253 < draft.len) → IsReadable text → ⊥
  over_unreadable plain over =
      none_on (λ more written name.
      over_none draft taken.symbols more taken.done taken.begun symbol name taken.reading taken.holds is_symbol plain over)

module _ (text rest behind : List ℕ) (draft : NameDraft) (taken : Taken text rest draft) (is : rest ≡ 46 ∷ behind) where
  pub taken-dot : (new : NameDraft) → (draft.len ≡ 1 → ⊥)
      → ((done : List (List ℕ)) (begun : List ℕ) → Holds draft done begun → Holds new (done ++ begun ∷ []) [])
      → Taken text behind new
  taken-dot new some ended = record {
    symbols = taken.symbols ++ Char 46 ∷ [];
    done = taken.done ++ taken.begun ∷ [];
    begun = [];
    whole = whole_more text rest behind taken.symbols (Char 46) taken.whole is;
    reading =
        reading-dot taken.symbols taken.done taken.begun (Char 46) taken.reading dot_symbol refl
        (some_read draft taken.symbols taken.done taken.begun taken.reading taken.holds some);
    holds = ended taken.done taken.begun taken.holds;
  }

  pub empty_unreadable : (draft.len ≡ 1 → ⊥) → draft.len ≡ draft.start + 1 → IsReadable text → ⊥
  empty_unreadable some none =
      none_on text rest behind draft (Char 46) taken dot_symbol is
      (λ more written name.
      empty_none draft taken.symbols more taken.done taken.begun (Char 46) name taken.reading taken.holds dot_symbol refl some none)

  -- nothing was taken before the dot
  pub root_alone : draft.len ≡ 1 → behind ≡ [] → text ≡ 46 ∷ []
  root_alone one none =
      let new = new_none draft taken.symbols taken.done taken.begun taken.reading taken.holds one in
      taken.whole ∙ ap (λ (s : List Symbol). flat_map spelled s ++ rest) new ∙ is ∙ ap (λ l. 46 ∷ l) none

  pub root_unreadable : draft.len ≡ 1 → (behind ≡ [] → ⊥) → IsReadable text → ⊥
  root_unreadable one some = none_on text rest behind draft (Char 46) taken dot_symbol is by_more
    where
      by_more : (more : List Symbol) → behind ≡ flat_map spelled more → (name : List (List ℕ)) → SpellName (taken.symbols ++ Char 46 ∷ more) name → ⊥
      by_more [] written name spells = some written
      by_more (symbol ∷ more) written name spells =
          let new = new_none draft taken.symbols taken.done taken.begun taken.reading taken.holds one in
          root_none taken.symbols more (Char 46) symbol name new refl spells

module _ (text rest : List ℕ) (draft : NameDraft) (taken : Taken text rest draft) where
  -- no symbol follows those that were taken
  pub bad_unreadable : (rest ≡ [] → ⊥) → ((symbol : Symbol) (behind : List ℕ) → IsSymbol symbol → rest ≡ spelled symbol ++ behind → ⊥)
      → IsReadable text → ⊥
  bad_unreadable some none readable =
      let P : List ℕ → Type 0 = λ t. IsReadable t in
      let found = more_of taken.symbols rest taken.reading.each (subst P taken.whole readable) in
      by_more found.more found.each found.written
    where
      by_more : (more : List Symbol) → AllByRecursion IsSymbol more → rest ≡ flat_map spelled more → ⊥
      by_more [] each written = some written
      by_more (symbol ∷ more) each written = none symbol (flat_map spelled more) each.0 written

  -- all was taken
  pub taken_all : rest ≡ [] → IsReadBy text (Some draft)
  taken_all none =
      let all : text ≡ flat_map spelled taken.symbols =
      taken.whole ∙ ap (λ l. flat_map spelled taken.symbols ++ l) none ∙ append-nil (flat_map spelled taken.symbols) in
      let P : List ℕ → Type 0 = λ t. (t ≡ 46 ∷ [] → ⊥) × IsReadAs t draft in
      subst P (sym all) (read_end draft taken.symbols taken.done taken.begun taken.reading taken.holds)
