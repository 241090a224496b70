-- Symbols that were taken, and what they may spell.
use Rattle.std.proofs.Common.{◌≡◌, ℕ, ◌+◌, ◌<◌, ◌⊎◌, true, false, List, [], ◌∷◌, ◌++◌, length, refl, sym, ◌∙◌, ap, subst, inl, inr, arith, append_assoc, append-nil}
use Rattle.std.specs.List.{AllByRecursion, flat_map}
use Rattle.dns_label.specs.declared.symbol.Symbol.{Symbol}
use Rattle.dns_label.specs.Symbol.{IsSymbol, spelled, octet}
use Rattle.dns_label.specs.NameText.{is_dot, parts_of}
use Rattle.dns_label.specs.Name.{labels_wire}
use Rattle.dns_wire.specs.declared.text.draft.NameDraft.{NameDraft}
use Rattle.std.specs.Prelude.{Option, Some, None, Result, Ok, Err, IfOk, OnErr}
use Rattle.std.specs.Iterator.{Yields, YieldsThen}
use Rattle.dns_label.specs.Taken.{RulesOut}
use Rattle.dns_label.proofs.Taken.{rules_behind, rules_step, rules_item}
use Rattle.dns_wire.specs.declared.text.PresentationError.{PresentationError}
use Rattle.dns_wire.specs.Draft.{Holds, IsReadAs, IsReadBy, AreReadable}
use Rattle.dns_wire.specs.Text.{SpellName}
use Rattle.dns_wire.proofs.Drafts.{draft-len}
use Rattle.dns_wire.proofs.Parts.{Reading, reading-dot, reading-octet, each_last, octet_over, dot_empty, dot_more, dot_text, no_dot, spelled_some, none_taken, some_taken, IsListed}
use Rattle.dns_wire.proofs.Texts.{spell_none, read_as}

-- the number of octets that are held
pub holds-len : (draft : NameDraft) (done : List (List ℕ)) (begun : List ℕ) → Holds draft done begun
    → draft.len ≡ length (labels_wire done) + 1 + length begun
holds-len draft done begun holds =
    let whole = draft.whole in
    let few = draft.few in
    draft-len draft.octets draft.len done begun (omega arith) holds.written

-- the new symbol is the last of those that were taken
shifted : (taken : List Symbol) (symbol : Symbol) (rest : List Symbol) → taken ++ symbol ∷ rest ≡ (taken ++ symbol ∷ []) ++ rest
shifted taken symbol rest = sym (append_assoc taken (symbol ∷ []) rest)

pub bad_symbol : (taken rest : List Symbol) (symbol : Symbol) (name : List (List ℕ)) → (IsSymbol symbol → ⊥)
    → SpellName (taken ++ symbol ∷ rest) name → ⊥
bad_symbol taken rest symbol name none spells =
    let P : List Symbol → Type 0 = λ s. AllByRecursion IsSymbol s in
    none (each_last taken symbol rest (subst P (shifted taken symbol rest) spells.each))

some_last : (taken : List Symbol) (symbol : Symbol) (rest : List Symbol) → taken ++ symbol ∷ rest ≡ [] → ⊥
some_last [] symbol rest is = cc
some_last (first ∷ taken) symbol rest is = cc

-- one or more symbols are readable only if they spell a name
pub some_readable : (taken : List Symbol) (symbol : Symbol) (rest : List Symbol)
    → ((name : List (List ℕ)) → SpellName (taken ++ symbol ∷ rest) name → ⊥) → AreReadable (taken ++ symbol ∷ rest) → ⊥
some_readable taken symbol rest none (inl is) = some_last taken symbol rest is
some_readable taken symbol rest none (inr is) = none is.0 is.1

read_none : (taken rest : List Symbol) (done : List (List ℕ)) (begun : List ℕ) (symbol : Symbol) (name : List (List ℕ))
    → Reading (taken ++ symbol ∷ []) done begun
    → ((name : List (List ℕ)) → IsListed (parts_of ((taken ++ symbol ∷ []) ++ rest)) name → ⊥)
    → SpellName (taken ++ symbol ∷ rest) name → ⊥
read_none taken rest done begun symbol name reading none spells =
    let P : List Symbol → Type 0 = λ s. SpellName s name in
    spell_none ((taken ++ symbol ∷ []) ++ rest) name
    (no_dot (taken ++ symbol ∷ []) rest reading.plain (λ is. absurd (some_last taken symbol [] is)))
    none (subst P (shifted taken symbol rest) spells)

-- one octet more than a label or a name may have
pub over_none : (draft : NameDraft) (taken rest : List Symbol) (done : List (List ℕ)) (begun : List ℕ) (symbol : Symbol) (name : List (List ℕ))
    → Reading taken done begun → Holds draft done begun → IsSymbol symbol → is_dot symbol ≡ false
    → (draft.len ≡ draft.start + 64) ⊎ (253 < draft.len) → SpellName (taken ++ symbol ∷ rest) name → ⊥
over_none draft taken rest done begun symbol name reading holds is_symbol plain over =
    let long = holds-len draft done begun holds in
    let at = holds.place in
    let next = reading-octet taken done begun symbol reading is_symbol plain in
    read_none taken rest done (begun ++ octet symbol ∷ []) symbol name next
    (octet_over (taken ++ symbol ∷ []) rest done begun draft.len draft.start (octet symbol) next at (omega arith) over)

-- a label without octets
pub empty_none : (draft : NameDraft) (taken rest : List Symbol) (done : List (List ℕ)) (begun : List ℕ) (symbol : Symbol) (name : List (List ℕ))
    → Reading taken done begun → Holds draft done begun → IsSymbol symbol → is_dot symbol ≡ true → (draft.len ≡ 1 → ⊥)
    → draft.len ≡ draft.start + 1 → SpellName (taken ++ symbol ∷ rest) name → ⊥
empty_none draft taken rest done begun symbol name reading holds is_symbol dot some none =
    let long = holds-len draft done begun holds in
    let at = holds.place in
    let next = reading-dot taken done begun symbol reading is_symbol dot (some_taken taken done begun reading (omega arith)) in
    read_none taken rest (done ++ begun ∷ []) [] symbol name next
    (dot_empty (taken ++ symbol ∷ []) rest done begun next (omega arith))

-- nothing has been taken
pub new_none : (draft : NameDraft) (taken : List Symbol) (done : List (List ℕ)) (begun : List ℕ) → Reading taken done begun
    → Holds draft done begun → draft.len ≡ 1 → taken ≡ []
new_none draft taken [] [] reading holds one = none_taken taken reading
new_none draft taken [] (octet ∷ begun) reading holds one =
    let long = holds-len draft [] (octet ∷ begun) holds in absurd (omega arith)
new_none draft taken (label ∷ done) begun reading holds one =
    let long = holds-len draft (label ∷ done) begun holds in absurd (omega arith)

pub some_read : (draft : NameDraft) (taken : List Symbol) (done : List (List ℕ)) (begun : List ℕ) → Reading taken done begun
    → Holds draft done begun → (draft.len ≡ 1 → ⊥) → taken ≡ [] → ⊥
some_read draft taken done begun reading holds some =
    let long = holds-len draft done begun holds in some_taken taken done begun reading (omega arith)

pub root_text : (taken : List Symbol) (symbol : Symbol) → taken ≡ [] → is_dot symbol ≡ true → flat_map spelled (taken ++ symbol ∷ []) ≡ 46 ∷ []
root_text taken symbol none dot =
    ap (λ (t : List Symbol). flat_map spelled (t ++ symbol ∷ [])) none ∙ append-nil (spelled symbol) ∙ dot_text symbol dot

pub root_each : (taken : List Symbol) (symbol : Symbol) → taken ≡ [] → IsSymbol symbol → AllByRecursion IsSymbol (taken ++ symbol ∷ [])
root_each taken symbol none is_symbol =
    let P : List Symbol → Type 0 = λ t. AllByRecursion IsSymbol (t ++ symbol ∷ []) in subst P (sym none) (is_symbol, tt)

two_text : (dot symbol : Symbol) (rest : List Symbol) → is_dot dot ≡ true → flat_map spelled (dot ∷ symbol ∷ rest) ≡ 46 ∷ [] → ⊥
two_text dot symbol rest first is =
    let e : 46 ∷ (spelled symbol ++ flat_map spelled rest) ≡ 46 ∷ [] =
    ap (λ l. l ++ (spelled symbol ++ flat_map spelled rest)) (sym (dot_text dot first)) ∙ is in
    let f : spelled symbol ++ flat_map spelled rest ≡ [] = cc in
    spelled_some symbol (flat_map spelled rest) f

two_none : (rest : List Symbol) (dot symbol : Symbol) (name : List (List ℕ)) → is_dot dot ≡ true → SpellName (dot ∷ symbol ∷ rest) name → ⊥
two_none rest dot symbol name first spells =
    spell_none (dot ∷ symbol ∷ rest) name (two_text dot symbol rest first) (dot_more dot symbol rest first) spells

-- a symbol after a dot at the start
pub root_none : (taken rest : List Symbol) (dot symbol : Symbol) (name : List (List ℕ)) → taken ≡ [] → is_dot dot ≡ true
    → SpellName (taken ++ dot ∷ symbol ∷ rest) name → ⊥
root_none taken rest dot symbol name none first spells =
    let P : List Symbol → Type 0 = λ t. SpellName (t ++ dot ∷ symbol ∷ rest) name in
    two_none rest dot symbol name first (subst P none spells)

-- at the end of the symbols
pub read_end : (draft : NameDraft) (taken : List Symbol) (done : List (List ℕ)) (begun : List ℕ) → Reading taken done begun
    → Holds draft done begun → (flat_map spelled taken ≡ 46 ∷ [] → ⊥) × IsReadAs (flat_map spelled taken) draft
read_end draft taken done begun reading holds =
    let P : List Symbol → Type 0 = λ t. flat_map spelled t ≡ 46 ∷ [] in (
      λ is. no_dot taken [] reading.plain (λ none. refl) (subst P (sym (append-nil taken)) is),
      read_as taken draft done begun reading holds,
    )

module _ {S : Type 0} (steps : S → Option Symbol → S → Type 0) where
  -- a dot alone is the root
  pub root_answer : (start here end : S) (taken : List Symbol) (symbol : Symbol) (result : Result (Option NameDraft) PresentationError)
      → taken ≡ [] → IsSymbol symbol → is_dot symbol ≡ true → Yields steps start (taken ++ symbol ∷ []) here
      → IfOk result (λ read. (read ≡ None) × steps here None end)
      → IfOk result (λ read. (list : List Symbol) × YieldsThen steps start list None end × AllByRecursion IsSymbol list × IsReadBy (flat_map spelled list) read)
  root_answer start here end taken symbol (Ok read) none is_symbol dot gave told =
      let P : Option NameDraft → Type 0 = λ r. IsReadBy (flat_map spelled (taken ++ symbol ∷ [])) r in (
        taken ++ symbol ∷ [],
        (here, gave, told.1),
        root_each taken symbol none is_symbol,
        subst P (sym told.0) (root_text taken symbol none dot),
      )
  root_answer start here end taken symbol (Err error) none is_symbol dot gave told = tt

  pub root_refused : (start here behind end : S) (taken : List Symbol) (dot : Symbol) (result : Result (Option NameDraft) PresentationError)
      → taken ≡ [] → is_dot dot ≡ true → Yields steps start taken here → steps here (Some dot) behind
      → OnErr result ((symbol : Symbol) × steps behind (Some symbol) end)
      → OnErr result (RulesOut steps start AreReadable)
  root_refused start here behind end taken dot (Ok read) none first gave step told = tt
  root_refused start here behind end taken dot (Err error) none first gave step told =
      let Q : List Symbol → Type 0 = λ list. AreReadable list in
      rules_behind {P = Q} start here taken gave
      (rules_step {P = λ (rest : List Symbol). Q (taken ++ rest)} here behind dot step
      (rules_item {P = λ (rest : List Symbol). Q (taken ++ dot ∷ rest)} behind end told.0 told.1
      (λ rest is. some_readable taken dot (told.0 ∷ rest) (λ name. root_none taken rest dot told.0 name none first) is)))
