-- The parts of a text between its dots, as its symbols are read one by one.
use Rattle.std.proofs.Common.{◌≡◌, ℕ, ◌+◌, ◌<◌, ◌≤◌, ◌⊎◌, Bool, true, false, List, [], ◌∷◌, ◌++◌, length, refl, sym, ◌∙◌, ap, subst, arith, append_assoc, append-nil, length-append, inl, inr, rules}
use borrow.Author.Tests.{tests}
use Rattle.std.specs.List.{AllByRecursion, flat_map}
use Rattle.dns_label.specs.declared.symbol.Symbol.{Symbol}
use Rattle.dns_label.specs.declared.symbol.Symbol.TheVariants.{Char, SimpleEscape, DecimalEscape}
use Rattle.dns_label.specs.Symbol.{IsSymbol, spelled, octet}
use Rattle.dns_label.specs.NameText.{HasParts, parts_of, is_dot, onto}
use Rattle.dns_label.specs.Name.{IsLabel, IsName, wire, labels_wire}
pub use Rattle.dns_label.proofs.SymbolTexts.{symbol_one, spelled_some, each_append, Split, split_symbols, no_more}
use Rattle.dns_wire.proofs.Wire.{length-wire-append, length-wire_is}

-- the open label goes on with the first part
abbrev pub joined : List ℕ → List (List ℕ) → List (List ℕ)
joined begun [] = begun ∷ []
joined begun (part ∷ parts) = (begun ++ part) ∷ parts

-- these parts are of a name other than the root: its labels, and an empty one if the last dot is there
pub record IsListed (parts name : List (List ℕ)) : Type 0 where
  pub is_name : IsName name
  pub listed : (parts ≡ name) ⊎ (parts ≡ name ++ [] ∷ [])

-- there is always a part
pub record Some_part (parts : List (List ℕ)) : Type 0 where
  pub part : List ℕ
  pub more : List (List ℕ)
  pub is : parts ≡ part ∷ more

onto_some : (c : ℕ) (parts : List (List ℕ)) → Some_part (onto c parts)
onto_some c [] = record { part = c ∷ []; more = []; is = refl }
onto_some c (part ∷ parts) = record { part = c ∷ part; more = parts; is = refl }

some_by : (dot : Bool) (c : ℕ) (parts : List (List ℕ)) (symbol : Symbol) (symbols : List Symbol) → is_dot symbol ≡ dot
    → octet symbol ≡ c → parts_of symbols ≡ parts → Some_part (parts_of (symbol ∷ symbols))
some_by true c parts symbol symbols dot is has = rw (dot, has) (record { part = []; more = parts; is = refl })
some_by false c parts symbol symbols dot is has = rw (dot, has, is) (onto_some c parts)

pub some_part : (symbols : List Symbol) → Some_part (parts_of symbols)
some_part [] = record { part = []; more = []; is = refl }
some_part (symbol ∷ symbols) = some_by (is_dot symbol) (octet symbol) (parts_of symbols) symbol symbols refl refl refl

-- the next symbol is a dot
pub joined_dot : (done : List (List ℕ)) (begun : List ℕ) (symbol : Symbol) (symbols : List Symbol) → is_dot symbol ≡ true
    → done ++ joined begun (parts_of (symbol ∷ symbols)) ≡ (done ++ begun ∷ []) ++ joined [] (parts_of symbols)
joined_dot done begun symbol symbols dot =
    let some = some_part symbols in
    rw (dot, some.is, append-nil begun) (sym (append_assoc done (begun ∷ []) (some.part ∷ some.more)))

-- or it stands for an octet
pub joined_octet : (done : List (List ℕ)) (begun : List ℕ) (symbol : Symbol) (symbols : List Symbol) → is_dot symbol ≡ false
    → done ++ joined begun (parts_of (symbol ∷ symbols)) ≡ done ++ joined (begun ++ octet symbol ∷ []) (parts_of symbols)
joined_octet done begun symbol symbols plain =
    let some = some_part symbols in
    rw (plain, some.is) (ap (λ t. done ++ t ∷ some.more) (sym (append_assoc begun (octet symbol ∷ []) some.part)))

-- the first symbol is no dot, if there is a symbol
abbrev pub StartsPlain : List Symbol → Type 0
StartsPlain [] = Unit {0}
StartsPlain (symbol ∷ symbols) = is_dot symbol ≡ false

-- these symbols were taken: the parts are the finished labels, and the open one joined with the parts of what follows
pub record Reading (taken : List Symbol) (done : List (List ℕ)) (begun : List ℕ) : Type 0 where
  pub each : AllByRecursion IsSymbol taken
  pub plain : StartsPlain taken
  pub parts : (rest : List Symbol) → parts_of (taken ++ rest) ≡ done ++ joined begun (parts_of rest)

pub joined_none : (parts : List (List ℕ)) → Some_part parts → joined [] parts ≡ parts
joined_none [] some = let e = some.is in cc
joined_none (part ∷ parts) some = refl

pub reading_here : Reading [] [] []
reading_here = record {
  each = tt;
  plain = tt;
  parts = λ rest. sym (joined_none (parts_of rest) (some_part rest));
}

pub each_last : (front : List Symbol) (symbol : Symbol) (rest : List Symbol) → AllByRecursion IsSymbol ((front ++ symbol ∷ []) ++ rest) → IsSymbol symbol
each_last [] symbol rest each = each.0
each_last (first ∷ front) symbol rest each = each_last front symbol rest each.1

plain_more : (taken : List Symbol) (symbol : Symbol) → StartsPlain taken → (taken ≡ [] → is_dot symbol ≡ false) → StartsPlain (taken ++ symbol ∷ [])
plain_more [] symbol plain last = last refl
plain_more (first ∷ taken) symbol plain last = plain

-- after a dot
pub reading-dot : (taken : List Symbol) (done : List (List ℕ)) (begun : List ℕ) (symbol : Symbol) → Reading taken done begun
    → IsSymbol symbol → is_dot symbol ≡ true → (taken ≡ [] → ⊥) → Reading (taken ++ symbol ∷ []) (done ++ begun ∷ []) []
reading-dot taken done begun symbol reading is_symbol dot some = record {
  each = each_append taken (symbol ∷ []) reading.each (is_symbol, tt);
  plain = plain_more taken symbol reading.plain (λ none. absurd (some none));
  parts = λ rest. ap parts_of (append_assoc taken (symbol ∷ []) rest) ∙ reading.parts (symbol ∷ rest) ∙ joined_dot done begun symbol rest dot;
}

-- after a symbol that stands for an octet
pub reading-octet : (taken : List Symbol) (done : List (List ℕ)) (begun : List ℕ) (symbol : Symbol) → Reading taken done begun
    → IsSymbol symbol → is_dot symbol ≡ false → Reading (taken ++ symbol ∷ []) done (begun ++ octet symbol ∷ [])
reading-octet taken done begun symbol reading is_symbol plain = record {
  each = each_append taken (symbol ∷ []) reading.each (is_symbol, tt);
  plain = plain_more taken symbol reading.plain (λ none. plain);
  parts = λ rest. ap parts_of (append_assoc taken (symbol ∷ []) rest) ∙ reading.parts (symbol ∷ rest) ∙ joined_octet done begun symbol rest plain;
}

-- nothing was taken if no label is finished and none is begun
pub two_parts : (dot : Bool) (c : ℕ) (parts : List (List ℕ)) (symbol : Symbol) (symbols : List Symbol) → is_dot symbol ≡ dot
    → octet symbol ≡ c → parts_of symbols ≡ parts → Some_part parts → parts_of (symbol ∷ symbols) ≡ [] ∷ [] → ⊥
two_parts true c parts symbol symbols dot is has some one =
    let e : [] ∷ parts ≡ [] ∷ [] = sym (let f : parts_of (symbol ∷ symbols) ≡ [] ∷ parts = rw (dot, has) refl in f) ∙ one in
    let g : parts ≡ [] = cc in
    let h = some.is in cc
two_parts false c [] symbol symbols dot is has some one = let h = some.is in cc
two_parts false c (part ∷ parts) symbol symbols dot is has some one =
    let e : (c ∷ part) ∷ parts ≡ [] ∷ [] = sym (let f : parts_of (symbol ∷ symbols) ≡ (c ∷ part) ∷ parts = rw (dot, is, has) refl in f) ∙ one in cc

pub none_taken : (taken : List Symbol) → Reading taken [] [] → taken ≡ []
none_taken [] reading = refl
none_taken (symbol ∷ taken) reading =
    let some = some_part (taken ++ []) in
    absurd (two_parts (is_dot symbol) (octet symbol) (parts_of (taken ++ [])) symbol (taken ++ []) refl refl refl some (reading.parts []))

pub some_taken : (taken : List Symbol) (done : List (List ℕ)) (begun : List ℕ) → Reading taken done begun
    → 0 < length (labels_wire done) + length begun → taken ≡ [] → ⊥
some_taken taken [] [] reading some none = omega arith
some_taken taken [] (c ∷ begun) reading some none =
    let P : List Symbol → Type 0 = λ t. parts_of (t ++ []) ≡ ((c ∷ begun) ++ []) ∷ [] in
    let e : [] ∷ [] ≡ (c ∷ (begun ++ [])) ∷ [] = subst P none (reading.parts []) in cc
some_taken taken (label ∷ done) begun reading some none =
    let P : List Symbol → Type 0 = λ t. parts_of (t ++ []) ≡ label ∷ (done ++ joined begun ([] ∷ [])) in
    let e : [] ∷ [] ≡ label ∷ (done ++ joined begun ([] ∷ [])) = subst P none (reading.parts []) in
    let f : done ++ joined begun ([] ∷ []) ≡ [] = cc in
    omega (arith, ap (length {A = List ℕ}) f, length-append done (joined begun ([] ∷ [])))

-- a text has one list of symbols, and so one list of parts
pub parts_one : (taken : List Symbol) → AllByRecursion IsSymbol taken → (parts : List (List ℕ)) → HasParts (flat_map spelled taken) parts
    → parts ≡ parts_of taken
parts_one taken each parts has =
    let split = split_symbols taken has.symbols [] each has.each (append-nil (flat_map spelled taken) ∙ has.written) in
    let none = no_more split.more split.written in
    sym has.between ∙ ap parts_of (split.is ∙ ap (λ (m : List Symbol). taken ++ m) none ∙ append-nil taken)

pub has_parts : (taken : List Symbol) → AllByRecursion IsSymbol taken → HasParts (flat_map spelled taken) (parts_of taken)
has_parts taken each = record { symbols = taken; each = each; written = refl; between = refl }

-- at the end of the symbols
pub parts_end : (taken : List Symbol) (done : List (List ℕ)) (begun : List ℕ) → Reading taken done begun → parts_of taken ≡ done ++ begun ∷ []
parts_end taken done begun reading =
    ap parts_of (sym (append-nil taken)) ∙ reading.parts [] ∙ ap (λ t. done ++ t ∷ []) (append-nil begun)

plain_symbol : (symbol : Symbol) (rest : List ℕ) → is_dot symbol ≡ false → spelled symbol ++ rest ≡ 46 ∷ [] → ⊥
plain_symbol (Char c) rest plain is =
    let e : c ≡ 46 = cc in
    let P : ℕ → Type 0 = λ n. is_dot (Char n) ≡ false in
    let f : true ≡ false = subst P e plain in cc
plain_symbol (SimpleEscape c) rest plain is = let e : ◌≡◌ {A = ℕ} 92 46 = cc in absurd (omega arith)
plain_symbol (DecimalEscape n) rest plain is = let e : ◌≡◌ {A = ℕ} 92 46 = cc in absurd (omega arith)

-- the text is not a dot alone
pub no_dot : (taken rest : List Symbol) → StartsPlain taken → (taken ≡ [] → rest ≡ []) → flat_map spelled (taken ++ rest) ≡ 46 ∷ [] → ⊥
no_dot [] rest plain none is =
    let e = none refl in
    let P : List Symbol → Type 0 = λ r. flat_map spelled r ≡ 46 ∷ [] in
    let f : ◌≡◌ {A = List ℕ} [] (46 ∷ []) = subst P e is in cc
no_dot (symbol ∷ taken) rest plain none is = plain_symbol symbol (flat_map spelled (taken ++ rest)) plain is

pub dot_text : (symbol : Symbol) → is_dot symbol ≡ true → spelled symbol ≡ 46 ∷ []
dot_text (Char c) dot = let e : c ≡ 46 = search (rules, tests) in ap (λ n. n ∷ []) e
dot_text (SimpleEscape c) dot = let no : false ≡ true = dot in cc
dot_text (DecimalEscape n) dot = let no : false ≡ true = dot in cc

-- a part with an octet is a label of the name
pub record Among (done : List (List ℕ)) (part : List ℕ) (name : List (List ℕ)) : Type 0 where
  pub more : List (List ℕ)
  pub is : name ≡ done ++ part ∷ more

among_dotted : (done : List (List ℕ)) (part : List ℕ) (parts name : List (List ℕ)) → 0 < length part
    → done ++ part ∷ parts ≡ name ++ [] ∷ [] → Among done part name
among_dotted [] part parts [] some is =
    let e : part ≡ [] = cc in absurd (omega (arith, ap (length {A = ℕ}) e))
among_dotted [] part parts (label ∷ name) some is =
    let e : label ≡ part = cc in record { more = name; is = ap (λ t. t ∷ name) e }
among_dotted (first ∷ done) part parts [] some is =
    let e : done ++ part ∷ parts ≡ [] = cc in
    absurd (omega (arith, ap (length {A = List ℕ}) e, length-append done (part ∷ parts)))
among_dotted (first ∷ done) part parts (label ∷ name) some is =
    let e : label ≡ first = cc in
    let f : done ++ part ∷ parts ≡ name ++ [] ∷ [] = cc in
    let among = among_dotted done part parts name some f in
    record { more = among.more; is = ap (λ t. t ∷ name) e ∙ ap (λ n. first ∷ n) among.is }

pub among : (done : List (List ℕ)) (part : List ℕ) (parts name : List (List ℕ)) → 0 < length part
    → IsListed (done ++ part ∷ parts) name → Among done part name
among done part parts name some listed = by_case listed.listed
  where
    by_case : (done ++ part ∷ parts ≡ name) ⊎ (done ++ part ∷ parts ≡ name ++ [] ∷ []) → Among done part name
    by_case (inl is) = record { more = parts; is = sym is }
    by_case (inr is) = among_dotted done part parts name some is

label_among : (done : List (List ℕ)) (part : List ℕ) (more : List (List ℕ)) → AllByRecursion IsLabel (done ++ part ∷ more) → IsLabel part
label_among [] part more each = each.0
label_among (first ∷ done) part more each = label_among done part more each.1

-- so it is short, and leaves room for the root
pub among-short : (done : List (List ℕ)) (part : List ℕ) (parts name : List (List ℕ)) → 0 < length part
    → IsListed (done ++ part ∷ parts) name → (length part ≤ 63) × (length (labels_wire done) + 1 + length part + 1 ≤ 255)
among-short done part parts name some listed =
    let found = among done part parts name some listed in
    let P : List (List ℕ) → Type 0 = λ n. IsName n in
    let is_name = subst P found.is listed.is_name in (
      (label_among done part found.more is_name.labels).short,
      omega (arith, is_name.short, length-wire-append done (part ∷ found.more), length-append part (wire found.more), length-wire_is found.more),
    )

-- an empty part is the last one
empty_dotted : (done : List (List ℕ)) (part : List ℕ) (parts name : List (List ℕ)) → AllByRecursion IsLabel name
    → done ++ [] ∷ part ∷ parts ≡ name ++ [] ∷ [] → ⊥
empty_dotted [] part parts [] each is = let e : part ∷ parts ≡ [] = cc in cc
empty_dotted [] part parts (label ∷ name) each is =
    let e : label ≡ [] = cc in omega (arith, each.0.some, ap (length {A = ℕ}) e)
empty_dotted (first ∷ done) part parts [] each is =
    let e : done ++ [] ∷ part ∷ parts ≡ [] = cc in
    omega (arith, ap (length {A = List ℕ}) e, length-append done ([] ∷ part ∷ parts))
empty_dotted (first ∷ done) part parts (label ∷ name) each is =
    let f : done ++ [] ∷ part ∷ parts ≡ name ++ [] ∷ [] = cc in empty_dotted done part parts name each.1 f

pub empty_listed : (done : List (List ℕ)) (part : List ℕ) (parts name : List (List ℕ))
    → IsListed (done ++ [] ∷ part ∷ parts) name → ⊥
empty_listed done part parts name listed = by_case listed.listed
  where
    by_case : (done ++ [] ∷ part ∷ parts ≡ name) ⊎ (done ++ [] ∷ part ∷ parts ≡ name ++ [] ∷ []) → ⊥
    by_case (inl is) =
        let P : List (List ℕ) → Type 0 = λ n. IsName n in
        let label = label_among done [] (part ∷ parts) (subst P (sym is) listed.is_name).labels in omega (arith, label.some)
    by_case (inr is) = empty_dotted done part parts name listed.is_name.labels is

-- one octet more than a label or a name may have
pub octet_over : (taken rest : List Symbol) (done : List (List ℕ)) (begun : List ℕ) (len start c : ℕ)
    → Reading taken done (begun ++ c ∷ []) → start ≡ length (labels_wire done) → len ≡ start + 1 + length begun
    → (len ≡ start + 64) ⊎ (253 < len) → (name : List (List ℕ)) → IsListed (parts_of (taken ++ rest)) name → ⊥
octet_over taken rest done begun len start c reading at long over name listed =
    let some = some_part rest in
    let part = (begun ++ c ∷ []) ++ some.part in
    let is : parts_of (taken ++ rest) ≡ done ++ part ∷ some.more =
    reading.parts rest ∙ ap (λ (p : List (List ℕ)). done ++ joined (begun ++ c ∷ []) p) some.is in
    let P : List (List ℕ) → Type 0 = λ p. IsListed p name in
    let size : length part ≡ length begun + 1 + length some.part =
    length-append (begun ++ c ∷ []) some.part ∙ ap (λ (n : ℕ). n + length some.part) (length-append begun (c ∷ [])) in
    let short = among-short done part some.more name (omega arith) (subst P is listed) in
    omega (arith, short.0, short.1)

-- a dot after an empty label
pub dot_empty : (taken rest : List Symbol) (done : List (List ℕ)) (begun : List ℕ) → Reading taken (done ++ begun ∷ []) []
    → length begun ≡ 0 → (name : List (List ℕ)) → IsListed (parts_of (taken ++ rest)) name → ⊥
dot_empty taken rest done (octet ∷ begun) reading none name listed = omega arith
dot_empty taken rest done [] reading none name listed =
    let some = some_part rest in
    let is : parts_of (taken ++ rest) ≡ done ++ [] ∷ some.part ∷ some.more =
    reading.parts rest ∙ ap (λ (p : List (List ℕ)). (done ++ [] ∷ []) ++ joined [] p) some.is
    ∙ append_assoc done ([] ∷ []) (some.part ∷ some.more) in
    let P : List (List ℕ) → Type 0 = λ p. IsListed p name in
    empty_listed done some.part some.more name (subst P is listed)

-- a symbol after a dot at the start
pub dot_more : (dot symbol : Symbol) (rest : List Symbol) → is_dot dot ≡ true → (name : List (List ℕ)) → IsListed (parts_of (dot ∷ symbol ∷ rest)) name → ⊥
dot_more dot symbol rest is_dot name listed =
    let some = some_part (symbol ∷ rest) in
    let is : parts_of (dot ∷ symbol ∷ rest) ≡ [] ∷ some.part ∷ some.more = rw (is_dot, some.is) refl in
    let P : List (List ℕ) → Type 0 = λ p. IsListed p name in
    empty_listed [] some.part some.more name (subst P is listed)
